-- What a sweep and the dearest term say of small terms: by the laws of `small_terms`. Assumes nothing.
use Prim.Native.Nat.{ℕ}
use mathlib.Core.Path.{◌≡◌, refl, sym, ◌∙◌, ap, ap₂}
use mathlib.Core.List.Memᴰ
use mathlib.Core.List.{List, [], ◌∷◌, map}
use lib.ListN.{length}
use Rattle.calculus.specs.Term.{Term, text}
use Rattle.calculus.specs.Run.{outcome}
use Rattle.calculus.proofs.Runs.{runs-run}
use Rattle.repeats.specs.Repeats.{NoRepeats}
use Rattle.small_texts.specs.Small.{Increasing}
use Rattle.small_texts.specs.Texts.{small_terms, ways}
use Rattle.small_texts.proofs.Ordered.{before_irreflexive}
use Rattle.small_texts.proofs.Each.{each-small, each_unique}
use Rattle.small_texts.proofs.Indexed.{length-small}
use Rattle.small_terms.proofs.Sweeps.{never_none, all-counted, steps-few, each-finishes}
use Rattle.small_terms.proofs.Dearer.{gives_dearest, one-dearest}
use Rattle.small_terms.proofs.Fuel.{fuel-enough, fuel-needed}
use Rattle.promises.specs.SmallTerms.{SmallTermsSay}

-- terms whose texts are in byte order are all different
in_order_once : (ts : List Term) → Increasing (map text ts) → NoRepeats ts
in_order_once [] h = NoRepeats.empty
in_order_once (t ∷ ts) (Increasing.first before rest) =
    NoRepeats.fresh (λ m. before_irreflexive (before (text t) (Memᴰ.map text m))) (in_order_once ts rest)

counted : (ns : List ℕ) → map (λ (n : ℕ). length (small_terms n)) ns ≡ map (λ (n : ℕ). ways 1 n) ns
counted [] = refl
counted (n ∷ ns) = ap₂ (λ (k : ℕ) (ks : List ℕ). k ∷ ks) (length-small n) (counted ns)

pub small-terms_say : SmallTermsSay
small-terms_say =
    record {
      each = each-small;
      one_list = each_unique;
      none-twice = λ n ts each. in_order_once ts each.in_order;
      counts = counted (1 ∷ 2 ∷ 3 ∷ 4 ∷ 5 ∷ 6 ∷ 7 ∷ []);
      all-counted = all-counted;
      never_none = never_none;
      all_finished =
          λ n fuel area f s o k e all t small r runs.
          ap outcome (sym (runs-run runs)) ∙ each-finishes n fuel area f s o k e all t ((each-small n).complete t small);
      steps-few = steps-few;
      some-dearest = λ n fuel area sized. let (t, k, e, d) = gives_dearest n fuel area sized in (t, k, d);
      one-dearest = λ n fuel area t u k m. one-dearest;
      fuel-enough = λ n fuel area t u k m d small f. fuel-enough d u m small f;
      fuel-needed = λ n fuel area t k less m d h. fuel-needed d less m h;
    }
