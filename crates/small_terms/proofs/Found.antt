-- The ways out of `dearest`: a refusal beside no text, or the text of the dearest term. Carried by `lead-dearest`, and by the function
-- giving whatever is the dearest. Assumes nothing.
use Prim.Native.Nat.{ℕ, ◌-◌, ◌≤◌}
use mathlib.Core.Path.{◌≡◌, sym, ◌∙◌, ap, ap₂}
use mathlib.Core.List.{List, ◌++◌}
use lib.ListN.{length, take, drop, replicate}
use lib.Seq.{length-take-le}
use Rattle.slices.proofs.Part.{drop-zeros}
use Rattle.calculus.specs.Term.{text, size}
use Rattle.reading.specs.Reply.{Reply, passed_on}
use Rattle.small_texts.specs.Texts.{largest_size, term_at, ways}
use Rattle.small_texts.specs.Writing.{written}
use Rattle.small_texts.proofs.Indexed.{text_at_lem, text-written}
use Rattle.small_admission.specs.Admission.{admitted, if_admitted}
use Rattle.small_admission.specs.Answer.{refusal_of}
use Rattle.small_admission.specs.declared.Refused.{Refused}
use Rattle.small_admission.proofs.Replies.{said-admitted}
use Rattle.small_terms.specs.Dearest.{Dear, dearest_of}
use Rattle.small_terms.specs.Answer.{Found, no_text, found_as}
use Rattle.small_terms.specs.Loop.{Leading}
use Rattle.small_terms.proofs.Leading.{lead-dearest}
use Rattle.small_terms.proofs.Dearer.{dearest-is, best}

module _ (n fuel area : ℕ) where
  -- beside a refusal there is no text
  pub none_found :
      (e : Refused) → passed_on (refusal_of e) ≡ admitted n fuel area →
      Found.found (passed_on (refusal_of e)) no_text 0 ≡ found_as (dearest_of n fuel area)
  unfolding dearest_of
  none_found e said = ap (λ (r : Reply Unit). found_as (if_admitted r (best n fuel area))) said

  -- else it is that of the dearest term
  pub dearest-found :
      Reply.answered tt ≡ admitted n fuel area → (index k : ℕ) → Leading n fuel area (ways 1 n) index k → (front : List ℕ) →
      front ≡ written index (take n no_text) → Found.found (Reply.answered tt) (front ++ drop n no_text) k ≡ found_as (dearest_of n fuel area)
  unfolding dearest_of
  dearest-found said index k l front says =
      let allowed = said-admitted n fuel area said in
      let short : n ≤ length no_text = allowed.small.1 in
      let dearest = lead-dearest n fuel area index k l in
      let t = term_at n index in
      let spelled : front ≡ text t =
      says ∙ text-written n index (take n no_text) (length-take-le n no_text short) short l.inside ∙ text_at_lem n index l.inside in
      let behind : drop n no_text ≡ replicate (length no_text - size t) 0 =
      drop-zeros n largest_size ∙ ap (λ (m : ℕ). replicate (largest_size - m) 0) (sym dearest.small.sized) in
      ap (λ (s : List ℕ). Found.found (Reply.answered tt) s k) (ap₂ ◌++◌ spelled behind)
      ∙ ap (λ (d : Dear). found_as (Reply.answered d)) (sym (dearest-is allowed.small.0 dearest))
      ∙ ap (λ (r : Reply Unit). found_as (if_admitted r (best n fuel area))) said
