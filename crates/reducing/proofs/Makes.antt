-- The redex that the search ends at, by a table of ends that is right in the outermost application, is rewritten as the next step is made.
-- Assumes nothing.
use Prim.Native.Nat.{ℕ, ◌+◌}
use native.Mathlib.Omega.{arith}
use mathlib.Core.Path.{◌≡◌, sym, ◌∙◌, ap, subst}
use mathlib.Core.List.{List, ◌++◌}
use lib.ListN.{length, length-append}
use Rattle.std.specs.Prelude.{Option, Some, None}
use Rattle.calculus.specs.Letter.{Letter, byte}
use Rattle.calculus.specs.Term.{Term, text, size}
use Rattle.calculus.specs.Order.{Next, next}
use Rattle.calculus.proofs.PrefixCode.{length-text}
use Rattle.slices.specs.Find.{index_of}
use Rattle.parts.specs.Skip.{end_at}
use Rattle.parts.specs.Ends.{listed, Ends}
use Rattle.redexes.specs.Moves.{Leads}
use Rattle.redexes.specs.Spot.{Redex}
use Rattle.redexes.proofs.Moves.{spot-laid}
use Rattle.redexes.proofs.Found.{first-none, search_found}
use Rattle.rewriting.specs.declared.Rewrite.{Rewrite}
use Rattle.rewriting.specs.Rewriting.{rewrite_of}
use Rattle.rewriting.proofs.Rules.{Fires, FiresBy, fires}
use Rattle.reducing.specs.Makes.{Makes, MadeBy}

-- the sizes of a front, a term and a back
length_three : (x : List ℕ) (t : Term) (y : List ℕ) → length (x ++ (text t ++ y)) ≡ length x + size t + length y
length_three x t y = omega (arith, length-append x (text t ++ y), length-append (text t) y, length-text t)

module _ {t : Term} {from p : ℕ} (found : Redex t from p) where
  -- what makes the step of the redex makes that of the whole
  fired-makes : {w : Rewrite} → Fires found.spot.function found.spot.argument found.spot.front found.spot.back (text t) w → Makes t w
  fired-makes {w} fired =
      let spot = found.spot in
      let redex = Term.app spot.function spot.argument in
      let whole = spot.steps w.rule fired.value fired.step in
      let long : size t ≡ p + size redex + length spot.back =
      omega (arith, length-text t, ap length spot.spelt, length_three spot.front redex spot.back, spot.place) in
      let sum : size whole.reduct ≡ p + size fired.value + length spot.back =
      omega
      (arith, length-text whole.reduct, ap length whole.spelt, length_three spot.front fired.value spot.back, spot.place) in
      record {
        reduct = whole.reduct;
        step = whole.step;
        spelt = fired.spelt ∙ sym whole.spelt;
        grows = omega (arith, fired.grows);
        exact = λ k. omega (arith, fired.exact k);
      }

  fired-made :
      (w : Option Rewrite) → FiresBy found.spot.function found.spot.argument found.spot.front found.spot.back (text t) w → MadeBy t w
  fired-made None never = never
  fired-made (Some w) fired = fired-makes fired

  -- what the rule that applies to the redex makes of the text
  redex-makes : {end_of : ℕ → ℕ} → Ends end_of (text t) from (end_at (text t) from) → MadeBy t (rewrite_of end_of (text t) p)
  redex-makes {end_of} right =
      let spot = found.spot in
      let inside : Ends end_of (text t) p (p + size (Term.app spot.function spot.argument)) =
      λ i h k. right i (omega (arith, found.begins)) (omega (arith, found.ends)) in
      fired-made (rewrite_of end_of (text t) p)
      (fires end_of spot.function spot.argument (spot-laid spot) inside found.no_function found.no_argument)

module _ (t : Term) (s : List ℕ) (first : ℕ) (e : s ≡ text t) (at : first ≡ index_of (byte Letter.stop) s) where
  -- whether the first full stop stands at the end is the same of s and of the text
  text-length : length s ≡ size t
  text-length = ap length e ∙ length-text t

  first_of : first ≡ index_of (byte Letter.stop) (text t)
  first_of = at ∙ ap (index_of (byte Letter.stop)) e

  -- the rewrite at the index that the search ends at makes the next step
  pub looked-up-makes :
      (p : ℕ) (ends : List ℕ) (w : Option Rewrite) → ¬ (first ≡ length s) → Ends (listed ends) s first (end_at s first) →
      Leads (listed ends) s first p → w ≡ rewrite_of (listed ends) s p → MadeBy t w
  looked-up-makes p ends w some stored leads q =
      let right = subst (λ (l : List ℕ). Ends (listed ends) l first (end_at l first)) e stored in
      let led = subst (λ (l : List ℕ). Leads (listed ends) l first p) e leads in
      let found = search_found t first first_of (λ n. some (n ∙ sym text-length)) right led in
      subst (MadeBy t) (sym (q ∙ ap (λ (l : List ℕ). rewrite_of (listed ends) l p) e)) (redex-makes found right)

  -- where there is no full stop, nothing comes next
  pub nothing-next : first ≡ length s → next t ≡ Next.stop
  nothing-next none = first-none t (sym first_of ∙ none ∙ text-length)
