-- Comparing answers same exactly when, both runs finished, the two first terms can be turned into each other. Assumes nothing.
use Prim.Native.Nat.{ℕ}
use mathlib.Core.Path.{◌≡◌, refl, sym, ◌∙◌, ap, ap₂}
use mathlib.Core.Bool.{Bool, true, false}
use mathlib.Core.Logic.{◌↔◌}
use mathlib.Core.List.{List}
use lib.ListN.{length}
use Rattle.slices.specs.Same.{same}
use Rattle.slices.proofs.Same.{same_equal, equal_same}
use Rattle.calculus.specs.Term.{Term, text}
use Rattle.calculus.specs.Run.{Outcome, run, outcome, reached}
use Rattle.calculus.proofs.Results.{results_equal}
use Rattle.reading.specs.Reply.{Reply}
use Rattle.admission.specs.Admission.{admitted}
use Rattle.verdicts.specs.Comparing.{Compared, After, by_same, verdict, first_admitted, comparing_of}
use Rattle.verdicts.specs.Turning.{SameIfTurned}

abbrev reply_in : After → Reply Compared
reply_in (After.after reply first second work) = reply

-- the answer is the verdict on the two runs
both-answer :
    (first : List ℕ) (len₁ : ℕ) (second : List ℕ) (len₂ : ℕ) (work : List ℕ) (fuel : ℕ) (t u : Term) →
    admitted first len₁ work fuel ≡ Reply.answered t →
    admitted second len₂ work fuel ≡ Reply.answered u →
    let r = run fuel (length first) t in
    let s = run fuel (length second) u in
    reply_in (comparing_of first len₁ second len₂ work fuel) ≡ Reply.answered (verdict (outcome r) (outcome s) (text (reached t r)) (text (reached u s)))
unfolding comparing_of
both-answer first len₁ second len₂ work fuel t u e f = ap₂ (λ (x y : Reply Term). reply_in (first_admitted x y first second work fuel)) e f

by_same_lem : (x y : List ℕ) → (◌≡◌ {A = Reply Compared} (Reply.answered (by_same (same x y))) (Reply.answered Compared.same-results)) ↔ (x ≡ y)
by_same_lem x y = (λ e. same_equal x y (go (same x y) e), λ e. ap (λ (b : Bool). Reply.answered (by_same b)) (equal_same x y e))
  where
    go : (b : Bool) → ◌≡◌ {A = Reply Compared} (Reply.answered (by_same b)) (Reply.answered Compared.same-results) → b ≡ true
    go true e = refl
    go false e = cc

-- whatever comparing answers, it is same exactly on terms that can be turned into each other
pub same_if_turned :
    (answer : Reply Compared) (first' second' work' : List ℕ) (first : List ℕ) (len₁ : ℕ) (second : List ℕ) (len₂ : ℕ) (work : List ℕ) (fuel : ℕ) →
    After.after answer first' second' work' ≡ comparing_of first len₁ second len₂ work fuel →
    SameIfTurned answer first len₁ second len₂ work fuel
unfolding SameIfTurned
same_if_turned answer first' second' work' first len₁ second len₂ work fuel is t u e f done₁ done₂ =
    let r = run fuel (length first) t in
    let s = run fuel (length second) u in
    let x = text (reached t r) in
    let y = text (reached u s) in
    let answered : answer ≡ Reply.answered (by_same (same x y)) =
    ap reply_in is ∙ both-answer first len₁ second len₂ work fuel t u e f ∙ ap₂ (λ (o p : Outcome). Reply.answered (verdict o p x y)) done₁ done₂ in
    let exactly = results_equal fuel (length first) fuel (length second) t u done₁ done₂ in
    (λ g. exactly.0 ((by_same_lem x y).0 (sym answered ∙ g)), λ turns. answered ∙ (by_same_lem x y).1 (exactly.1 turns))
