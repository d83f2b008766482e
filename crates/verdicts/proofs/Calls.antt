-- What a call of comparing comes to: a refusal with the areas as they were, or both runs. Assumes nothing.
use Prim.Native.Nat.{ℕ}
use mathlib.Core.Path.{◌≡◌, refl}
use mathlib.Core.List.{List}
use lib.ListN.{length}
use Rattle.calculus.specs.Term.{Term}
use Rattle.calculus.specs.Run.{run}
use Rattle.reading.specs.Reply.{Reply}
use Rattle.admission.specs.Admission.{admitted}
use Rattle.admission.proofs.Calls.{Admits, Refused, admitted-held, refused-listed}
use Rattle.verdicts.specs.Comparing.{After, both_ran, first_admitted, comparing_of}

-- a call of comparing: refused with the areas as they were, or both runs
pub data Call (first : List ℕ) (len₁ : ℕ) (second : List ℕ) (len₂ : ℕ) (work : List ℕ) (fuel : ℕ) : After → Type 0 where
  first-refused :
      {number place : ℕ} → Refused len₁ number place →
      Call first len₁ second len₂ work fuel (After.after (Reply.refused number place) first second work)
  second-refused :
      {number place : ℕ} → Refused len₂ number place →
      Call first len₁ second len₂ work fuel (After.after (Reply.refused number place) first second work)
  made :
      (t u : Term) → Admits first len₁ work fuel t → Admits second len₂ work fuel u →
      Call first len₁ second len₂ work fuel (both_ran t (run fuel (length first) t) u (run fuel (length second) u) first second work)

pub call :
    (first : List ℕ) (len₁ : ℕ) (second : List ℕ) (len₂ : ℕ) (work : List ℕ) (fuel : ℕ) →
    Call first len₁ second len₂ work fuel (comparing_of first len₁ second len₂ work fuel)
unfolding comparing_of
call first len₁ second len₂ work fuel = go (admitted first len₁ work fuel) (admitted second len₂ work fuel) refl refl
  where
    go :
        (x y : Reply Term) → admitted first len₁ work fuel ≡ x → admitted second len₂ work fuel ≡ y →
        Call first len₁ second len₂ work fuel (first_admitted x y first second work fuel)
    go (Reply.refused n p) y e f = Call.first-refused (refused-listed first len₁ work fuel n p e)
    go (Reply.answered t) (Reply.refused n p) e f = Call.second-refused (refused-listed second len₂ work fuel n p f)
    go (Reply.answered t) (Reply.answered u) e f = Call.made t u (admitted-held first len₁ work fuel t e) (admitted-held second len₂ work fuel u f)
