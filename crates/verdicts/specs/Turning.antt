-- What comparing says of turning: same exactly when, both runs finished, the two first terms can be turned into each other.
-- REQUIREMENTS, Comparing; REQUIREMENTS, Demands.
use Rattle.std.specs.Prelude.{ℕ, ◌≡◌, ◌↔◌, List, length}
use Rattle.calculus.specs.Term.{Term}
use Rattle.calculus.specs.Run.{Outcome, run, outcome}
use Rattle.calculus.specs.Turning.{Turn}
use Rattle.reading.specs.Reply.{Reply}
use Rattle.admission.specs.Admission.{admitted}
use Rattle.verdicts.specs.Comparing.{Compared}

unfoldable pub SameIfTurned : Reply Compared → (first : List ℕ) (len₁ : ℕ) (second : List ℕ) (len₂ : ℕ) (work : List ℕ) (fuel : ℕ) → Type 0
SameIfTurned answer first len₁ second len₂ work fuel =
    (t u : Term) →
    admitted first len₁ work fuel ≡ Reply.answered t →
    admitted second len₂ work fuel ≡ Reply.answered u →
    outcome (run fuel (length first) t) ≡ Outcome.finished →
    outcome (run fuel (length second) u) ≡ Outcome.finished → (answer ≡ Reply.answered Compared.same-results) ↔ Turn t u
