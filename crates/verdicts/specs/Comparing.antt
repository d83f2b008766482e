-- What comparing answers and leaves in the areas, for any call (REQUIREMENTS, Comparing).
use Rattle.std.specs.Prelude.{ℕ, Bool, true, false, List, length}
use Rattle.slices.specs.Same.{same}
use Rattle.calculus.specs.Term.{Term, text}
use Rattle.calculus.specs.Run.{Outcome, Run, run, outcome, reached}
use Rattle.reading.specs.Reply.{Reply}
use Rattle.reading.specs.Area.{holding, cleared}
use Rattle.admission.specs.Admission.{admitted}

-- what comparing answers
pub data Compared : Type 0 where
  same-results different-results undecided : Compared

-- the reply, and the three areas at exit
pub data After : Type 0 where
  after : Reply Compared → (first second work : List ℕ) → After

abbrev pub by_same : Bool → Compared
by_same true = Compared.same-results
by_same false = Compared.different-results

-- undecided if either was not finished, else as the result bytes are
abbrev pub verdict : Outcome → Outcome → (first second : List ℕ) → Compared
verdict Outcome.finished Outcome.finished first second = by_same (same first second)
verdict Outcome.finished Outcome.spent first second = Compared.undecided
verdict Outcome.finished Outcome.no_room first second = Compared.undecided
verdict Outcome.spent other first second = Compared.undecided
verdict Outcome.no_room other first second = Compared.undecided

-- both runs, from t and from u
abbrev pub both_ran : (t : Term) (r : Run) (u : Term) (s : Run) (first second work : List ℕ) → After
both_ran t r u s first second work =
    After.after (Reply.answered (verdict (outcome r) (outcome s) (text (reached t r)) (text (reached u s))))
    (holding (reached t r) first)
    (holding (reached u s) second)
    (cleared work)

abbrev pub second_admitted : (t : Term) → Reply Term → (first second work : List ℕ) (fuel : ℕ) → After
second_admitted t (Reply.refused number place) first second work fuel = After.after (Reply.refused number place) first second work
second_admitted t (Reply.answered u) first second work fuel = both_ran t (run fuel (length first) t) u (run fuel (length second) u) first second work

abbrev pub first_admitted : Reply Term → Reply Term → (first second work : List ℕ) (fuel : ℕ) → After
first_admitted (Reply.refused number place) other first second work fuel = After.after (Reply.refused number place) first second work
first_admitted (Reply.answered t) other first second work fuel = second_admitted t other first second work fuel

unfoldable pub comparing_of : (first : List ℕ) (len₁ : ℕ) (second : List ℕ) (len₂ : ℕ) (work : List ℕ) (fuel : ℕ) → After
comparing_of first len₁ second len₂ work fuel =
    first_admitted (admitted first len₁ work fuel) (admitted second len₂ work fuel) first second work fuel
