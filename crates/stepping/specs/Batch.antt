-- Several steps at once (REQUIREMENTS, Finishing): the steps that stepping would make one by one, as far as they go. How many are made is
-- left open; each of them is the next step of its term, has room in the area, and is counted. Assumes nothing.
use Rattle.std.specs.Prelude.{ℕ, ◌≤◌, ◌≡◌, List, length}
use Rattle.calculus.specs.Term.{Term}
use Rattle.calculus.specs.Steps.{Steps}
use Rattle.calculus.specs.Counts.{tally}
use Rattle.stepping.specs.Held.{Holds}

-- `Advances area t most made byRule size area'`: from t, by at most that many steps, to the term that the area holds now
pub record Advances (area : List ℕ) (t : Term) (most made : ℕ) (byRule : List ℕ) (size : ℕ) (area' : List ℕ) : Type 0 where
  pub rules : List ℕ
  pub term : Term
  pub steps : Steps (length area) t rules term
  pub few : length rules ≤ most
  pub counted : made ≡ length rules
  pub tallied : byRule ≡ tally rules
  pub held : Holds area' size term
