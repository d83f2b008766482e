-- A batch that may go on in the next arena. Assumes nothing.
use Rattle.std.specs.Prelude.{ℕ, ◌+◌, ◌≤◌, List, length}
use Rattle.calculus.specs.Limits.{fuel_limit}
use Rattle.calculus.specs.Term.{Term}
use Rattle.machine.specs.Advancing.{Advanced}
use Rattle.machine.specs.declared.Made.{Made}

-- of a batch of that many steps at most, from some term on, so many are made; the area and the counts are as they leave them
pub record Underway (area counts : List ℕ) (most : ℕ) (made : Made) : Type 0 where
  pub term : Term
  pub used : List ℕ
  pub advanced : Advanced area term used most area counts made
  pub fuelled : length used + most ≤ fuel_limit
