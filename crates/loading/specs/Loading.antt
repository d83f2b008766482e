-- What loading asks for. Assumes nothing.
use Rattle.std.specs.Prelude.{ℕ, ◌≤◌, ◌<◌, ◌≡◌, List, length}
use Rattle.calculus.specs.Term.{Term, text}
use Rattle.cells.specs.Cell.{cell_limit}

-- the bytes are the text of a term, and the arena has a cell for each letter and one more
pub record Loadable (s cells : List ℕ) : Type 0 where
  pub few : length cells ≤ cell_limit
  pub room : length s < length cells
  pub term : Term
  pub written : s ≡ text term
