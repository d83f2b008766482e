-- The applications around a part, made into cells from the innermost outward: what it asks for, and what it leaves. Assumes nothing.
use Rattle.std.specs.Prelude.{ℕ, ◌+◌, ◌-◌, ◌≤◌, List, length}
use Rattle.calculus.specs.Term.{Term, size}
use Rattle.cells.specs.Cell.{cell_limit}
use Rattle.cells.specs.Stage.{Stage}

-- room for a cell a frame, and for one a letter that is not in the area yet
pub record Roomy (cells : List ℕ) (top cur list : ℕ) (front : List ℕ) (t : Term) : Type 0 where
  pub stage : Stage cells top cur list front t
  pub room : top + length stage.frames + (size t - length front) ≤ length cells

-- a part of some term, with that room
pub record Closable (cells : List ℕ) (top cur list : ℕ) : Type 0 where
  pub front : List ℕ
  pub term : Term
  pub roomy : Roomy cells top cur list front term
  pub few : length cells ≤ cell_limit

-- the machine is in the same terms, with the room that they had left
pub record Closed (cells : List ℕ) (top cur list : ℕ) (cells' : List ℕ) (top' cur' list' : ℕ) : Type 0 where
  pub staged : (front : List ℕ) (t : Term) → Stage cells top cur list front t → Stage cells' top' cur' list' front t
  pub roomy : (front : List ℕ) (t : Term) → Roomy cells top cur list front t → Roomy cells' top' cur' list' front t
