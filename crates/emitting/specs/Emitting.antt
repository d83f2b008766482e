-- Letters from the arena into the area: what it asks for, and what it leaves. Assumes nothing.
use Rattle.std.specs.Prelude.{ℕ, ◌+◌, ◌-◌, ◌/◌, ◌≤◌, ◌<◌, ◌≡◌, Bool, List, [], ◌∷◌, ◌++◌, length, get_or, take}
use Rattle.calculus.specs.Term.{Term, size}
use Rattle.cells.specs.Cell.{cell_limit, letter_in, Kept, Free}
use Rattle.cells.specs.Chain.{pending_kind}
use Rattle.cells.specs.Stage.{Stage, At}

-- a part with nothing around it, whose first letter has room in the area, and room for a cell
pub record Emittable (cells : List ℕ) (top cur list : ℕ) (area : List ℕ) (written : ℕ) : Type 0 where
  pub term : Term
  pub stage : Stage cells top cur list (take written area) term
  pub bare : letter_in (get_or cells list 0) ≡ pending_kind
  pub room : Free cells top
  pub inside : written < length area

-- one letter more stands in the area, and what is left of the term comes behind it
pub record Emitted
    (cells : List ℕ) (top cur : ℕ) (area : List ℕ) (written : ℕ) (t : Term)
    (cells' : List ℕ) (top' cur' list' : ℕ) (area' : List ℕ) (written' : ℕ) (left : Bool)
    : Type 0 where
  pub kept : Kept top cells cells'
  pub higher : top ≤ top'
  pub one_more : top' ≤ top + 1
  pub onward : written' ≡ written + 1
  pub front : take (written + 1) area' ≡ take written area ++ (letter_in (get_or cells cur 0) ∷ [])
  pub at : At cells' top' cur' list' (take (written + 1) area') t left

-- a term of which a part is left, with room for all of it in the area, and in the arena for its frames and its letters
pub record Unloadable (cells : List ℕ) (top cur list : ℕ) (area : List ℕ) (written : ℕ) : Type 0 where
  pub term : Term
  pub stage : Stage cells top cur list (take written area) term
  pub inside : size term ≤ length area
  pub few : length cells ≤ cell_limit
  pub room : top + (size term - written) + (size term - written) / 2 ≤ length cells
