-- The machine on its way: which steps it has made, where it is in the term reached, and what is left to do (REQUIREMENTS, Order,
-- Finishing). Assumes nothing.
use Rattle.std.specs.Prelude.{ℕ, ◌+◌, ◌-◌, ◌≤◌, ◌≡◌, Bool, cond, List, ◌++◌, length, take}
use Rattle.calculus.specs.Limits.{area_limit, fuel_limit}
use Rattle.calculus.specs.Letter.{Letter, byte}
use Rattle.calculus.specs.Term.{Term, text, size}
use Rattle.calculus.specs.Steps.{Steps}
use Rattle.calculus.specs.Counts.{tally}
use Rattle.slices.proofs.Finding.{Lacks}
use Rattle.contexts.specs.Frames.{Frame, plugged, texts}
use Rattle.cells.specs.Cell.{cell_limit}
use Rattle.cells.specs.Stands.{Stands}
use Rattle.cells.specs.Chain.{Chain}
use Rattle.cells.specs.Stage.{At}

-- the steps from a first term, `steps` of `most` being left; the letters in the area are final, and the rest of the term reached is in the
-- arena
pub record Running
    (room : ℕ) (first : Term) (used : List ℕ) (most : ℕ) (cells area counts : List ℕ) (top cur list written : ℕ) (left : Bool)
    (size' steps : ℕ)
    : Type 0 where
  pub term : Term
  pub rules : List ℕ
  pub made : Steps room first rules term
  pub counted : length rules + steps ≡ most
  pub tallied : counts ≡ tally (used ++ rules)
  pub sized : size' ≡ size term
  pub inside : written ≤ length area
  pub final : Lacks (byte Letter.stop) (take written area)
  pub at : At cells top cur list (take written area) term left

-- what the arena, the room and the counts must be for that
pub record Bounds (room : ℕ) (first : Term) (used : List ℕ) (most : ℕ) (cells area : List ℕ) : Type 0 where
  pub fits : size first ≤ room
  pub in_area : room ≤ length area
  pub limited : room ≤ area_limit
  pub few : length cells ≤ cell_limit
  pub fuelled : length used + most ≤ fuel_limit

-- the application in focus: the cells of its function and of its argument, and the list of what stands around it and behind it
pub record Focused (cells : List ℕ) (top f a rest : ℕ) (front : List ℕ) (t : Term) : Type 0 where
  pub function : Term
  pub argument : Term
  pub frames : List Frame
  pub pending : List Term
  pub function-stands : Stands cells top f function
  pub argument-stands : Stands cells top a argument
  pub chain : Chain cells top pending rest frames
  pub spelt : text t ≡ front ++ (text (plugged (Term.app function argument) frames) ++ texts pending)

-- what falls with each turn: the steps left, the free cells, the letters still to write, and whether there is another turn
abbrev pub to_go : (cells area : List ℕ) (top written steps : ℕ) (go : Bool) → ℕ
to_go cells area top written steps go = steps + (length cells - top) + (length area - written) + cond go 1 0
