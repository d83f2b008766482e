-- Where the machine is in a term: letters that stand in the area already, a part in focus, what stands around it, the terms behind it.
-- Assumes nothing.
use Rattle.std.specs.Prelude.{ℕ, ◌≡◌, Bool, true, false, List, ◌++◌}
use Rattle.calculus.specs.Term.{Term, text}
use Rattle.contexts.specs.Frames.{Frame, plugged, texts}
use Rattle.cells.specs.Stands.{Stands}
use Rattle.cells.specs.Chain.{Chain}

-- behind the front, the text of t goes on with the part at `cur` in its frames and the terms behind, both in the list
pub record Stage (cells : List ℕ) (top cur list : ℕ) (front : List ℕ) (t : Term) : Type 0 where
  pub focus : Term
  pub frames : List Frame
  pub pending : List Term
  pub stands : Stands cells top cur focus
  pub chain : Chain cells top pending list frames
  pub spelt : text t ≡ front ++ (text (plugged focus frames) ++ texts pending)

-- whether a part is left
pub data At (cells : List ℕ) (top cur list : ℕ) (front : List ℕ) (t : Term) : Bool → Type 0 where
  part : Stage cells top cur list front t → At cells top cur list front t true
  end : text t ≡ front → At cells top cur list front t false
