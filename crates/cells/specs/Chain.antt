-- The list in the arena: what stands around the part in focus, the innermost application first, and then the terms behind it. Each of its
-- cells has its kind in the place of a letter, a term, and the rest of the list. Assumes nothing.
use Rattle.std.specs.Prelude.{ℕ, ◌<◌, ◌≡◌, List, [], ◌∷◌, get_or}
use Rattle.calculus.specs.Term.{Term}
use Rattle.contexts.specs.Frames.{Frame}
use Rattle.cells.specs.Cell.{letter_in, Cell}
use Rattle.cells.specs.Stands.{Stands}

-- the kinds: a term behind, the argument of the part, the pair that the part is the argument of
abbrev pub pending_kind : ℕ
pending_kind = 0

abbrev pub argument_kind : ℕ
argument_kind = 1

abbrev pub function_kind : ℕ
function_kind = 2

-- the terms behind; the cell at 0 is the end of the list
pub data Pending (cells : List ℕ) (top : ℕ) : ℕ → List Term → Type 0 where
  end : 0 < top → letter_in (get_or cells 0 0) ≡ pending_kind → Pending cells top 0 []
  more :
      {i x y : ℕ} {p : Term} {terms : List Term} →
      Cell cells top i pending_kind x y 0 → y < i → Stands cells top x p → Pending cells top y terms → Pending cells top i (p ∷ terms)

-- the frames, with these terms behind them
pub data Chain (cells : List ℕ) (top : ℕ) (terms : List Term) : ℕ → List Frame → Type 0 where
  none : {i : ℕ} → Pending cells top i terms → Chain cells top terms i []
  argument :
      {i x y : ℕ} {a : Term} {frames : List Frame} →
      Cell cells top i argument_kind x y 0 → y < i → Stands cells top x a → Chain cells top terms y frames →
      Chain cells top terms i (Frame.argument a ∷ frames)
  function :
      {i x y : ℕ} {u s : Term} {frames : List Frame} →
      Cell cells top i function_kind x y 0 → y < i → Stands cells top x (Term.B u s) → Chain cells top terms y frames →
      Chain cells top terms i (Frame.function u s ∷ frames)
