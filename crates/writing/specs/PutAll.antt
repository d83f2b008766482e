-- Pieces written one behind the other, each where it fits. Assumes nothing.
use Rattle.std.specs.Prelude.{ℕ, List, [], ◌∷◌}
use Rattle.slices.specs.Put.{put, behind}

-- pieces put one behind the other from an index on, each where it fits, and the index behind them
abbrev pub put_all : (at : ℕ) → List (List ℕ) → (dst : List ℕ) → List ℕ
put_all at [] dst = dst
put_all at (piece ∷ pieces) dst = put_all (behind at piece dst) pieces (put at piece dst)

abbrev pub behind_all : (at : ℕ) → List (List ℕ) → (dst : List ℕ) → ℕ
behind_all at [] dst = at
behind_all at (piece ∷ pieces) dst = behind_all (behind at piece dst) pieces (put at piece dst)
