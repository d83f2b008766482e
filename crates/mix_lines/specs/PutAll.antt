-- Lines written into a list one behind the other, from index `at` on, each where it fits: the index behind the last, and the list.
use Rattle.std.specs.Prelude.{ℕ, List, [], ◌∷◌, ◌++◌}
use Rattle.slices.specs.Put.{put, behind}

abbrev pub put_all : (lines : List (List ℕ)) (at : ℕ) (dst : List ℕ) → ℕ × List ℕ
put_all [] at dst = (at, dst)
put_all (line ∷ lines) at dst = put_all lines (behind at line dst) (put at line dst)

-- lines one behind the other
abbrev pub joined : List (List ℕ) → List ℕ
joined [] = []
joined (line ∷ lines) = line ++ joined lines
