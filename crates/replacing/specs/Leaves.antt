-- What is answered of a text that is written to the front of an area, and what it leaves there (REQUIREMENTS, Books).
use Rattle.std.specs.Prelude.{ℕ, ◌<◌, ◌≤◌, ◌≡◌, List, length, Option, Some, None}
use Rattle.slices.specs.Put.{put}

-- it fits, and stands at the front; or it does not, and only the length of the area is known
abbrev pub Leaves : Option ℕ → (written area area' : List ℕ) → Type 0
Leaves (Some size) written area area' = (size ≡ length written) × (length written ≤ length area) × (area' ≡ put 0 written area)
Leaves None written area area' = (length area < length written) × (length area' ≡ length area)
