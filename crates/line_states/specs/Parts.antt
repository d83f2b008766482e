-- A line of three fields, as a function on the whole input (REQUIREMENTS, Programs): two decimal numbers and a third field, tabs between,
-- ended by a line feed, and nothing else.
use Rattle.std.specs.Prelude.{ℕ, List, [], ◌∷◌}
use Rattle.std.proofs.Math.Option.{Option, none, some}
use Rattle.slices.specs.Split.{line_feed, split, fields}
use Rattle.slices.specs.Numeral.{decimal_of}

-- what stands in the fields; the third is any bytes but tab and line feed
pub data Parts : Type 0 where
  parts : (first second : ℕ) (third : List ℕ) → Parts

-- the two numbers and the third field
abbrev pub parts_with : Option ℕ → Option ℕ → List ℕ → Option Parts
parts_with none second third = none
parts_with (some first) none third = none
parts_with (some first) (some second) third = some (Parts.parts first second third)

-- exactly three fields
abbrev pub parts_fields : List (List ℕ) → Option Parts
parts_fields [] = none
parts_fields (a ∷ []) = none
parts_fields (a ∷ b ∷ []) = none
parts_fields (first ∷ second ∷ third ∷ []) = parts_with (decimal_of first) (decimal_of second) third
parts_fields (a ∷ b ∷ c ∷ d ∷ more) = none

-- exactly one line, ended by a line feed, and nothing behind it
abbrev pub parts_lines : List (List ℕ) → Option Parts
parts_lines [] = none
parts_lines (line ∷ []) = none
parts_lines (line ∷ [] ∷ []) = parts_fields (fields line)
parts_lines (line ∷ (b ∷ bytes) ∷ []) = none
parts_lines (line ∷ next ∷ other ∷ more) = none

-- the parts of the input; none where it is of another shape
unfoldable pub parts_of : List ℕ → Option Parts
parts_of input = parts_lines (split line_feed input)
