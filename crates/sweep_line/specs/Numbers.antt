-- The line that a program for small terms reads, as a function on the whole input (REQUIREMENTS, Programs): a line of three fields, all of
-- them numbers.
use Rattle.std.specs.Prelude.{ℕ, List}
use Rattle.std.proofs.Math.Option.{Option, none, some}
use Rattle.slices.specs.Numeral.{decimal_of}
use Rattle.line_states.specs.Parts.{Parts, parts_of}

-- the size of the terms, the fuel and the area size
pub data Numbers : Type 0 where
  numbers : (size fuel area : ℕ) → Numbers

-- two numbers, if the third field is one too
abbrev pub numbers_if : (size fuel : ℕ) → Option ℕ → Option Numbers
numbers_if size fuel none = none
numbers_if size fuel (some area) = some (Numbers.numbers size fuel area)

abbrev pub numbers_with : Option Parts → Option Numbers
numbers_with none = none
numbers_with (some (Parts.parts first second third)) = numbers_if first second (decimal_of third)

-- what the input asks for; none where it is of another shape
unfoldable pub numbers_of : List ℕ → Option Numbers
numbers_of input = numbers_with (parts_of input)
