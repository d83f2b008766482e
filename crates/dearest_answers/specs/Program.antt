-- The program for the dearest small term, as a function on the whole of standard input (REQUIREMENTS, Programs).
use Rattle.std.specs.Prelude.{ℕ, List}
use Rattle.std.proofs.Math.Option.{Option, none, some}
use Rattle.small_terms.specs.Dearest.{dearest_of}
use Rattle.sweep_line.specs.Numbers.{Numbers, numbers_of}
use Rattle.sweep_answers.specs.Shown.{shape_line}
use Rattle.dearest_answers.specs.Shown.{shown_dearest}

abbrev pub numbers_line : Option Numbers → List ℕ
numbers_line none = shape_line
numbers_line (some (Numbers.numbers size fuel area)) = shown_dearest (dearest_of size fuel area)

-- what the program prints
unfoldable pub dearest_program : List ℕ → List ℕ
dearest_program input = numbers_line (numbers_of input)
