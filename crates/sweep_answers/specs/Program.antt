-- The program for small terms, as a function on the whole of standard input (REQUIREMENTS, Small terms).
use Rattle.std.specs.Prelude.{ℕ, List}
use Rattle.std.proofs.Math.Option.{Option, none, some}
use Rattle.small_terms.specs.Sweep.{sweep_of}
use Rattle.sweep_line.specs.Numbers.{Numbers, numbers_of}
use Rattle.sweep_answers.specs.Shown.{shape_line, shown_sweep}

abbrev pub numbers_line : Option Numbers → List ℕ
numbers_line none = shape_line
numbers_line (some (Numbers.numbers size fuel area)) = shown_sweep size (sweep_of size fuel area)

-- what the program prints
unfoldable pub sweep_program : List ℕ → List ℕ
sweep_program input = numbers_line (numbers_of input)
