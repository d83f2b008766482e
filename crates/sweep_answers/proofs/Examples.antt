-- Each input of the table is answered as it says, by one computation. Assumes nothing.
use mathlib.Core.Path.{◌≡◌, refl}
use mathlib.Core.List.{map}
use Rattle.calculus.specs.Ascii.{ascii}
use Rattle.calculus.specs.Letter.{letter_of}
use Rattle.calculus.specs.Parse.{term_of}
use Rattle.slices.specs.Numeral.{numeral, decimal, number_of, decimal_of}
use Rattle.line_states.specs.Parts.{parts_of}
use Rattle.small_texts.specs.Texts.{small_terms}
use Rattle.small_admission.specs.Admission.{admitted}
use Rattle.small_terms.specs.Sweep.{sweep_of}
use Rattle.sweep_line.specs.Numbers.{numbers_of}
use Rattle.sweep_answers.specs.Program.{sweep_program}
use Rattle.sweep_answers.specs.Examples.{Row, rows}

-- every row's input is printed as it says
pub rows_hold : map (λ (r : Row). sweep_program (ascii r.input)) rows ≡ map (λ (r : Row). ascii r.printed) rows
unfolding sweep_program numbers_of parts_of sweep_of admitted small_terms term_of letter_of numeral decimal number_of decimal_of
rows_hold = refl
