-- The operations' definitions answer each row as it says, by one computation. Assumes nothing.
use mathlib.Core.Path.{◌≡◌, refl}
use mathlib.Core.List.{map}
use Rattle.calculus.specs.Letter.{letter_of}
use Rattle.calculus.specs.Parse.{term_of}
use Rattle.slices.specs.Numeral.{number_of}
use native.Mathlib.Decide.{dec_le}
use Rattle.types.specs.Signs.{sign_of, signs_of}
use Rattle.types.specs.Parse.{type_of, context_of}
use Rattle.reading.specs.Reading.{reading_of, term_read}
use Rattle.finishing.specs.Finishing.{finishing_of}
use Rattle.counting.specs.Counting.{counting_of}
use Rattle.joining.specs.Joining.{joining_of}
use Rattle.bell_rows.specs.Row.{is_row}
use Rattle.rows.specs.Ringing.{ringing_of}
use Rattle.derivation_files.specs.Line.{name_of, premise_of}
use Rattle.derivation_files.specs.Checking.{checking_of}
use Rattle.promises.specs.Examples.{rows, made, stated}

pub rows_hold : map made rows ≡ map stated rows
unfolding made stated dec_le letter_of term_of number_of sign_of signs_of type_of context_of reading_of term_read finishing_of counting_of joining_of is_row ringing_of name_of premise_of checking_of
rows_hold = refl
