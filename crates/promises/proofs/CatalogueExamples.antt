-- The definitions answer each row as it says, by one computation. Assumes nothing.
use mathlib.Core.Path.{◌≡◌, refl}
use mathlib.Core.List.{map}
use Rattle.calculus.specs.Letter.{letter_of}
use Rattle.calculus.specs.Parse.{term_of}
use Rattle.reading.specs.Reading.{reading_of, term_read}
use Rattle.fingerprints.specs.Print.{print_of}
use Rattle.promises.specs.CatalogueExamples.{rows, made}

pub rows_hold : map made rows ≡ rows
unfolding made letter_of term_of reading_of term_read print_of
rows_hold = refl
