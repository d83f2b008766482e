-- The definitions answer each row as it says, by one computation. Assumes nothing.
use mathlib.Core.Path.{◌≡◌, refl}
use mathlib.Core.List.{map}
use Rattle.calculus.specs.Letter.{letter_of}
use Rattle.books.specs.Name.{is_name}
use Rattle.books.specs.Parse.{piece_of}
use Rattle.books.specs.Line.{line_of}
use Rattle.books.specs.Book.{book_of}
use Rattle.promises.specs.BookExamples.{rows, made}

pub rows_hold : map made rows ≡ rows
unfolding made letter_of is_name piece_of line_of book_of
rows_hold = refl
