-- Each book of the table is printed of as it says: by one computation, on what is read of the book and what becomes of its lines. Assumes
-- nothing.
use Prim.Native.Nat.{ℕ}
use mathlib.Core.Path.{◌≡◌, refl, ◌∙◌, ap₂}
use mathlib.Core.List.{List, [], ◌∷◌, map}
use Rattle.calculus.specs.Ascii.{ascii}
use Rattle.calculus.specs.Limits.{area_limit, fuel_limit}
use Rattle.calculus.specs.Letter.{letter_of}
use Rattle.slices.specs.Numeral.{decimal}
use Rattle.books.specs.Name.{is_name}
use Rattle.books.specs.Parse.{piece_of}
use Rattle.books.specs.Line.{line_of}
use Rattle.books.specs.Book.{book_of}
use Rattle.book_answers.specs.Examples.{Row, rows}
use Rattle.book_answers.specs.Program.{book_program}
use Rattle.book_answers.proofs.Programs.{read_line, program_reads}

-- the line of a row's book, told without areas
abbrev line_in : Row → List ℕ
line_in r = read_line fuel_limit area_limit (book_of (ascii r.book))

told : (table : List Row) → map (λ (r : Row). book_program (ascii r.book)) table ≡ map line_in table
told [] = refl
told (r ∷ table) = ap₂ (λ (line : List ℕ) (lines : List (List ℕ)). line ∷ lines) (program_reads (ascii r.book)) (told table)

computed : map line_in rows ≡ map (λ (r : Row). ascii r.printed) rows
unfolding letter_of is_name piece_of line_of book_of decimal
computed = refl

-- every row's book is printed of as it says
pub rows_hold : map (λ (r : Row). book_program (ascii r.book)) rows ≡ map (λ (r : Row). ascii r.printed) rows
rows_hold = told rows ∙ computed
