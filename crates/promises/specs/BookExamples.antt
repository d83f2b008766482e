-- The proved examples of books (REQUIREMENTS, Books), as rows of one table: a book read, and its lines played on trees, as the definition
-- of the operation does between its tests of areas, store and fuel and what it leaves in them. (On the 65,536 bytes of a store the rows
-- are tested.) proofs/BookExamples.antt has the proof that covers the table. Every expected reply was written by hand from the paper.
use Rattle.std.specs.Prelude.{ℕ, suc, List, [], ◌∷◌, length}
use Prim.Native.String.{String}
use Rattle.calculus.specs.Ascii.{ascii}
use Rattle.calculus.specs.Term.{text}
use Rattle.calculus.specs.Run.{Outcome}
use Rattle.reading.specs.Reply.{Reply}
use Rattle.books.specs.Line.{Line}
use Rattle.books.specs.Book.{book_of}
use Rattle.books.specs.Play.{term_in, Play, play}

-- refused by that number at that line; the outcome and the line that does not finish; or the last line and the bytes of its result
pub data Answer : Type 0 where
  refused : (number line : ℕ) → Answer
  stopped : Outcome → (line : ℕ) → Answer
  finished : (line : ℕ) (result : List ℕ) → Answer

-- a book, played with that fuel in an area of so many bytes
pub data Row : Type 0 where
  row : (book : String) (fuel area : ℕ) → Answer → Row

abbrev pub ample_fuel : ℕ
ample_fuel = 1_000

abbrev pub ample_area : ℕ
ample_area = 128

-- a book that is refused, whatever its fuel and area
abbrev pub refuses : (book : String) (number line : ℕ) → Row
refuses book number line = Row.row book ample_fuel ample_area (Answer.refused number line)

-- one that finishes
abbrev pub finishes : (book : String) (fuel area line : ℕ) (result : String) → Row
finishes book fuel area line result = Row.row book fuel area (Answer.finished line (ascii result))

-- one that does not
abbrev pub stops : (book : String) (fuel area : ℕ) → Outcome → (line : ℕ) → Row
stops book fuel area o line = Row.row book fuel area (Answer.stopped o line)

abbrev pub rows : List Row
rows =
    finishes "a\t.II\nb\tB(a)(a)\n" ample_fuel ample_area 2 "BII" ∷
    finishes "a\tJ\nb\tR(a)\nc\tR(b)\n" ample_fuel ample_area 3 "RRJ" ∷
    stops "a\tJ\n" ample_fuel 0 Outcome.no_room 1 ∷
    stops "a\t.II\nb\tI\n" 0 ample_area Outcome.spent 1 ∷
    refuses "a\tR(a)\n" 27 1 ∷
    refuses "a\tJ\na\tR(b)\n" 26 2 ∷
    refuses "a\tJ\na\tR(\n" 25 2 ∷
    refuses "\n" 25 1 ∷
    refuses "a\n" 25 1 ∷
    refuses "a\t\tJ\n" 25 1 ∷
    refuses "a\t\n" 25 1 ∷
    refuses "a\tJJ\n" 25 1 ∷
    refuses "a\t()\n" 25 1 ∷
    refuses "a\t(toolongxx)\n" 25 1 ∷
    refuses "a\tR(b\n" 25 1 ∷
    refuses "\tJ\n" 25 1 ∷
    refuses "A\tJ\n" 25 1 ∷
    refuses "abcdefghi\tJ\n" 25 1 ∷
    refuses "" 11 0 ∷
    refuses "a\tJ" 12 0 ∷
    refuses "a\tR(b)\nb\tJ\n" 27 1 ∷
    Row.row "a\t.II\nb\tR(c)\n" 0 0 (Answer.refused 27 2) ∷
    finishes "a\t.II\nb\t.I(a)\n" 1 ample_area 2 "I" ∷
    finishes "a\t.II\nb\t.(a)J\n" ample_fuel ample_area 2 "J" ∷
    stops "a\tJ\nb\t.II\nc\tI\n" 0 ample_area Outcome.spent 2 ∷
    stops "a\t.BII.JRJ\n" ample_fuel 11 Outcome.no_room 1 ∷
    finishes "a\tRJ\nb\tH(a)(a)\n" ample_fuel ample_area 2 "HRJRJ" ∷
    finishes "a\t1\nb\t.(a)J\n" ample_fuel ample_area 2 "H1J" ∷
    finishes "abcdefgz\tJ\nb\tR(abcdefgz)\n" ample_fuel ample_area 2 "RJ" ∷
    stops "a\tRJ\nb\tR(a)\n" ample_fuel 2 Outcome.no_room 2 ∷
    finishes "a\tRJ\nb\tR(a)\n" ample_fuel 3 2 "RRJ" ∷
    []

abbrev pub of_play : Play → Answer
of_play (Play.stopped o line) = Answer.stopped o line
of_play (Play.finished []) = Answer.finished 0 []
of_play (Play.finished (r ∷ earlier)) = Answer.finished (suc (length earlier)) (text (term_in r))

abbrev pub of_book : (fuel area : ℕ) → Reply (List Line) → Answer
of_book fuel area (Reply.refused number line) = Answer.refused number line
of_book fuel area (Reply.answered lines) = of_play (play fuel area lines)

-- the row with what the definitions answer in the place of what is expected
unfoldable pub made : Row → Row
made (Row.row book fuel area expected) = Row.row book fuel area (of_book fuel area (book_of (ascii book)))
