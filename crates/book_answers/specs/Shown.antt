-- The line that is printed of what became of a book (REQUIREMENTS, Programs).
use Rattle.std.specs.Prelude.{ℕ, List, take}
use Rattle.calculus.specs.Run.{Outcome}
use Rattle.reading.specs.Reply.{Reply}
use Rattle.printing.specs.Printed.{line_of, count_of}
use Rattle.answer_lines.specs.Shown.{word, refused_line}
use Rattle.books.specs.Playing.{Played, After}

-- the outcome and the line and, where the book finished, the result
abbrev pub played_line : Outcome → (line : ℕ) (result : List ℕ) → List ℕ
played_line Outcome.finished line result = line_of (word Outcome.finished) line result
played_line Outcome.spent line result = count_of (word Outcome.spent) line
played_line Outcome.no_room line result = count_of (word Outcome.no_room) line

-- the result stands at the front of the area
abbrev pub played_in : Played → (area : List ℕ) → List ℕ
played_in (Played.played o line size) area = played_line o line (take size area)

abbrev pub reply_line : Reply Played → (area : List ℕ) → List ℕ
reply_line (Reply.refused number line) area = refused_line number line
reply_line (Reply.answered x) area = played_in x area

abbrev pub shown_book : After → List ℕ
shown_book (After.after reply area work store) = reply_line reply area
