-- The number of each fault of a line of a book, and of a line that may have one (REQUIREMENTS, Books). No fault has a place of its own.
use Rattle.std.specs.Prelude.{ℕ, Result, Ok, Err}
use Rattle.reading.specs.Reply.{Reply, number_in}
use Rattle.book_lines.specs.declared.Fault.{Fault}
use Rattle.book_lines.specs.declared.Fault.TheVariants.{Malformed, NameGiven, NameUnknown}

abbrev pub refusal_of : Fault → Reply ⊥
refusal_of Malformed = Reply.refused 25 0
refusal_of NameGiven = Reply.refused 26 0
refusal_of NameUnknown = Reply.refused 27 0

-- the number of a bad line, 0 of a sound one
abbrev pub number_of : Result Unit Fault → ℕ
number_of (Ok done) = 0
number_of (Err fault) = number_in (refusal_of fault)
