-- The number and the line of each case that a book is refused for, and what is answered of a book that is not (REQUIREMENTS, Books). The
-- numbers of a bad line stand beside its faults.
use Rattle.std.specs.Prelude.{ℕ, List, Result, Ok, Err}
use Rattle.reading.specs.Reply.{Reply, number_in, passed_on}
use Rattle.book_lines.specs.Number.{refusal_of as fault}
use Rattle.book_reading.specs.Table.{no_keys}
use Rattle.book_reading.specs.declared.Names.{Names}
use Rattle.book_reading.specs.declared.Refused.{Refused}
use Rattle.book_reading.specs.declared.Refused.TheVariants.{TooLong, Empty, NoLineEnd, BadLine}

abbrev pub refusal_of : Refused → Reply ⊥
refusal_of TooLong = Reply.refused 10 0
refusal_of Empty = Reply.refused 11 0
refusal_of NoLineEnd = Reply.refused 12 0
refusal_of (BadLine wrong line) = Reply.refused (number_in (fault wrong)) line

-- how many lines there are
abbrev pub answer_of : Result Names Refused → Reply ℕ
answer_of (Ok names) = Reply.answered names.count
answer_of (Err refused) = passed_on (refusal_of refused)

-- the numbers of the names, zeros alone beside a refusal
abbrev pub keys_in : Result Names Refused → List ℕ
keys_in (Ok names) = names.keys
keys_in (Err refused) = no_keys
