-- The number and the line of each case that checking refuses, and what it answers (REQUIREMENTS, Checking). The numbers of a bad line stand
-- beside its faults.
use Rattle.std.specs.Prelude.{ℕ, Result, Ok, Err}
use Rattle.reading.specs.Reply.{Reply, passed_on}
use Rattle.derivation_lines.specs.Number.{number_of}
use Rattle.checking.specs.declared.Refused.{Refused}
use Rattle.checking.specs.declared.Refused.TheVariants.{FileTooLong, FileEmpty, NoLineEnd, TooManyLines, BadLine}
use Rattle.checking.specs.declared.Checked.{Checked}

abbrev pub refusal_of : Refused → Reply ⊥
refusal_of FileTooLong = Reply.refused 10 0
refusal_of FileEmpty = Reply.refused 11 0
refusal_of NoLineEnd = Reply.refused 12 0
refusal_of TooManyLines = Reply.refused 13 0
refusal_of (BadLine fault line) = Reply.refused (number_of fault) line

abbrev pub answer_of : Result ℕ Refused → Reply ℕ
answer_of (Ok lines) = Reply.answered lines
answer_of (Err refused) = passed_on (refusal_of refused)

-- the number of lines of what is found of a file
abbrev pub lines_of : Result Checked Refused → Result ℕ Refused
lines_of (Ok checked) = Ok checked.lines
lines_of (Err refused) = Err refused
