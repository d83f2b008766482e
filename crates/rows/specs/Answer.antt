-- The number and the place of each case that a piece is refused for, and the values of what is answered (REQUIREMENTS, Rows).
use Rattle.std.specs.Prelude.{Result, Ok, Err}
use Rattle.reading.specs.Reply.{Reply, passed_on}
use Rattle.reading.specs.Answer.{refusal_of as misread_of}
use Rattle.rows.specs.Ringing.{Rung}
use Rattle.rows.specs.declared.Refused.{Refused}
use Rattle.rows.specs.declared.Refused.TheVariants.{Unread, NoChain, NoTable, BadRow}
use Rattle.rows.specs.declared.Rung.{Rung as Declared}

abbrev pub refusal_of : Refused → Reply ⊥
refusal_of (Unread misread) = misread_of misread
refusal_of NoChain = Reply.refused 20 0
refusal_of NoTable = Reply.refused 21 0
refusal_of (BadRow number) = Reply.refused 22 number

abbrev pub answer_of : Result Declared Refused → Reply Rung
answer_of (Ok rung) = Reply.answered (Rung.rung rung.rows rung.different)
answer_of (Err refused) = passed_on (refusal_of refused)
