-- The number and the place of each case that joining refuses, and what it answers (REQUIREMENTS, Joining).
use Rattle.std.specs.Prelude.{ℕ, Result, Ok, Err}
use Rattle.reading.specs.Reply.{Reply, passed_on}
use Rattle.reading.specs.Answer.{refusal_of as misreadRefusal}
use Rattle.joining.specs.declared.Refused.{Refused}
use Rattle.joining.specs.declared.Refused.TheVariants.{Unread, TooLarge}

abbrev pub refusal_of : Refused → Reply ⊥
refusal_of (Unread misread) = misreadRefusal misread
refusal_of TooLarge = Reply.refused 31 0

abbrev pub answer_of : Result ℕ Refused → Reply ℕ
answer_of (Ok size) = Reply.answered size
answer_of (Err refused) = passed_on (refusal_of refused)
