-- The number and the place of each case that admission refuses, and what it answers (REQUIREMENTS, Finishing).
use Rattle.std.specs.Prelude.{Result, Ok, Err}
use Rattle.reading.specs.Reply.{Reply, passed_on}
use Rattle.reading.specs.Answer.{refusal_of as misread_of}
use Rattle.admission.specs.declared.Refused.{Refused}
use Rattle.admission.specs.declared.Refused.TheVariants.{AreaTooLong, WorkTooShort, LengthTooLong, FuelTooHigh, Unread}

abbrev pub refusal_of : Refused → Reply ⊥
refusal_of AreaTooLong = Reply.refused 1 0
refusal_of WorkTooShort = Reply.refused 2 0
refusal_of LengthTooLong = Reply.refused 3 0
refusal_of FuelTooHigh = Reply.refused 4 0
refusal_of (Unread misread) = misread_of misread

abbrev pub answer_of : Result Unit Refused → Reply Unit
answer_of (Ok done) = Reply.answered tt
answer_of (Err refused) = passed_on (refusal_of refused)
