-- The number and the place of each case that stepping refuses, and the values of each case that it answers (REQUIREMENTS, Stepping).
use Rattle.std.specs.Prelude.{Result, Ok, Err}
use Rattle.reading.specs.Reply.{Reply, passed_on}
use Rattle.reading.specs.Answer.{refusal_of as misread_of}
use Rattle.stepping.specs.Stepping.{Stepped}
use Rattle.stepping.specs.declared.Refused.{Refused}
use Rattle.stepping.specs.declared.Refused.TheVariants.{AreaTooLong, WorkTooShort, LengthTooLong, Unread}
use Rattle.stepping.specs.declared.Stepped.{Stepped as Declared}
use Rattle.stepping.specs.declared.Stepped.TheVariants.{Normal, NoRoom, Done}

abbrev pub refusal_of : Refused → Reply ⊥
refusal_of AreaTooLong = Reply.refused 1 0
refusal_of WorkTooShort = Reply.refused 2 0
refusal_of LengthTooLong = Reply.refused 3 0
refusal_of (Unread misread) = misread_of misread

abbrev pub stepped_of : Declared → Stepped
stepped_of (Normal size) = Stepped.normal size
stepped_of (NoRoom size) = Stepped.no_room size
stepped_of (Done rule size) = Stepped.stepped rule size

abbrev pub answer_of : Result Declared Refused → Reply Stepped
answer_of (Ok stepped) = Reply.answered (stepped_of stepped)
answer_of (Err refused) = passed_on (refusal_of refused)
