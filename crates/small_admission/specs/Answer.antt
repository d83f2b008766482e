-- The number of each case that is refused, and what is answered (REQUIREMENTS, Small terms).
use Rattle.std.specs.Prelude.{Result, Ok, Err}
use Rattle.reading.specs.Reply.{Reply, passed_on}
use Rattle.small_admission.specs.declared.Refused.{Refused}
use Rattle.small_admission.specs.declared.Refused.TheVariants.{NotSmall, FuelTooHigh, AreaTooLong, AreaTooShort}

abbrev pub refusal_of : Refused → Reply ⊥
refusal_of NotSmall = Reply.refused 32 0
refusal_of FuelTooHigh = Reply.refused 4 0
refusal_of AreaTooLong = Reply.refused 1 0
refusal_of AreaTooShort = Reply.refused 3 0

abbrev pub answer_of : Result Unit Refused → Reply Unit
answer_of (Ok u) = Reply.answered u
answer_of (Err refused) = passed_on (refusal_of refused)
