-- The number and the place of each case that finishing with counts refuses, and what it answers (REQUIREMENTS, Counts).
use Rattle.std.specs.Prelude.{Result, Ok, Err}
use Rattle.reading.specs.Reply.{Reply, passed_on}
use Rattle.admission.specs.Answer.{refusal_of as admission_refusal}
use Rattle.finishing.specs.Finishing.{Ran, no_run}
use Rattle.finishing.specs.Answer.{ran_of}
use Rattle.finishing.specs.declared.Run.{Run}
use Rattle.counting.specs.declared.Refused.{Refused}
use Rattle.counting.specs.declared.Refused.TheVariants.{CountsTooShort, Unfinished}

abbrev pub refusal_of : Refused → Reply ⊥
refusal_of CountsTooShort = Reply.refused 2 0
refusal_of (Unfinished refused) = admission_refusal refused

-- whether the call is refused
abbrev pub reply_of : Result Run Refused → Reply Unit
reply_of (Ok run) = Reply.answered tt
reply_of (Err refused) = passed_on (refusal_of refused)

-- the record, and beside a refusal that of no run
abbrev pub ran_in : Result Run Refused → Ran
ran_in (Ok run) = ran_of run
ran_in (Err refused) = no_run
