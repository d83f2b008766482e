-- What finishing answers: whether the call is refused, and the record of the run (REQUIREMENTS, Finishing).
use Rattle.std.specs.Prelude.{Result, Ok, Err}
use Rattle.calculus.specs.Run.{Outcome}
use Rattle.reading.specs.Reply.{Reply, passed_on}
use Rattle.admission.specs.Answer.{refusal_of}
use Rattle.admission.specs.declared.Refused.{Refused}
use Rattle.finishing.specs.Finishing.{Ran, no_run}
use Rattle.finishing.specs.declared.Outcome.{Outcome as Declared}
use Rattle.finishing.specs.declared.Outcome.TheVariants.{Finished, Spent, NoRoom}
use Rattle.finishing.specs.declared.Run.{Run}

abbrev pub outcome_of : Declared → Outcome
outcome_of Finished = Outcome.finished
outcome_of Spent = Outcome.spent
outcome_of NoRoom = Outcome.no_room

abbrev pub ran_of : Run → Ran
ran_of r = Ran.ran (outcome_of r.outcome) r.count r.by_rule r.size

-- whether the call is refused
abbrev pub reply_of : Result Run Refused → Reply Unit
reply_of (Ok run) = Reply.answered tt
reply_of (Err refused) = passed_on (refusal_of refused)

-- the record, and beside a refusal that of no run
abbrev pub ran_in : Result Run Refused → Ran
ran_in (Ok run) = ran_of run
ran_in (Err refused) = no_run
