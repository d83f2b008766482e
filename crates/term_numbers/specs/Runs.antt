-- The answer of finishing, with counts or without, for any of the refusals that it may be.
use Rattle.std.specs.Prelude.{Result, Ok, Err}
use Rattle.reading.specs.Reply.{Reply, passed_on}
use Rattle.finishing.specs.Finishing.{Ran, no_run}
use Rattle.finishing.specs.Answer.{ran_of}
use Rattle.finishing.specs.declared.Run.{Run}

-- whether the call is refused
abbrev pub run_reply : {E : Type 0} → (E → Reply ⊥) → Result Run E → Reply Unit
run_reply refusal (Ok run) = Reply.answered tt
run_reply refusal (Err refused) = passed_on (refusal refused)

-- the record, and beside a refusal that of no run
abbrev pub run_record : {E : Type 0} → Result Run E → Ran
run_record (Ok run) = ran_of run
run_record (Err refused) = no_run
