-- What matching answers (REQUIREMENTS, Matching): whether the claims match. A refusal is checking's own.
use Rattle.std.specs.Prelude.{Bool, Result, Ok, Err}
use Rattle.reading.specs.Reply.{Reply, passed_on}
use Rattle.checking.specs.Answer.{refusal_of}
use Rattle.checking.specs.declared.Refused.{Refused}

abbrev pub answer_of : Result Bool Refused → Reply Bool
answer_of (Ok same) = Reply.answered same
answer_of (Err refused) = passed_on (refusal_of refused)
