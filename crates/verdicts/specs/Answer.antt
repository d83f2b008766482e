-- The word of each verdict, and what comparing answers (REQUIREMENTS, Comparing).
use Rattle.std.specs.Prelude.{Result, Ok, Err}
use Rattle.reading.specs.Reply.{Reply, passed_on}
use Rattle.admission.specs.Answer.{refusal_of}
use Rattle.admission.specs.declared.Refused.{Refused}
use Rattle.verdicts.specs.Comparing.{Compared}
use Rattle.verdicts.specs.declared.Verdict.{Verdict}
use Rattle.verdicts.specs.declared.Verdict.TheVariants.{Same, Different, Undecided}

abbrev pub compared_of : Verdict → Compared
compared_of Same = Compared.same-results
compared_of Different = Compared.different-results
compared_of Undecided = Compared.undecided

abbrev pub answer_of : Result Verdict Refused → Reply Compared
answer_of (Ok verdict) = Reply.answered (compared_of verdict)
answer_of (Err refused) = passed_on (refusal_of refused)
