-- `controller::controller_finish_counted` meets its contract: counting's promise, and the number of its answer.
use mathlib.Core.Path.{◌≡◌, ◌∙◌, refl}
use Rattle.std.specs.Prelude.{Result, Ok, Err}
use Rattle.counting.specs.Answer.{refusal_of}
use Rattle.counting.specs.declared.Refused.{Refused}
use Rattle.counting.specs.Answer.{reply_of, ran_in}
use Rattle.finishing.specs.declared.Run.{Run}
use Rattle.codes.specs.Encoding.{finish_number}
use Rattle.codes.proofs.Coded.{coded_count_lem}
use Rattle.term_numbers.specs.Runs.{run_reply, run_record}
use Rattle.controller.proofs.controller_finish_counted.Goals as goal

same : (a : Result Run Refused) → finish_number (run_reply refusal_of a) (run_record a) ≡ finish_number (reply_of a) (ran_in a)
same (Ok run) = refl
same (Err refused) = refl

pub returns : goal.returns
returns c = coded_count_lem (c.run_number.ensures ∙ same c.finish_counted.result) c.finish_counted.ensures
