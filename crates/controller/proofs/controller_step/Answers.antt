-- `controller::controller_step` meets its contract: stepping's promise, and the number of its answer.
use Rattle.codes.proofs.Coded.{coded_step_lem}
use Rattle.controller.proofs.controller_step.Goals as goal

pub returns : goal.returns
returns c = coded_step_lem c.step_number.ensures c.step.ensures
