-- `controller::controller_compare` meets its contract: comparing's promise, and the number of its answer.
use Rattle.codes.proofs.Coded.{coded_compare_lem}
use Rattle.controller.proofs.controller_compare.Goals as goal

pub returns : goal.returns
returns c = coded_compare_lem c.compare_number.ensures c.compare.ensures.work_after
