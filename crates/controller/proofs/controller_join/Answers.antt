-- `controller::controller_join` meets its contract: joining's promise, and the number of its answer.
use Rattle.codes.proofs.Coded.{coded_join_lem}
use Rattle.controller.proofs.controller_join.Goals as goal

pub returns : goal.returns
returns c = coded_join_lem c.join_number.ensures c.join.ensures
