-- `controller::controller_enter` meets its contract: the promise of `catalogue::enter`, and the number of its answer.
use Rattle.codes.proofs.Coded.{coded_enter_lem}
use Rattle.controller.proofs.controller_enter.Goals as goal

pub returns : goal.returns
returns c = coded_enter_lem c.enter_number.ensures c.enter.ensures
