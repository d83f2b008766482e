-- `controller::controller_rows` meets its contract: the promise of `rows::ring`, and the number of its answer.
use Rattle.codes.proofs.Coded.{coded_rows_lem}
use Rattle.controller.proofs.controller_rows.Goals as goal

pub returns : goal.returns
returns c = coded_rows_lem c.rows_number.ensures c.ring.ensures
