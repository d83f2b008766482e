-- `controller::controller_read` meets its contract: reading's promise, and the number of its answer.
use mathlib.Core.Path.{◌∙◌, ap}
use Rattle.codes.specs.Encoding.{read_number}
use Rattle.controller.proofs.controller_read.Goals as goal

pub returns : goal.returns
returns c = c.read_number.ensures ∙ ap read_number c.read.ensures
