-- `controller::controller_check` meets its contract: checking's promise, and the number of its answer.
use mathlib.Core.Path.{◌∙◌, ap}
use Rattle.codes.specs.Encoding.{check_number}
use Rattle.controller.proofs.controller_check.Goals as goal

pub returns : goal.returns
returns c = c.check_number.ensures ∙ ap check_number c.check_derivation.ensures
