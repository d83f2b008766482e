-- `controller::controller_match` meets its contract: matching's promise, and the number of its answer.
use mathlib.Core.Path.{◌∙◌, ap}
use Rattle.codes.specs.Encoding.{match_number}
use Rattle.controller.proofs.controller_match.Goals as goal

pub returns : goal.returns
returns c = c.match_number.ensures ∙ ap match_number c.match_claims.ensures
