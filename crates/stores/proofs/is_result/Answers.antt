-- `stores::is_result` meets its contract: what reading refuses is no term, and of a term the full stop decides.
use mathlib.Core.Bool.{not}
use mathlib.Core.Path.{sym, ◌∙◌, ap}
use Rattle.stores.proofs.Searching.{unread-result, read-result}
use Rattle.stores.proofs.is_result.Goals as goal

pub returns-then-is_err : goal.returns-then-is_err
returns-then-is_err c =
    unread-result c.args.bytes.now c.read.result c.read.ensures (sym c.is_err.ensures.value ∙ c.if-is_err.true)

pub returns : goal.returns
returns c =
    ap not c.has_stop.ensures
    ∙ read-result c.args.bytes.now c.read.result c.read.ensures (sym c.is_err.ensures.value ∙ c.if-is_err.false)
