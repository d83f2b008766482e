use mathlib.Core.Path.{sym, ◌∙◌}
use Rattle.fields.proofs.Stops.{at-stop, at_other, at-end}
use Rattle.fields.proofs.stop_from.Goals as goal

pub returns-then-is_stop : goal.returns-then-is_stop
returns-then-is_stop c =
    at-stop c.loop-at.at c.args.file.now c.loop-at-test.true (sym c.is_stop.ensures ∙ c.if-is_stop.true) ∙ c.loop-at.invariant

pub loop-at-preserved : goal.loop-at-preserved
loop-at-preserved c =
    at_other c.loop-at.at c.args.file.now c.loop-at-test.true (sym c.is_stop.ensures ∙ c.if-is_stop.false) ∙ c.loop-at.invariant

pub returns : goal.returns
returns c =
    c.max.ensures
    ∙ at-end c.args.from c.loop-at.at c.args.file.now c.loop-at-test.false c.loop-at.auto.at-end c.loop-at.invariant
