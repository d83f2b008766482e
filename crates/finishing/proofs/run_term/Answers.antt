use mathlib.Core.Path.{refl, sym, ◌∙◌}
use Rattle.finishing.proofs.Loop.{at-start, at-batch, at-stuck, at-no-stop, at-end}
use Rattle.finishing.proofs.run_term.Goals as goal

pub loop-count-init : goal.loop-count-init
loop-count-init c = (at-start c.args.fuel c.args.area.now c.args.len c.args.work.now c.requires.ready, refl)

pub returns-then-not-has_stop : goal.returns-then-not-has_stop
returns-then-not-has_stop c =
    at-no-stop c.loop-count.invariant.0 (sym c.if-not-has_stop.true ∙ c.has_stop.ensures)

pub returns-then-batch-eq0 : goal.returns-then-batch-eq0
returns-then-batch-eq0 c =
    at-stuck c.loop-count.invariant.0 c.loop-count-test.true c.make_steps-batch.ensures c.if-batch-eq0.true
    (sym c.if-not-has_stop.false ∙ c.has_stop.ensures)

pub loop-count-preserved : goal.loop-count-preserved
loop-count-preserved c = (
  at-batch c.loop-count.invariant.0 c.loop-count-test.true c.make_steps-batch.ensures c.added-sum.ensures c.make_steps-batch.auto.area
      c.make_steps-batch.auto.work,
  c.make_steps-batch.auto.work ∙ c.loop-count.invariant.1,
)

pub returns : goal.returns
returns c = at-end c.loop-count.invariant.0 c.loop-count-test.false c.end_without_fuel-outcome.ensures
