use mathlib.Core.Path.{refl}
use Rattle.repeats.proofs.Counting.{among-here, among_later, among-end}
use Rattle.repeats.proofs.stands.Goals as goal

pub loop-other-init : goal.loop-other-init
loop-other-init c = refl

pub returns-then-other-number : goal.returns-then-other-number
returns-then-other-number c =
    among-here c.args.numbers.now c.loop-other.other-index c.loop-other-test.true c.args.number c.if-other-number.true
    c.loop-other.invariant

pub loop-other-preserved : goal.loop-other-preserved
loop-other-preserved c =
    among_later c.args.numbers.now c.loop-other.other-index c.loop-other-test.true c.args.number c.if-other-number.false
    c.loop-other.invariant

pub returns : goal.returns
returns c = among-end c.args.number c.args.numbers.now c.loop-other.other-index c.loop-other-test.false c.loop-other.invariant
