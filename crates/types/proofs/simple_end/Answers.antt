use Prim.Native.Nat.{◌+◌, ◌-◌}
use mathlib.Core.Path.{sym, ◌∙◌}
use native.Mathlib.Omega.{arith}
use Rattle.types.proofs.Scan.{no_sign, sign, at-end, end_none, end-some}
use Rattle.types.proofs.simple_end.Goals as goal

pub returns-in_default : goal.returns-in_default
returns-in_default c =
    end_none c.args.s.now c.args.from
    (sym c.loop-at.invariant.2
    ∙ no_sign c.loop-at.owed c.loop-at.at c.args.s.now c.loop-at-test.true c.loop-at.invariant.0 c.in_default.ensures)

pub overflow_add-owed : goal.overflow_add-owed
overflow_add-owed c =
    let few = sign c.loop-at.owed c.loop-at.at c.in-Some.parts c.args.s.now c.loop-at-test.true c.loop-at.invariant.0 c.in-Some.ensures in
    omega (arith, few.0)

pub returns-then-owed-eq0 : goal.returns-then-owed-eq0
returns-then-owed-eq0 c =
    let onward = sign c.loop-at.owed c.loop-at.at c.in-Some.parts c.args.s.now c.loop-at-test.true c.loop-at.invariant.0 c.in-Some.ensures in
    end-some c.args.s.now c.args.from (c.loop-at.owed - 1 + c.in-Some.parts) (c.loop-at.at + 1) (omega arith) (omega arith)
    (onward.1 ∙ c.loop-at.invariant.2)

pub loop-at-preserved : goal.loop-at-preserved
loop-at-preserved c =
    let onward = sign c.loop-at.owed c.loop-at.at c.in-Some.parts c.args.s.now c.loop-at-test.true c.loop-at.invariant.0 c.in-Some.ensures in
    (omega arith, omega (arith, onward.0), onward.1 ∙ c.loop-at.invariant.2)

pub returns : goal.returns
returns c =
    end_none c.args.s.now c.args.from
    (sym c.loop-at.invariant.2 ∙ at-end c.loop-at.owed c.loop-at.at c.args.s.now c.loop-at-test.false c.loop-at.invariant.0)
