use Prim.Native.Nat.{ℕ, ◌+◌}
use mathlib.Core.Path.{sym, ◌∙◌, ap}
use mathlib.Core.Bool.{true}
use native.Mathlib.Omega.{arith}
use lib.ListN.{drop}
use Rattle.types.proofs.Owed.{owes, context-owed, end-bounds, at-empty, at-bind, at_other, at-end}
use Rattle.types.proofs.is_context.Goals as goal

pub loop-at-init : goal.loop-at-init
loop-at-init c = sym (context-owed c.args.s.now)

pub returns-then-s-at-eq-EMPTY : goal.returns-then-s-at-eq-EMPTY
returns-then-s-at-eq-EMPTY c = sym (at-empty c.loop-at.at c.args.s.now c.loop-at-test.true c.if-s-at-eq-EMPTY.true) ∙ c.loop-at.invariant

pub returns-then-s-at-ne-BIND : goal.returns-then-s-at-ne-BIND
returns-then-s-at-ne-BIND c =
    sym (at_other c.loop-at.at c.args.s.now c.loop-at-test.true c.if-s-at-eq-EMPTY.false c.if-s-at-ne-BIND.true) ∙ c.loop-at.invariant

pub loop-at-smaller : goal.loop-at-smaller
loop-at-smaller c =
    let bounds = end-bounds c.args.s.now (c.loop-at.at + 1) (omega arith) in
    omega (arith, c.simple_end-at.ensures)

pub loop-at-preserved : goal.loop-at-preserved
loop-at-preserved c =
    ap (λ (n : ℕ). owes 0 true (drop n c.args.s.now)) c.simple_end-at.ensures ∙
    sym (at-bind c.loop-at.at c.args.s.now c.loop-at-test.true c.if-s-at-ne-BIND.false) ∙ c.loop-at.invariant

pub returns : goal.returns
returns c = sym (at-end c.loop-at.at c.args.s.now c.loop-at-test.false) ∙ c.loop-at.invariant
