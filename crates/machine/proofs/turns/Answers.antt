use native.Mathlib.Omega.{arith}
use Rattle.machine.proofs.Looping.{going_start, going-turnable, going_less, going_next, going-stopped}
use Rattle.machine.proofs.turns.Goals as goal

pub overflow_sub-limit : goal.overflow_sub-limit
overflow_sub-limit c = omega (arith, c.requires.many)

pub loop-st-init : goal.loop-st-init
loop-st-init c = going_start c.args.room c.args.cells.now c.args.area.now c.args.counts.now c.args.first c.requires

pub turn-st-requires : goal.turn-st-requires
turn-st-requires c =
    going-turnable c.loop-st.invariant c.loop-st-test.true c.if-st-limit.true c.loop-st.invariant.begun.turnable

pub loop-st-smaller : goal.loop-st-smaller
loop-st-smaller c =
    going_less c.loop-st.invariant c.loop-st-test.true c.if-st-limit.true c.turn-st.ensures c.turn-st.auto.cells
    c.turn-st.auto.area c.turn-st.auto.counts

pub loop-st-preserved : goal.loop-st-preserved
loop-st-preserved c =
    going_next c.loop-st.invariant c.loop-st-test.true c.if-st-limit.true c.turn-st.ensures c.turn-st.auto.cells
    c.turn-st.auto.area c.turn-st.auto.counts

pub returns-else-st-limit : goal.returns-else-st-limit
returns-else-st-limit c = going-stopped c.loop-st.invariant

pub returns-after-loop-st : goal.returns-after-loop-st
returns-after-loop-st c = going-stopped c.loop-st.invariant
