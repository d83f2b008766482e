use native.Mathlib.Omega.{arith}
use Rattle.redexes.specs.Moves.{Leads}
use Rattle.redexes.proofs.Moves.{move-within, move-past}
use Rattle.redexes.proofs.redex.Goals as goal

pub returns-then-text-first : goal.returns-then-text-first
returns-then-text-first c =
    let a = c.args in
    Leads.ends (move-past a.text.letters.now a.first c.if-text-first.true) (omega arith)

pub loop-p-init : goal.loop-p-init
loop-p-init c = (omega arith, c.next_place-q.ensures, λ r l. l)

pub next_place-q-requires-in-loop-p : goal.next_place-q-requires-in-loop-p
next_place-q-requires-in-loop-p c = omega (arith, move-within c.loop-p.invariant.1 c.loop-p-test.true)

pub loop-p-smaller : goal.loop-p-smaller
loop-p-smaller c = omega (arith, move-within c.loop-p.invariant.1 c.loop-p-test.true)

pub loop-p-preserved : goal.loop-p-preserved
loop-p-preserved c = (
  omega (arith, move-within c.loop-p.invariant.1 c.loop-p-test.true),
  c.next_place-q-in-loop-p.ensures,
  λ r l. c.loop-p.invariant.2 r (Leads.goes c.loop-p.invariant.1 c.loop-p-test.true l),
)

pub returns : goal.returns
returns c = c.loop-p.invariant.2 c.loop-p.p (Leads.ends c.loop-p.invariant.1 c.loop-p-test.false)
