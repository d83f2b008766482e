-- `stepping::steps` meets its contract: no step of what is no term, and else those of a batch.
use Prim.Native.Nat.{◌≤◌}
use native.Mathlib.Omega.{arith}
use Rattle.calculus.specs.Limits.{fuel_limit}
use Rattle.stepping.proofs.Batches.{advances-none, runnable, runnable-read, advances-made}
use Rattle.stepping.proofs.steps.Goals as goal

pub returns-then-most-le1-clause-advances : goal.returns-then-most-le1-clause-advances
returns-then-most-le1-clause-advances c = λ t h. advances-none c.no_steps.ensures h

pub returns-in_default-clause-advances : goal.returns-in_default-clause-advances
returns-in_default-clause-advances c = λ t h. advances-none c.no_steps-in_default.ensures h

pub advance-made-requires : goal.advance-made-requires
advance-made-requires c = runnable-read c.args.area.now c.args.len c.if-area-len.false c.in-Ok.ensures (omega (arith, c.min.ensures))

pub returns-clause-advances : goal.returns-clause-advances
returns-clause-advances c =
    let a = c.args in
    let few : c.min.result ≤ fuel_limit = omega (arith, c.min.ensures) in
    λ t h. advances-made a.area.now a.len c.if-area-len.false c.in-Ok.ensures few c.advance-made.auto.area (omega (arith, c.min.ensures)) t h
    (c.advance-made.ensures (runnable a.area.now a.len c.if-area-len.false c.in-Ok.ensures few t h))
