use Prim.Native.Nat.{ℕ}
use native.Mathlib.Omega.{arith}
use mathlib.Core.Path.{sym}
use lib.ListN.{replicate, take, length-replicate}
use Rattle.calculus.specs.Limits.{line_limit}
use Rattle.checking.proofs.Walk.{start, room, refused, again}
use Rattle.checking.proofs.check_lines.Goals as goal

pub loop-at-init : goal.loop-at-init
loop-at-init c = start c.args.file.now (replicate line_limit 0) (length-replicate {A = ℕ} line_limit 0)

pub returns-in-Err-clause-answer : goal.returns-in-Err-clause-answer
returns-in-Err-clause-answer c =
    refused c.args.file.now c.loop-at.starts c.loop-at.n c.loop-at.at c.loop-at.claim c.loop-at.invariant c.requires.0
    c.loop-at-test.true c.requires.1 (λ i. take c.loop-at.n c.loop-at.starts) c.six_at-line.ensures c.check_line.ensures c.in-Err.fault
    (sym c.in-Err.is)

pub bounds-starts-n : goal.bounds-starts-n
bounds-starts-n c =
    room c.args.file.now c.loop-at.starts c.loop-at.n c.loop-at.at c.loop-at.claim c.loop-at.invariant c.requires.0
    c.loop-at-test.true c.requires.1

pub overflow_add-at : goal.overflow_add-at
overflow_add-at c =
    let ends = (again c.args.file.now c.loop-at.starts c.loop-at.n c.loop-at.at c.loop-at.claim c.loop-at.invariant c.requires.0
    c.loop-at-test.true c.requires.1 (λ i. take c.loop-at.n c.loop-at.starts) c.six_at-line.ensures c.check_line.ensures
    (sym c.in_default.is)).0 in
    omega (arith, ends, c.well_formed.0.0)

pub loop-at-smaller : goal.loop-at-smaller
loop-at-smaller c =
    let few = room c.args.file.now c.loop-at.starts c.loop-at.n c.loop-at.at c.loop-at.claim c.loop-at.invariant c.requires.0
    c.loop-at-test.true c.requires.1 in
    omega arith

pub loop-at-preserved : goal.loop-at-preserved
loop-at-preserved c =
    (again c.args.file.now c.loop-at.starts c.loop-at.n c.loop-at.at c.loop-at.claim c.loop-at.invariant c.requires.0
    c.loop-at-test.true c.requires.1 (λ i. take c.loop-at.n c.loop-at.starts) c.six_at-line.ensures c.check_line.ensures
    (sym c.in_default.is)).1
