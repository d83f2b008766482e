-- The proof of the cycle of calls {part_end}: each part that is read is stored, and behind the last one the node's own end.
use Rattle.std.proofs.Common.{ℕ, ◌+◌, ◌-◌, drop, refl, ◌∙◌, ap, arith}
use Rattle.calculus.specs.Limits.{area_limit}
use Rattle.parts.specs.Skip.{skip}
use Rattle.parts.proofs.Skip.{end_below, end-next, end-last}
use Rattle.parts.proofs.Storing.{stored-then, stored-node}
use Rattle.parts.proofs.+part_end.Goals as goal

pub loop-preserved : goal.loop-preserved
loop-preserved t c =
    let s = c.args.s.now.now in
    let parts = c.parts_of-end.result in
    let before = c.loop in
    let call = c.part_end-end in
    record {
      after = omega (arith, before.invariant.after, call.ensures.0);
      ends_there =
          ap (λ (n : ℕ). n + skip (parts - (before.counter + 1)) (drop n s)) call.ensures.0
          ∙ end-next s before.end parts before.counter c.loop-test.true
          ∙ before.invariant.ends_there;
      stores =
          stored-then (omega (arith, before.invariant.after)) (omega (arith, call.ensures.0)) before.invariant.stores call.ensures.1;
    }

pub overflow_cast-ends : goal.overflow_cast-ends
overflow_cast-ends t c =
    let s = c.args.s.now.now in
    let done = c.loop in
    let last = end-last s c.args.at done.end c.parts_of-end.result done.counter c.loop-test.false done.invariant.ends_there in
    let below = end_below s c.args.at done.end area_limit last (omega arith) (omega arith) in
    omega (arith, below)

pub returns : goal.returns
returns t c =
    let s = c.args.s.now.now in
    let done = c.loop in
    let last = end-last s c.args.at done.end c.parts_of-end.result done.counter c.loop-test.false done.invariant.ends_there in
    (last, stored-node done.invariant.after (omega (arith, done.invariant.stores.long)) last refl done.invariant.stores)
