use mathlib.Core.Path.{sym, ◌∙◌}
use native.Mathlib.Omega.{arith}
use Rattle.repeats.proofs.Counting.{counted-here, counted-later, counted-end}
use Rattle.repeats.proofs.different.Goals as goal
use Rattle.repeats.proofs.different.Goals.{then-not-stands, else-not-stands}

pub loop-i-preserved : goal.loop-i-preserved
loop-i-preserved c =
    let s = c.args.numbers.now in
    let i = c.loop-i.i in
    let more = c.loop-i-test.true in
    elim c.if-not-stands.branch [
      | then-not-stands w ↦
          let one = counted-here s i more (sym w.if-not-stands.true ∙ c.stands.ensures) in
          (omega (arith, w.count-is), omega (arith, w.count-is))
      | else-not-stands w ↦
          let none = counted-later s i more (sym w.if-not-stands.false ∙ c.stands.ensures) in
          (omega (arith, w.count-is), omega (arith, w.count-is))
    ]

pub returns : goal.returns
returns c =
    let none_left = counted-end c.args.numbers.now c.loop-i.i c.loop-i-test.false in
    omega (arith, c.loop-i.invariant.1)
