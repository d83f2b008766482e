use native.Mathlib.Omega.{arith}
use Rattle.tallies.proofs.Sums.{adds-few, adds-next, adds-all}
use Rattle.tallies.proofs.added.Goals as goal

pub overflow_add-sum : goal.overflow_add-sum
overflow_add-sum c = omega (arith, adds-few c.loop-place.invariant c.requires)

pub loop-place-preserved : goal.loop-place-preserved
loop-place-preserved c = adds-next c.loop-place.invariant c.requires (omega (arith, c.loop-place-test.true))

pub returns : goal.returns
returns c = adds-all c.loop-place.invariant (omega (arith, c.loop-place-test.false))
