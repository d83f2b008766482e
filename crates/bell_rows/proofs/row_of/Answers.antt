use native.Mathlib.Omega.{arith}
use Rattle.bell_rows.proofs.Bells.{one_placed}
use Rattle.bell_rows.proofs.row_of.Goals as goal

pub loop-i-preserved : goal.loop-i-preserved
loop-i-preserved c =
    one_placed c.args.links.now c.loop-i.i c.bell_number.result c.loop-i.row (omega (arith, c.min-i-end.ensures))
    (omega (arith, c.min-i-end.ensures)) c.bell_number.ensures c.loop-i.invariant
