-- `bell_rows::row_of` meets its contract. The loop's invariant: the first i of the bells stand in their places.
use mathlib.Core.Path.{◌≡◌}
use lib.ListN.{take}
use lib.Seq.{paste}
use Rattle.bell_rows.specs.Row.{most}
use Rattle.bell_rows.specs.Bytes.{bells_in}
use Rattle.bell_rows.proofs.Bells.{empty}
use Rattle.bell_rows.proofs.row_of.Given as goal

abbrev pub invariant-loop-i : goal.invariant-loop-i
invariant-loop-i l = l.row ≡ paste empty 0 (take most (bells_in l.links)) l.i
