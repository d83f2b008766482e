-- `bell_rows::key` meets its contract. The loop's invariant: the number is that of the places that it has passed, and no larger than as many
-- bytes make.
use Prim.Native.Nat.{◌≤◌}
use mathlib.Core.Path.{◌≡◌}
use lib.ListN.{take}
use Rattle.bell_rows.specs.Key.{key_from}
use Rattle.bell_rows.proofs.Keys.{cap}
use Rattle.bell_rows.proofs.key.Given as goal

abbrev pub invariant-loop-bell : goal.invariant-loop-bell
invariant-loop-bell l = (l.key ≡ key_from 0 (take l.bell-index l.bell-items)) × (l.key ≤ cap l.bell-index)
