-- `types::simple_end` meets its contract. The loop's invariant: what stands behind the simple types owed from `at` on is what stands
-- behind the one from `from` on.
use Prim.Native.Nat.{◌<◌, ◌≤◌, ◌+◌}
use mathlib.Core.Path.{◌≡◌}
use lib.ListN.{drop}
use Rattle.types.specs.Scan.{behind_simple}
use Rattle.types.proofs.simple_end.Given as goal

abbrev pub invariant-loop-at : goal.invariant-loop-at
invariant-loop-at l = (0 < l.owed) × (l.owed ≤ l.at + 1) × (behind_simple l.owed (drop l.at l.s) ≡ behind_simple 1 (drop l.from l.s))
