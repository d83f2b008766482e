-- `repeats::different` meets its contract. The loop's invariant: those counted, and the different ones from `i` on, are all the different
-- ones.
use Prim.Native.Nat.{◌≤◌, ◌+◌}
use mathlib.Core.Path.{◌≡◌}
use lib.Dec.{eqb}
use lib.ListN.{length, drop}
use Rattle.repeats.specs.Repeats.{withoutRepeats}
use Rattle.repeats.proofs.different.Given as goal

abbrev pub invariant-loop-i : goal.invariant-loop-i
invariant-loop-i l = (l.count ≤ l.i) × (l.count + length (withoutRepeats eqb (drop l.i l.numbers)) ≡ length (withoutRepeats eqb l.numbers))
