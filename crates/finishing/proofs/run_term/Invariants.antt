-- `finishing::run_term` meets its contract. The loop's invariant is `At`: the area holds a term that the run of the first passes, with
-- `count` steps made, by rules whose counts are `by_rule`. The measure is the fuel left.
use Prim.Native.Nat.{◌-◌}
use mathlib.Core.Path.{◌≡◌}
use lib.ListN.{length}
use Rattle.finishing.proofs.Loop.{At}
use Rattle.finishing.proofs.run_term.Given as goal

abbrev pub invariant-loop-count : goal.invariant-loop-count
invariant-loop-count l = At l.fuel l.initial.area l.len l.count l.by_rule l.area l.size l.work × (length l.work ≡ length l.initial.work)

abbrev pub decreases-loop-count : goal.decreases-loop-count
decreases-loop-count l = l.fuel - l.count
