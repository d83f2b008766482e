-- `types::is_context` meets its contract. The loop's invariant: the slice is a context's text exactly where the rest from `at` on is
-- one. The measure is what is left of the slice.
use Prim.Native.Nat.{suc, ◌-◌}
use mathlib.Core.Path.{◌≡◌}
use mathlib.Core.Bool.{true}
use lib.ListN.{length, drop}
use Rattle.types.specs.Parse.{context_of}
use Rattle.types.specs.Tests.{is_some}
use Rattle.types.proofs.Owed.{owes}
use Rattle.types.proofs.is_context.Given as goal

abbrev pub invariant-loop-at : goal.invariant-loop-at
invariant-loop-at l = owes 0 true (drop l.at l.s) ≡ is_some (context_of l.s)

abbrev pub decreases-loop-at : goal.decreases-loop-at
decreases-loop-at l = suc (length l.s) - l.at
