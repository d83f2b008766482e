-- `slices::is_zeros` meets its contract. The loop's invariant: the flag, and the bytes still to come, decide as the whole slice does.
use mathlib.Core.Path.{◌≡◌}
use mathlib.Core.Bool.{◌&&◌}
use lib.ListN.{length, replicate}
use Rattle.slices.specs.Same.{same}
use Rattle.slices.proofs.Zeros.{zeros_from}
use Rattle.slices.proofs.is_zeros.Given as goal

abbrev pub invariant-loop-x : goal.invariant-loop-x
invariant-loop-x l = (l.clean && zeros_from l.x-index l.s) ≡ same l.s (replicate (length l.s) 0)
