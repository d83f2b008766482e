-- `stores::same_bytes` meets its contract. The loop's invariant: the flag, and the bytes that it has not passed, decide as all do.
use mathlib.Core.Path.{◌≡◌}
use mathlib.Core.Bool.{◌&&◌}
use lib.ListN.{length}
use Rattle.slices.specs.Same.{same}
use Rattle.stores.proofs.Comparing.{same_from}
use Rattle.stores.proofs.same_bytes.Given as goal

abbrev pub invariant-loop-x : goal.invariant-loop-x
invariant-loop-x l = (l.equal && same_from (length l.yielded) l.a l.b) ≡ same l.a l.b
