-- `filling::copy_in` meets its contract. The loop's invariant: `dst` is what it was with the first i bytes of `piece` pasted in from `at`.
use Rattle.std.proofs.Common.{◌≡◌, length}
use lib.Seq.{paste}
use Rattle.filling.proofs.copy_in.Given as goal

abbrev pub invariant-loop-i : goal.invariant-loop-i
invariant-loop-i l = (l.dst ≡ paste l.initial.dst l.at l.piece l.i) × (length l.dst ≡ length l.initial.dst)
