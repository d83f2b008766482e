-- `tallies::added` meets its contract. The loop's invariant is `Adds`: the counts before `place` are added.
use Rattle.tallies.proofs.Sums.{Adds}
use Rattle.tallies.proofs.added.Given as goal

abbrev pub invariant-loop-place : goal.invariant-loop-place
invariant-loop-place l = Adds l.initial.sum l.fn.more l.sum l.place
