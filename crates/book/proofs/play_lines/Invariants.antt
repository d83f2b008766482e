-- `book::play_lines` meets its contract. The loop's invariant: `Walked`, the lines before `at` were played, and the store holds their results.
-- The measure is what is left of the book.
use Prim.Native.Nat.{◌-◌}
use lib.ListN.{length}
use Rattle.book.proofs.Walking.{Walked}
use Rattle.book.proofs.play_lines.Given as goal

abbrev pub invariant-loop-at : goal.invariant-loop-at
invariant-loop-at l = Walked l.book l.keys l.initial.area l.initial.work l.fuel l.at l.count l.used l.size l.ends l.area l.work l.store

abbrev pub decreases-loop-at : goal.decreases-loop-at
decreases-loop-at l = length l.book - l.at
