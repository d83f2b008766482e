-- `book_reading::read_lines` meets its contract. The loop's invariant: the lines passed are a book, so many, the table has the numbers of
-- their names, and the lines from `at` on decide the whole (`Walk.Passed`). The measure is what is left of the book.
use Prim.Native.Nat.{◌-◌}
use lib.ListN.{length}
use Rattle.book_reading.proofs.Walk.{Passed}
use Rattle.book_reading.proofs.read_lines.Given as goal

abbrev pub invariant-loop-at : goal.invariant-loop-at
invariant-loop-at l = Passed l.book l.keys l.count l.at

abbrev pub decreases-loop-at : goal.decreases-loop-at
decreases-loop-at l = length l.book - l.at
