-- `book_lines::uses_given` meets its contract. The loop's invariant: where `at` is before the end a use opens there, and the names used
-- from there on decide. The measure is what is left of the slice.
use Prim.Native.Nat.{◌<◌, ◌-◌}
use mathlib.Core.Path.{◌≡◌}
use mathlib.Core.Option.{none}
use lib.ListN.{length, get_or, drop}
use Rattle.books.specs.Piece.{open_mark}
use Rattle.book_lines.specs.Uses.{uses_from, uses_in, all_in}
use Rattle.book_lines.proofs.uses_given.Given as goal

abbrev pub invariant-loop-at : goal.invariant-loop-at
invariant-loop-at l = (l.at < length l.piece → get_or l.piece l.at 0 ≡ open_mark) × (all_in (uses_from none (drop l.at l.piece)) l.keys ≡ all_in (uses_in l.piece) l.keys)

abbrev pub decreases-loop-at : goal.decreases-loop-at
decreases-loop-at l = length l.piece - l.at
