-- `book_lines::is_piece` meets its contract. The loop's invariant: the bytes are a piece where those from `at` on make as many pieces as
-- are owed, which are at most one more than the bytes passed. The measure is what is left of the slice.
use Prim.Native.Nat.{◌≤◌, ◌+◌, ◌-◌}
use mathlib.Core.Path.{◌≡◌}
use mathlib.Core.Option.{none}
use lib.ListN.{length, drop}
use Rattle.books.specs.Parse.{pieces_from}
use Rattle.book_lines.specs.Scan.{is_piece}
use Rattle.book_lines.proofs.Scanning.{made}
use Rattle.book_lines.proofs.is_piece.Given as goal

abbrev pub invariant-loop-at : goal.invariant-loop-at
invariant-loop-at l = (l.at ≤ length l.s) × (l.owed ≤ l.at + 1) × (made (pieces_from l.owed none (drop l.at l.s)) ≡ is_piece l.s)

abbrev pub decreases-loop-at : goal.decreases-loop-at
decreases-loop-at l = length l.s - l.at
