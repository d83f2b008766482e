-- `reading::read` meets its contract. The loop's invariant: reading goes on at `at`, with so many terms owed, and answers what it answers
-- of the whole.
use Rattle.std.proofs.Common.{◌≡◌, ◌≤◌, ◌+◌}
use lib.ListN.{drop}
use Rattle.reading.specs.Reading.{reading_from, reading_of}
use Rattle.reading.proofs.read.Given as goal

abbrev pub invariant-loop-at : goal.invariant-loop-at
invariant-loop-at l = (l.owed ≤ l.at + 1) × (reading_from l.owed l.at (drop l.at l.s) ≡ reading_of l.s)
