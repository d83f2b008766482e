-- `bell_rows::is_row` meets its contract. The loop's invariant: the places that it has passed hold different bells from one to so many, and
-- `seen` marks them.
use lib.ListN.{take}
use Rattle.bell_rows.proofs.Each.{Seen}
use Rattle.bell_rows.proofs.is_row.Given as goal

abbrev pub invariant-loop-place : goal.invariant-loop-place
invariant-loop-place l = Seen l.bells (take l.place-index l.place-items) l.seen
