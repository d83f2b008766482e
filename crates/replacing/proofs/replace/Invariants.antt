-- `replacing::replace` meets its contract. The loop's invariant is `Reached`: the text of the bytes before `at` stands at the front of the
-- area, and the text of the rest is to be written behind it. The measure is what is left of the piece.
use Prim.Native.Nat.{◌-◌}
use lib.ListN.{length, drop}
use Rattle.replacing.specs.Spelled.{spelled_in}
use Rattle.replacing.proofs.Spelling.{Reached}
use Rattle.replacing.proofs.replace.Given as goal

abbrev pub invariant-loop-at : goal.invariant-loop-at
invariant-loop-at l = Reached (spelled_in l.shelf.keys.now l.shelf.ends.now l.store l.piece) (spelled_in l.shelf.keys.now l.shelf.ends.now l.store (drop l.at l.piece)) l.initial.area l.area l.to

abbrev pub decreases-loop-at : goal.decreases-loop-at
decreases-loop-at l = length l.piece - l.at
