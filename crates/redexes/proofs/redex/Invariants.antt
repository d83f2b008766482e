-- `redexes::redex` meets its contract. The loop's invariant: p lies within the slice, q is where the search goes from p, and
-- where the moves from p end, there end those from `first`. The measure is what is left behind p.
use Prim.Native.Nat.{ℕ, ◌≤◌, ◌-◌}
use lib.ListN.{length}
use Rattle.parts.specs.Ends.{listed}
use Rattle.redexes.specs.Moves.{Move, Leads}
use Rattle.redexes.proofs.redex.Given as goal

abbrev pub invariant-loop-p : goal.invariant-loop-p
invariant-loop-p l = (l.p ≤ length l.text.letters.now) × Move (listed l.text.ends.now) l.text.letters.now l.p l.q × ((r : ℕ) → Leads (listed l.text.ends.now) l.text.letters.now l.p r → Leads (listed l.text.ends.now) l.text.letters.now l.first r)

abbrev pub decreases-loop-p : goal.decreases-loop-p
decreases-loop-p l = length l.text.letters.now - l.p
