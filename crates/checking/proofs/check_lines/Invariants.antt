-- `checking::check_lines` meets its contract. The loop's invariant: the lines passed were good, the table holds where they begin, the claim
-- is that of the last, and the lines from `at` on decide the whole (`Walk.Passed`). The measure is how many lines may still come. Assumes
-- nothing.
use Prim.Native.Nat.{◌-◌}
use Rattle.calculus.specs.Limits.{line_limit}
use Rattle.checking.proofs.Walk.{Passed}
use Rattle.checking.proofs.check_lines.Given as goal

abbrev pub invariant-loop-at : goal.invariant-loop-at
invariant-loop-at l = Passed l.file l.starts l.n l.at l.claim

abbrev pub decreases-loop-at : goal.decreases-loop-at
decreases-loop-at l = line_limit - l.n
