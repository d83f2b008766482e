-- `numerals::decimal_length` meets its contract. The invariant: the digits counted and those of the number that is left are one more than
-- the number has. The measure is the number that is left.
use Prim.Native.Nat.{◌+◌, ◌≤◌}
use mathlib.Core.Path.{◌≡◌}
use lib.ListN.{length}
use Rattle.slices.specs.Numeral.{decimal}
use Rattle.numerals.proofs.decimal_length.Given as goal

abbrev pub invariant-loop-rest : goal.invariant-loop-rest
invariant-loop-rest l = (length (decimal l.n) + 1 ≡ l.count + length (decimal l.rest)) × (l.count + l.rest ≤ l.n + 1)

abbrev pub decreases-loop-rest : goal.decreases-loop-rest
decreases-loop-rest l = l.rest
