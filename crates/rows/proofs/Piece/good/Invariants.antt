-- `rows::Piece::good` meets its contract. The loop's invariant: the first i rows are good, and what is left is still to be counted.
use Prim.Native.Nat.{◌+◌}
use mathlib.Core.Path.{◌≡◌}
use lib.ListN.{drop}
use Rattle.rows.specs.Ringing.{good_rows}
use Rattle.rows.specs.Storing.{rows_in}
use Rattle.rows.proofs.Piece.good.Given as goal

abbrev pub invariant-loop-i : goal.invariant-loop-i
invariant-loop-i l = l.i + good_rows l.self.bells (drop l.i (rows_in l.self.bells l.self.count l.self.chain.now)) ≡ good_rows l.self.bells (rows_in l.self.bells l.self.count l.self.chain.now)
