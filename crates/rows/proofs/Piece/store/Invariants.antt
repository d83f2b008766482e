-- `rows::Piece::store` meets its contract. The loop's invariant: the first i rows and their keys are stored.
use Rattle.rows.proofs.Storing.{Stored}
use Rattle.rows.proofs.Piece.store.Given as goal

abbrev pub invariant-loop-i : goal.invariant-loop-i
invariant-loop-i l = Stored l.self.bells l.self.count l.self.chain.now l.initial.table l.initial.keys l.i l.table l.keys
