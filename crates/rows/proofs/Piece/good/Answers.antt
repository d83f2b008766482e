use native.Mathlib.Omega.{arith}
use Rattle.rows.proofs.Good.{bad-here, good-here, all-good}
use Rattle.rows.proofs.Piece.good.Goals as goal

pub returns-then-not-is_row : goal.returns-then-not-is_row
returns-then-not-is_row c =
    let p = c.args.self.now in
    bad-here p.chain.now p.bells p.count c.loop-i.i p.few p.whole c.loop-i-test.true c.row.result c.is_row.result c.row.ensures
    c.is_row.ensures c.if-not-is_row.true c.loop-i.invariant

pub loop-i-preserved : goal.loop-i-preserved
loop-i-preserved c =
    let p = c.args.self.now in
    good-here p.chain.now p.bells p.count c.loop-i.i p.few p.whole c.loop-i-test.true c.row.result c.is_row.result c.row.ensures
    c.is_row.ensures c.if-not-is_row.false c.loop-i.invariant

pub returns : goal.returns
returns c =
    let p = c.args.self.now in
    all-good p.chain.now p.bells p.count c.loop-i.i p.few p.whole (omega arith) c.loop-i.invariant
