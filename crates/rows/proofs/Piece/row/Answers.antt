-- `rows::Piece::row` meets its contract: the links of a row are a part of the chain.
use native.Mathlib.Omega.{arith}
use Rattle.bell_rows.proofs.Bells.{row-there, row-linked}
use Rattle.rows.proofs.Piece.row.Goals as goal

pub overflow_mul-i : goal.overflow_mul-i
overflow_mul-i c =
    let p = c.args.self.now in
    let there = row-there p.chain.now p.bells p.count c.args.i p.few p.whole c.requires in
    omega arith

pub overflow_mul-i-2 : goal.overflow_mul-i-2
overflow_mul-i-2 c =
    let p = c.args.self.now in
    let there = row-there p.chain.now p.bells p.count c.args.i p.few p.whole c.requires in
    omega arith

pub overflow_add-i : goal.overflow_add-i
overflow_add-i c =
    let p = c.args.self.now in
    let there = row-there p.chain.now p.bells p.count c.args.i p.few p.whole c.requires in
    omega arith

pub returns : goal.returns
returns c =
    let p = c.args.self.now in
    row-linked p.chain.now p.bells p.count c.args.i p.few p.whole c.requires _ _ c.cut.ensures c.row_of.ensures
