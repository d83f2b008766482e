use Rattle.rows.proofs.Storing.{one-stored, all-stored}
use Rattle.rows.proofs.Piece.store.Goals as goal

pub loop-i-preserved : goal.loop-i-preserved
loop-i-preserved c =
    let p = c.args.self.now in
    one-stored p.bells p.count p.chain.now c.args.table.now c.args.keys.now p.few p.whole c.requires.room c.requires.keyed
    c.loop-i.i c.loop-i-test.true c.row-row.result c.loop-i.table c.append.new.dst c.loop-i.keys c.append.result c.key.result
    c.loop-i.invariant c.row-row.ensures c.append.ensures c.key.ensures

pub returns : goal.returns
returns c =
    let p = c.args.self.now in
    let all =
    all-stored p.bells p.count p.chain.now c.args.table.now c.args.keys.now p.few p.whole c.requires.room c.requires.keyed
    c.loop-i.i c.loop-i.table c.loop-i.keys c.loop-i.invariant c.loop-i-test.false in
    record { wrote = all.0; keys_after = all.1 }
