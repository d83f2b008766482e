-- `joining::write` meets its contract: its five appends write the text of the join.
use Rattle.joining.proofs.Writing.{join-wrote}
use Rattle.joining.proofs.write.Goals as goal

pub returns : goal.returns
returns c =
    join-wrote c.args.f.now c.args.g.now c.requires
    c.append-opened.ensures c.append-one.ensures c.append_byte-paired.ensures c.append-two.ensures
    c.append.ensures
