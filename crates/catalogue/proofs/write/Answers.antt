-- `catalogue::write` meets its contract: its three appends write the entry and the text.
use Rattle.catalogue.proofs.Writing.{result-wrote}
use Rattle.catalogue.proofs.write.Goals as goal

pub returns : goal.returns
returns c =
    result-wrote c.args.term.now c.args.print c.args.kept.count c.args.kept.used c.requires
    c.append_word-end.ensures c.append_word.ensures c.append.ensures
