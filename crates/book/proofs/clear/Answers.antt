-- `book::clear` meets its contract: of the store the first bytes are zeros, and the others stay.
use Rattle.books.proofs.Answers.{emptied_by}
use Rattle.book.proofs.clear.Goals as goal

pub returns : goal.returns
returns c = (c.clear.ensures.area_after, c.clear.ensures.work_after, emptied_by _ c.args.store.now c.requires c.zero_from.ensures)
