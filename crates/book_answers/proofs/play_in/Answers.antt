-- `book_answers::play_in` meets its contract: playing's promise, with zeros for work area and store.
use Rattle.book_answers.proofs.Printing.{played_shown}
use Rattle.book_answers.proofs.play_in.Goals as goal

pub returns : goal.returns
returns c = played_shown c.args.book.now c.args.area.now c.play.ensures
