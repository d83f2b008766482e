-- `controller::controller_book` meets its contract: the book's promise, and the number of its answer.
use Rattle.codes.proofs.Coded.{coded_book_lem}
use Rattle.controller.proofs.controller_book.Goals as goal

pub returns : goal.returns
returns c = coded_book_lem c.book_number.ensures c.play.ensures
