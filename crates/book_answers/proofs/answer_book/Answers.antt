-- `book_answers::answer_book` meets its contract: the line of a book that is played in zeros.
use Rattle.answer_lines.proofs.Printing.{prints}
use Rattle.book_answers.proofs.Printing.{program_shown}
use Rattle.book_answers.proofs.answer_book.Goals as goal

pub returns : goal.returns
returns c = prints _ _ _ (program_shown c.args.book.now c.play_in-answer.ensures) c.print_playing.ensures
