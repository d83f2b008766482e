-- `check_answers::answer_check` meets its contract: checking's promise, and the line of its answer.
use mathlib.Core.Path.{ap}
use Rattle.answer_lines.specs.Shown.{shown_check}
use Rattle.answer_lines.proofs.Printing.{prints}
use Rattle.answering.specs.Program.{check_program}
use Rattle.check_answers.proofs.answer_check.Goals as goal

pub returns : goal.returns
unfolding check_program
returns c = prints _ _ _ (ap shown_check c.check_derivation.ensures) c.print_checking.ensures
