-- `sweep_answers::print_sweep` meets its contract: a refusal's line, or that of the tally, which has a finished run.
use mathlib.Core.Path.{ap}
use Rattle.answer_lines.proofs.Printing.{prints}
use Rattle.sweep_answers.specs.Shown.{shown_sweep}
use Rattle.sweep_answers.proofs.Printing.{can-divide}
use Rattle.sweep_answers.proofs.print_sweep.Goals as goal

pub print_tally-requires : goal.print_tally-requires
print_tally-requires c = let r = c.args.request in can-divide r.size r.fuel r.area c.in-Ok.tally c.in-Ok.ensures

pub returns-in-Ok : goal.returns-in-Ok
returns-in-Ok c = prints _ _ _ (ap (shown_sweep c.args.request.size) c.in-Ok.ensures) c.print_tally.ensures

pub returns-in-Err : goal.returns-in-Err
returns-in-Err c = prints _ _ _ (ap (shown_sweep c.args.request.size) c.in-Err.ensures) c.print_refusal.ensures
