-- `dearest_answers::print_dearest` meets its contract: a refusal's line, or the text of the term and the steps.
use Prim.Native.Nat.{ℕ}
use mathlib.Core.Path.{◌∙◌, ap}
use mathlib.Core.List.{List}
use Rattle.small_admission.specs.Answer.{refusal_of}
use Rattle.printing.specs.Printed.{count_of}
use Rattle.answer_lines.proofs.Printing.{prints}
use Rattle.dearest_answers.proofs.Printing.{refusal-shown, found-shown}
use Rattle.dearest_answers.proofs.print_dearest.Goals as goal

pub returns-in-Ok : goal.returns-in-Ok
returns-in-Ok c =
    let r = c.args.request in
    let finding = c.in-Ok.finding in
    prints _ _ _
    (ap (λ (word : List ℕ). count_of word finding.steps) c.cut-text.ensures
    ∙ found-shown r.size r.fuel r.area finding.text finding.steps c.in-Ok.ensures) c.print_count.ensures

pub returns-in-Err : goal.returns-in-Err
returns-in-Err c =
    let r = c.args.request in
    prints _ _ _ (refusal-shown r.size r.fuel r.area (refusal_of c.in-Err.refused) c.in-Err.ensures) c.print_refusal.ensures
