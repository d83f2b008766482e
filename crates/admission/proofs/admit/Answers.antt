-- `admission::admit` meets its contract: what reading refuses, and what is whole, are laws of `Admitting`.
use native.Mathlib.Omega.{arith}
use mathlib.Core.Path.{sym, ◌∙◌, ap}
use Rattle.reading.specs.Answer.{answer_of}
use Rattle.admission.proofs.Admitting.{reading_refused, whole}
use Rattle.admission.proofs.admit.Goals as goal

pub returns-in_default : goal.returns-in_default
returns-in_default c =
    let a = c.args in
    reading_refused a.area.now a.len a.work.now a.fuel (omega arith) (omega arith) (omega arith) (omega arith) _
    (ap answer_of (sym c.unwrap_err.ensures) ∙ c.read-reading.ensures)

pub returns : goal.returns
returns c =
    let a = c.args in
    whole a.area.now a.len a.work.now a.fuel (omega arith) (omega arith) (omega arith)
    (omega arith) _ c.in-Ok.ensures
