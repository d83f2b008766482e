-- `stepping::step` meets its contract: what reading refuses is a law of `Ending`, and what it answers is handed to `advance`.
-- Assumes nothing.
use native.Mathlib.Omega.{arith}
use mathlib.Core.Path.{sym, ◌∙◌, ap}
use Rattle.reading.specs.Answer.{answer_of}
use Rattle.stepping.proofs.Ending.{reading_refused, reading-answered}
use Rattle.stepping.proofs.step.Goals as goal

pub returns-in_default : goal.returns-in_default
returns-in_default c =
    let a = c.args in
    reading_refused a.area.now a.len a.work.now (omega arith) (omega arith) (omega arith) _
    (ap answer_of (sym c.unwrap_err.ensures) ∙ c.read-reading.ensures)

pub advance-requires : goal.advance-requires
advance-requires c =
    let a = c.args in
    let read = reading-answered a.area.now a.len a.work.now (omega arith) (omega arith) (omega arith)
    c.in-Ok.size c.in-Ok.ensures in
    (read.1.within, omega arith, omega arith)

pub returns : goal.returns
returns c =
    let a = c.args in
    let read = reading-answered a.area.now a.len a.work.now (omega arith) (omega arith) (omega arith)
    c.in-Ok.size c.in-Ok.ensures in
    c.advance.ensures read.0 read.1 ∙ sym read.2
