-- `finishing::step_once` meets its contract: the step in the front of the areas is the step in the whole.
use Rattle.reading.specs.Reply.{Reply}
use Rattle.stepping.specs.Answer.{stepped_of, answer_of}
use Rattle.finishing.proofs.Lending.{lent-steps, never-refused}
use Rattle.finishing.proofs.step_once.Goals as goal

pub unwrap-requires : goal.unwrap-requires
unwrap-requires c =
    never-refused c.step.result
    (lent-steps c.args.area.now c.args.size c.args.work.now c.min-needed.result c.requires.term
    (answer_of c.step.result) c.step.new.area c.step.new.work c.min-needed.ensures
    c.requires.short c.requires.room c.requires.held c.step.ensures)

pub returns : goal.returns
returns c =
    λ t h. lent-steps c.args.area.now c.args.size c.args.work.now c.min-needed.result t
    (Reply.answered (stepped_of c.unwrap.result)) c.step.new.area c.step.new.work c.min-needed.ensures
    c.requires.short c.requires.room h (rw c.unwrap.ensures at c.step.ensures)
