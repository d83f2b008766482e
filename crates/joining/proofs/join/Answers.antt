-- `joining::join` meets its contract: each of its four ways out is a law of `Ending`.
use mathlib.Core.Path.{sym, ◌∙◌, ap}
use borrow.Author.Tests.{leb-true, leb-false}
use Rattle.reading.specs.Answer.{answer_of}
use Rattle.joining.proofs.Ending.{first-refused, second-refused, too_large, room, joined}
use Rattle.joining.proofs.join.Goals as goal

pub returns-in_default : goal.returns-in_default
returns-in_default c =
    first-refused c.args.f.now c.args.g.now c.args.area.now _ (ap answer_of (sym c.unwrap_err.ensures) ∙ c.read-first.ensures)

pub returns-in_default-second : goal.returns-in_default-second
returns-in_default-second c =
    second-refused c.args.f.now c.args.g.now c.args.area.now c.in-Ok.f_size c.in-Ok.ensures _
    (ap answer_of (sym c.unwrap_err-in_default-second.ensures) ∙ c.read-second.ensures)

pub returns-then-not-has_room : goal.returns-then-not-has_room
returns-then-not-has_room c =
    too_large c.args.f.now c.args.g.now c.args.area.now c.in-Ok.f_size c.in-Ok.ensures
    c.in-Ok-second.g_size c.in-Ok-second.ensures (leb-false _ _ (sym c.has_room.ensures ∙ c.if-not-has_room.true))

pub write-size-requires : goal.write-size-requires
write-size-requires c =
    room c.args.f.now c.args.g.now c.args.area.now c.in-Ok.f_size c.in-Ok.ensures
    c.in-Ok-second.g_size c.in-Ok-second.ensures (leb-true _ _ (sym c.has_room.ensures ∙ c.if-not-has_room.false))

pub returns : goal.returns
returns c =
    joined c.args.f.now c.args.g.now c.args.area.now c.in-Ok.f_size c.in-Ok.ensures
    c.in-Ok-second.g_size c.in-Ok-second.ensures (leb-true _ _ (sym c.has_room.ensures ∙ c.if-not-has_room.false))
    c.write-size.result c.write-size.new.area c.zero_from.new.dst c.write-size.ensures c.zero_from.ensures
