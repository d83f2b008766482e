-- `turning::turn` meets its contract: a letter is written, or an application comes into focus, from which `apply` goes on.
use Rattle.turning.proofs.Focusing.{both_taken, both_left}
use Rattle.turning.proofs.Turned.{turn_inside, turn-emittable, turned-shed, turn-focusable, turn-appliable}
use Rattle.turning.proofs.turn.Goals as goal

pub is_final-requires : goal.is_final-requires
is_final-requires c = turn_inside c.requires

pub shed-requires : goal.shed-requires
shed-requires c = turn-emittable c.requires (both_taken c.if-is_final.true c.is_final.ensures).1

pub returns-then-is_final : goal.returns-then-is_final
returns-then-is_final c =
    λ p. turned-shed p c.shed.new.cells c.shed.new.area c.shed.result c.shed.ensures.emitted
    c.shed.auto.area
    (both_taken c.if-is_final.true c.is_final.ensures).0 c.shed.ensures.others

pub application-f-requires : goal.application-f-requires
application-f-requires c = turn-focusable c.requires (both_left c.if-is_final.false c.is_final.ensures)

pub apply-requires : goal.apply-requires
apply-requires c = turn-appliable c.requires c.application-f.ensures

pub returns : goal.returns
returns c = λ p. c.apply.ensures (turn-appliable p c.application-f.ensures)
