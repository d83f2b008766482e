-- `machine::turns` meets its contract. The loop's invariant is `Going`; what is to go falls with each turn.
use Rattle.turning.specs.Turning.{to_go_in}
use Rattle.machine.proofs.Looping.{Going}
use Rattle.machine.proofs.turns.Given as goal

abbrev pub invariant-loop-st : goal.invariant-loop-st
invariant-loop-st l = Going l.room l.initial.cells l.initial.area l.initial.counts l.initial.st l.limit l.cells l.area l.counts l.st

abbrev pub decreases-loop-st : goal.decreases-loop-st
decreases-loop-st l = to_go_in l.initial.cells l.initial.area l.st
