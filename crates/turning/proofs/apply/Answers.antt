-- `turning::apply` meets its contract: each of its four ways out is a law of `Turned`.
use native.Mathlib.Omega.{arith}
use mathlib.Core.Path.{◌∙◌}
use Rattle.turning.proofs.Focusing.{both_taken, both_left}
use Rattle.turning.proofs.Turned.{focus-inside, focus-free, turned-function, turned-argument, turned-spent}
use Rattle.turning.proofs.apply.Goals as goal

pub offset_bounds-cells-function : goal.offset_bounds-cells-function
offset_bounds-cells-function c = omega (arith, focus-inside c.requires)

pub bounds-cells-function : goal.bounds-cells-function
bounds-cells-function c = (focus-inside c.requires).0

pub descend-requires : goal.descend-requires
descend-requires c =
    record {
      free = (focus-free c.requires).0;
      short = ((focus-free c.requires).2, (focus-free c.requires).3);
    }

pub returns-then-letter_in-eq-STOP : goal.returns-then-letter_in-eq-STOP
returns-then-letter_in-eq-STOP c = λ p. turned-function p c.descend.ensures.linked c.descend.ensures.value

pub is_pair_on_application-requires : goal.is_pair_on_application-requires
is_pair_on_application-requires c = ((focus-inside c.requires).0, (focus-inside c.requires).1)

pub descend-requires-then-is_pair_on_application : goal.descend-requires-then-is_pair_on_application
descend-requires-then-is_pair_on_application c =
    record {
      free = (focus-free c.requires).0;
      short = ((focus-free c.requires).1, (focus-free c.requires).3);
    }

pub returns-then-is_pair_on_application : goal.returns-then-is_pair_on_application
returns-then-is_pair_on_application c =
    λ p. turned-argument p (both_taken c.if-is_pair_on_application.true c.is_pair_on_application.ensures).0
    c.descend-then-is_pair_on_application.ensures.linked c.descend-then-is_pair_on_application.ensures.value

pub returns-then-st-eq0 : goal.returns-then-st-eq0
returns-then-st-eq0 c = λ p. turned-spent p c.halted.ensures

pub fire-requires : goal.fire-requires
fire-requires c =
    record {
      appliable = c.requires;
      some = omega arith;
      no_function = λ e. c.if-letter_in-eq-STOP.false (c.letter_in.ensures ∙ e);
      no_argument = both_left c.if-is_pair_on_application.false c.is_pair_on_application.ensures;
    }
