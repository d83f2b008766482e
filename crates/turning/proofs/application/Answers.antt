-- `turning::application` meets its contract: each of its three answers is a law of `Focusing`.
use native.Mathlib.Omega.{arith}
use mathlib.Core.Path.{refl, sym, ◌∙◌}
use Rattle.cells.proofs.Opening.{stands-inside, chain-inside}
use Rattle.turning.proofs.Focusing.{focused_by, focus-here, focus-argument, focus-function}
use Rattle.turning.proofs.application.Goals as goal

pub offset_bounds-cells-cur : goal.offset_bounds-cells-cur
offset_bounds-cells-cur c = omega (arith, stands-inside c.requires.stage.stands, c.requires.inside)

pub bounds-cells-cur : goal.bounds-cells-cur
bounds-cells-cur c = omega (arith, stands-inside c.requires.stage.stands, c.requires.inside)

pub returns-then-letter_in-eq-STOP : goal.returns-then-letter_in-eq-STOP
returns-then-letter_in-eq-STOP c =
    λ top front t stage. focused_by c.first_in.ensures c.second_in.ensures refl
    (focus-here stage (sym c.letter_in.ensures ∙ c.if-letter_in-eq-STOP.true))

pub offset_bounds-cells-list : goal.offset_bounds-cells-list
offset_bounds-cells-list c = omega (arith, chain-inside c.requires.stage.chain, c.requires.inside)

pub bounds-cells-list : goal.bounds-cells-list
bounds-cells-list c = omega (arith, chain-inside c.requires.stage.chain, c.requires.inside)

pub returns-then-letter_in-eq-ARGUMENT : goal.returns-then-letter_in-eq-ARGUMENT
returns-then-letter_in-eq-ARGUMENT c =
    λ top front t stage. focused_by refl c.first_in-then-letter_in-eq-ARGUMENT.ensures c.second_in-then-letter_in-eq-ARGUMENT.ensures
    (focus-argument stage (sym c.letter_in-2.ensures ∙ c.if-letter_in-eq-ARGUMENT.true))

pub returns : goal.returns
returns c =
    λ top front t stage. focused_by c.first_in-2.ensures refl c.second_in-2.ensures
    (focus-function stage (c.requires.applied (λ e. c.if-letter_in-eq-STOP.false (c.letter_in.ensures ∙ e)))
    (λ e. c.if-letter_in-eq-ARGUMENT.false (c.letter_in-2.ensures ∙ e)))
