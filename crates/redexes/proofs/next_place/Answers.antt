-- `redexes::next_place` meets its contract: each answer is a way that the search goes, by the tests that led to it.
use mathlib.Core.Path.{sym, ◌∙◌, ap}
use Prim.Native.Nat.{ℕ}
use lib.ListN.{get_or}
use Rattle.redexes.specs.Moves.{Move}
use Rattle.redexes.proofs.next_place.Goals as goal

pub returns-then-head-eq-STOP : goal.returns-then-head-eq-STOP
returns-then-head-eq-STOP c = Move.function (sym c.letter_at-head.ensures ∙ c.if-head-eq-STOP.true)

pub returns-then-letter_at-eq-STOP : goal.returns-then-letter_at-eq-STOP
returns-then-letter_at-eq-STOP c =
    Move.argument c.end_of-end.ensures.value (sym c.letter_at-head.ensures ∙ c.if-head-eq-B.true)
    (sym c.letter_at.ensures ∙ c.if-letter_at-eq-STOP.true)

pub returns-then-head-eq-B : goal.returns-then-head-eq-B
returns-then-head-eq-B c =
    let a = c.args in
    Move.here (λ e. c.if-head-eq-STOP.false (c.letter_at-head.ensures ∙ e))
    (λ b e. c.if-letter_at-eq-STOP.false (c.letter_at.ensures ∙ ap (λ (n : ℕ). get_or a.text.letters.now n 0) c.end_of-end.ensures.value ∙ e))

pub returns : goal.returns
returns c =
    let head = c.letter_at-head.ensures in
    Move.here (λ e. c.if-head-eq-STOP.false (head ∙ e)) (λ b. absurd (c.if-head-eq-B.false (head ∙ b)))
