-- `turning::is_final` meets its contract: it tests the one and then the other.
use mathlib.Core.Path.{sym, ◌∙◌}
use Rattle.cells.specs.Chain.{pending_kind}
use Rattle.turning.specs.Turning.{Both}
use Rattle.turning.proofs.Focusing.{both_tested}
use Rattle.turning.proofs.is_final.Goals as goal

pub returns-then-letter_in-eq-STOP : goal.returns-then-letter_in-eq-STOP
returns-then-letter_in-eq-STOP c = Both.not-both (λ n. absurd (n (sym c.letter_in.ensures ∙ c.if-letter_in-eq-STOP.true)))

pub returns : goal.returns
returns c =
    both_tested c.letter_in-2.result _ pending_kind (λ e. c.if-letter_in-eq-STOP.false (c.letter_in.ensures ∙ e))
    c.letter_in-2.ensures
