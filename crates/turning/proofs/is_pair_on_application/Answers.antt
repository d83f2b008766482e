-- `turning::is_pair_on_application` meets its contract: it tests the one and then the other.
use mathlib.Core.Path.{sym, ◌∙◌}
use Rattle.calculus.specs.Letter.{Letter, byte}
use Rattle.turning.specs.Turning.{Both}
use Rattle.turning.proofs.Focusing.{both_tested}
use Rattle.turning.proofs.is_pair_on_application.Goals as goal

pub returns-then-letter_in-ne-B : goal.returns-then-letter_in-ne-B
returns-then-letter_in-ne-B c = Both.not-both (λ e. absurd (c.if-letter_in-ne-B.true (c.letter_in.ensures ∙ e)))

pub returns : goal.returns
returns c =
    both_tested c.letter_in-2.result _ (byte Letter.stop) (sym c.letter_in.ensures ∙ c.if-letter_in-ne-B.false)
    c.letter_in-2.ensures
