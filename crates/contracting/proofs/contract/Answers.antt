-- `contracting::contract` meets its contract: the function's letter says which rules it may be.
use mathlib.Core.Path.{sym, ◌∙◌}
use Rattle.contracting.proofs.Standing.{rule-5-gives}
use Rattle.contracting.proofs.Freezing.{freeze-first, freeze-gives}
use Rattle.contracting.proofs.contract.Goals as goal

pub returns-then-letter-eq-I : goal.returns-then-letter-eq-I
returns-then-letter-eq-I c = rule-5-gives (sym c.letter_in-letter.ensures ∙ c.if-letter-eq-I.true)

pub node-requires : goal.node-requires
node-requires c = freeze-first c.requires

pub returns : goal.returns
returns c =
    freeze-gives c.requires c.node.ensures c.letter_in-letter.ensures c.if-letter-eq-B.false c.if-letter-eq-A.false
    c.if-letter-eq-I.false c.freezing_rule.ensures
