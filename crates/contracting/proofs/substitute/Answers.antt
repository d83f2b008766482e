-- `contracting::substitute` meets its contract: the argument's letter says which rule it is.
use mathlib.Core.Path.{sym, ◌∙◌}
use native.Mathlib.Omega.{arith}
use Rattle.contracting.proofs.Spreading.{spreads_8, spreads_11}
use Rattle.contracting.proofs.Standing.{rule-6-gives, rule-10-gives, rule-13-gives}
use Rattle.contracting.proofs.Substituting.{rule-7-first, rule-7-gives, rule-9-first, rule-9-second, rule-9-gives}
use Rattle.contracting.proofs.substitute.Goals as goal

pub returns-then-letter-eq-J : goal.returns-then-letter-eq-J
returns-then-letter-eq-J c = rule-6-gives c.requires.function_value c.first_in-result.ensures (sym c.letter_in-letter.ensures ∙ c.if-letter-eq-J.true)

pub node-requires : goal.node-requires
node-requires c =
    let can =
    rule-7-first c.requires.contractible c.requires.function_value c.second_in-substitution.ensures c.first_in-index.ensures
    (sym c.letter_in-letter.ensures ∙ c.if-letter-eq-R.true) in
    omega (arith, can)

pub returns-then-letter-eq-R : goal.returns-then-letter-eq-R
returns-then-letter-eq-R c =
    rule-7-gives c.requires.contractible c.requires.function_value c.second_in-substitution.ensures c.first_in-index.ensures
    (sym c.letter_in-letter.ensures ∙ c.if-letter-eq-R.true) c.node.ensures

pub spread-requires-clause-spreads : goal.spread-requires-clause-spreads
spread-requires-clause-spreads c = spreads_8 c.letter_in-letter.ensures c.if-letter-eq-H.true

pub spread-requires-then-letter-eq-B-clause-spreads : goal.spread-requires-then-letter-eq-B-clause-spreads
spread-requires-then-letter-eq-B-clause-spreads c = spreads_11 c.letter_in-letter.ensures c.if-letter-eq-B.true

pub node-requires-then-letter-eq-A : goal.node-requires-then-letter-eq-A
node-requires-then-letter-eq-A c =
    rule-9-first c.requires.contractible c.requires.function_value c.first_in-environment.ensures c.second_in-body.ensures
    (sym c.letter_in-letter.ensures ∙ c.if-letter-eq-A.true)

pub node-requires-then-letter-eq-A-2 : goal.node-requires-then-letter-eq-A-2
node-requires-then-letter-eq-A-2 c =
    rule-9-second c.requires.contractible c.requires.function_value c.first_in-environment.ensures c.second_in-body.ensures
    (sym c.letter_in-letter.ensures ∙ c.if-letter-eq-A.true) c.node-then-letter-eq-A.ensures

pub returns-then-letter-eq-A : goal.returns-then-letter-eq-A
returns-then-letter-eq-A c =
    rule-9-gives c.requires.contractible c.requires.function_value c.first_in-environment.ensures c.second_in-body.ensures
    (sym c.letter_in-letter.ensures ∙ c.if-letter-eq-A.true) c.node-then-letter-eq-A.ensures c.node-then-letter-eq-A-2.ensures

pub returns-then-letter-eq-I : goal.returns-then-letter-eq-I
returns-then-letter-eq-I c = rule-10-gives c.requires.function_value (sym c.letter_in-letter.ensures ∙ c.if-letter-eq-I.true)

pub returns-else-letter-eq-I : goal.returns-else-letter-eq-I
returns-else-letter-eq-I c =
    rule-13-gives c.requires.function_value c.letter_in-letter.ensures c.if-letter-eq-J.false c.if-letter-eq-R.false c.if-letter-eq-H.false
    c.if-letter-eq-B.false c.if-letter-eq-A.false c.if-letter-eq-I.false
