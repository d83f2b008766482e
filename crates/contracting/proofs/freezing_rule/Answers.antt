-- `contracting::freezing_rule` meets its contract: each test says which rule it is.
use Rattle.contracting.proofs.Freezing.{freezes_1, freezes_2, freezes_3, freezes_12}
use Rattle.contracting.proofs.freezing_rule.Goals as goal

pub returns-then-letter-eq-J : goal.returns-then-letter-eq-J
returns-then-letter-eq-J c = freezes_1 c.if-letter-eq-J.true

pub returns-then-letter-eq-R : goal.returns-then-letter-eq-R
returns-then-letter-eq-R c = freezes_2 c.if-letter-eq-R.true

pub returns-then-letter-eq-H : goal.returns-then-letter-eq-H
returns-then-letter-eq-H c = freezes_3 c.if-letter-eq-H.true

pub returns : goal.returns
returns c = freezes_12 c.if-letter-eq-J.false c.if-letter-eq-R.false c.if-letter-eq-H.false
