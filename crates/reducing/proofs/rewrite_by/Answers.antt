-- `reducing::rewrite_by` meets its contract: the search and the rewriting look the ends up.
use Rattle.reducing.proofs.Makes.{looked-up-makes}
use Rattle.reducing.proofs.rewrite_by.Goals as goal

pub returns : goal.returns
returns c =
    let a = c.args in
    λ right t e short at some.
    looked-up-makes t a.text.letters.now a.first e at c.redex-p.result a.text.ends.now c.rewrite_at.result some right c.redex-p.ensures
    c.rewrite_at.ensures
