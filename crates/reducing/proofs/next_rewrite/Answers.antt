-- `reducing::next_rewrite` meets its contract: without a full stop there is no rule, and else the table is as long as the text or longer.
use Rattle.reducing.proofs.Makes.{nothing-next}
use Rattle.reducing.proofs.next_rewrite.Goals as goal

pub returns-then-first-s : goal.returns-then-first-s
returns-then-first-s c =
    λ t e short. nothing-next t c.args.s.now c.find-first.result e c.find-first.ensures c.if-first-s.true
