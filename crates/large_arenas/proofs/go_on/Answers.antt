-- `large_arenas::go_on` meets its contract: both batches are one.
use Rattle.large_arenas.proofs.Batches.{made-few, runnable-again, both-few, advanced-both}
use Rattle.large_arenas.proofs.go_on.Goals as goal

pub overflow_sub-most : goal.overflow_sub-most
overflow_sub-most g c = made-few c.requires.underway

pub in_arena-second-requires-clause-runnable : goal.in_arena-second-requires-clause-runnable
in_arena-second-requires-clause-runnable g c = runnable-again c.requires.underway

pub both-requires : goal.both-requires
both-requires g c = both-few c.requires.underway c.in_arena-second.ensures

pub returns : goal.returns
returns g c = λ u. advanced-both u c.in_arena-second.ensures c.both.ensures
