-- `loading::load` meets its contract. The loop's invariant is `Half`: there is a cell for each letter behind those that are left, and they hold
-- the terms that those letters are read into.
use Rattle.loading.proofs.Turning.{Half}
use Rattle.loading.proofs.load.Given as goal

abbrev pub invariant-loop-b : goal.invariant-loop-b
invariant-loop-b l = Half l.s l.initial.cells l.cells l.top l.b-iterator.iter.rest.now
