-- `repeats::stands` meets its contract. The loop's invariant: the numbers still to come decide for those that were given.
use mathlib.Core.Path.{◌≡◌}
use lib.Dec.{eqb}
use lib.ListN.{drop}
use Rattle.repeats.specs.Repeats.{among}
use Rattle.repeats.proofs.stands.Given as goal

abbrev pub invariant-loop-other : goal.invariant-loop-other
invariant-loop-other l = among eqb l.number (drop l.other-index l.numbers) ≡ among eqb l.number l.fn.numbers
