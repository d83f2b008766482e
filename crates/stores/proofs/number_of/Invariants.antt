-- `stores::number_of` meets its contract. The loop's invariant: what is not yet looked at, with its end, has the number that all have.
use Prim.Native.Nat.{◌≤◌}
use mathlib.Core.Path.{◌≡◌}
use Rattle.entries.specs.Catalogue.{entry_limit, letter_limit}
use Rattle.stores.specs.Search.{found_in, number_in}
use Rattle.stores.proofs.number_of.Given as goal

abbrev pub invariant-loop-entry : goal.invariant-loop-entry
invariant-loop-entry l = (l.entry ≤ entry_limit) × (l.end ≤ letter_limit) × (found_in l.entry l.end l.store l.res l.print ≡ number_in l.fn.kept.count l.fn.kept.used l.store l.res l.print)
