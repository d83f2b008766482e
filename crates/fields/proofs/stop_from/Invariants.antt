-- `fields::stop_from` meets its contract. The loop's invariant: the first stop from `at` on is that from `from` on.
use mathlib.Core.Path.{◌≡◌}
use Rattle.fields.specs.Fields.{stop_at}
use Rattle.fields.proofs.stop_from.Given as goal

abbrev pub invariant-loop-at : goal.invariant-loop-at
invariant-loop-at l = stop_at l.file l.at ≡ stop_at l.file l.from
