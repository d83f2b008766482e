-- `stores::keeps` meets its contract. The loop's invariant is `Replayed`: so many results are read, and any catalogue that the store keeps
-- goes on from them. The measure is how many entries are left.
use Prim.Native.Nat.{◌-◌, ◌≤◌}
use mathlib.Core.Path.{◌≡◌}
use Rattle.entries.specs.Catalogue.{entry_limit, letter_limit}
use Rattle.stores.specs.Search.{size_at}
use Rattle.stores.proofs.Replaying.{Replayed}
use Rattle.stores.proofs.keeps.Given as goal

abbrev pub invariant-loop-size : goal.invariant-loop-size
invariant-loop-size l = Replayed l.store l.kept.count l.kept.used × (l.size ≡ size_at l.kept.count l.store) × (l.kept.count ≤ entry_limit) × (l.kept.used ≤ letter_limit)

abbrev pub decreases-loop-size : goal.decreases-loop-size
decreases-loop-size l = entry_limit - l.kept.count
