-- `large_arenas::go_on_large` meets its contract: what the first of the arenas leaves is underway still.
use Rattle.large_arenas.proofs.Batches.{underway-still, advanced-along}
use Rattle.large_arenas.proofs.go_on_large.Goals as goal

pub go_on-requires-clause-underway : goal.go_on-requires-clause-underway
go_on-requires-clause-underway g c = underway-still c.requires c.go_on-large.auto.area c.go_on-large.ensures

pub returns : goal.returns
returns g c =
    λ u. advanced-along c.go_on-large.auto.area (c.go_on.ensures (underway-still u c.go_on-large.auto.area c.go_on-large.ensures))
