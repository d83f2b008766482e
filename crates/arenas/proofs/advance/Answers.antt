-- `arenas::advance` meets its contract: what each arena leaves is underway still.
use Rattle.std.proofs.Common.{true, ◌∙◌}
use Rattle.large_arenas.proofs.Batches.{underway-none, underway-still, advanced-along}
use Rattle.arenas.proofs.advance.Goals as goal

pub go_on-tiny-requires-clause-underway : goal.go_on-tiny-requires-clause-underway
go_on-tiny-requires-clause-underway c = underway-none c.requires true

pub go_on-small-requires-clause-underway : goal.go_on-small-requires-clause-underway
go_on-small-requires-clause-underway c = underway-still (underway-none c.requires true) c.go_on-tiny.auto.area c.go_on-tiny.ensures

pub go_on-middle-requires-clause-underway : goal.go_on-middle-requires-clause-underway
go_on-middle-requires-clause-underway c =
    let tiny = underway-still (underway-none c.requires true) c.go_on-tiny.auto.area c.go_on-tiny.ensures in
    underway-still tiny c.go_on-small.auto.area c.go_on-small.ensures

pub go_on_large-requires : goal.go_on_large-requires
go_on_large-requires c =
    let tiny = underway-still (underway-none c.requires true) c.go_on-tiny.auto.area c.go_on-tiny.ensures in
    let small = underway-still tiny c.go_on-small.auto.area c.go_on-small.ensures in
    underway-still small c.go_on-middle.auto.area c.go_on-middle.ensures

pub returns : goal.returns
returns c =
    λ p.
    let tiny = underway-still (underway-none p true) c.go_on-tiny.auto.area c.go_on-tiny.ensures in
    let small = underway-still tiny c.go_on-small.auto.area c.go_on-small.ensures in
    let middle = underway-still small c.go_on-middle.auto.area c.go_on-middle.ensures in
    advanced-along (c.go_on-middle.auto.area ∙ c.go_on-small.auto.area ∙ c.go_on-tiny.auto.area) (c.go_on_large.ensures middle)
