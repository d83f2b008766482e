-- `emitting::unload` meets its contract. The loop's invariant is `Left`: the terms of the start are here, with room for what is left of one
-- of them. The measure is the area's length less the letters written.
use Prim.Native.Nat.{◌-◌}
use mathlib.Core.Path.{◌≡◌}
use lib.ListN.{length, take}
use Rattle.emitting.proofs.Rest.{Left}
use Rattle.emitting.proofs.unload.Given as goal

abbrev pub invariant-loop-left : goal.invariant-loop-left
invariant-loop-left l =
    Left l.initial.cells l.initial.now.top l.initial.now.cur l.initial.now.list (take l.initial.now.written l.initial.area)
    l.cells l.now.top l.now.cur l.now.list l.area l.now.written l.left
    × (length l.cells ≡ length l.initial.cells)
    × (length l.area ≡ length l.initial.area)

abbrev pub decreases-loop-left : goal.decreases-loop-left
decreases-loop-left l = length l.initial.area - l.now.written
