use mathlib.Core.Path.{refl, ◌∙◌}
use lib.ListN.{length}
use Rattle.emitting.proofs.Rest.{unloadable-closable, stage-closed, left-start, left-emittable, left_less, left-on, left-none}
use Rattle.emitting.proofs.unload.Goals as goal

pub close-now-requires : goal.close-now-requires
close-now-requires c = unloadable-closable c.requires

pub loop-left-init : goal.loop-left-init
loop-left-init c =
    let bare = c.close-now.ensures.bare in
    (left-start c.args.area.now c.close-now.ensures.closed bare.1 c.requires c.close-now.auto.cells bare.0, refl, refl)

pub emit-now-requires : goal.emit-now-requires
emit-now-requires c = left-emittable c.loop-left.invariant.0 c.loop-left-test.true

pub loop-left-smaller : goal.loop-left-smaller
loop-left-smaller c =
    let inv = c.loop-left.invariant in
    left_less inv.0 c.loop-left-test.true c.emit-now.ensures.emitted (length c.args.area.now) inv.2

pub loop-left-preserved : goal.loop-left-preserved
loop-left-preserved c =
    let inv = c.loop-left.invariant in (
      left-on inv.0 c.loop-left-test.true c.emit-now.ensures.emitted c.emit-now.ensures.bare c.emit-now.auto.cells c.emit-now.auto.area,
      c.emit-now.auto.cells ∙ inv.1,
      c.emit-now.auto.area ∙ inv.2,
    )

pub shape_of-cells : goal.shape_of-cells
shape_of-cells c = c.loop-left.invariant.1 ∙ c.close-now.auto.cells

pub shape_of-area : goal.shape_of-area
shape_of-area c = c.loop-left.invariant.2

pub returns : goal.returns
returns c =
    let closed = c.close-now.ensures in
    λ t s. left-none c.loop-left.invariant.0 c.loop-left-test.false t (stage-closed c.args.area.now closed.closed closed.bare.1 t s)
