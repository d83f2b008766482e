use native.Mathlib.Omega.{arith}
use mathlib.Core.Path.{refl, sym, ◌∙◌}
use Rattle.emitting.proofs.Frames.{frame-inside}
use Rattle.emitting.proofs.Rest.{closed_none, closed_again, closable_on}
use Rattle.emitting.proofs.close.Goals as goal

pub offset_bounds-cells-list : goal.offset_bounds-cells-list
offset_bounds-cells-list c = omega (arith, frame-inside c.requires, c.requires.few)

pub bounds-cells-list : goal.bounds-cells-list
bounds-cells-list c = frame-inside c.requires

pub loop-kind-init : goal.loop-kind-init
loop-kind-init c =
    let place = c.args.place in
    (closed_none c.args.cells.now place.top place.cur place.list, c.requires, c.letter_in-kind.ensures, refl, refl)

pub close_one-now-requires : goal.close_one-now-requires
close_one-now-requires c =
    record {
      closable = c.loop-kind.invariant.1;
      framed = λ e. c.loop-kind-test.true (c.loop-kind.invariant.2 ∙ e);
    }

pub offset_bounds-cells-list-in-loop-kind : goal.offset_bounds-cells-list-in-loop-kind
offset_bounds-cells-list-in-loop-kind c =
    let on = closable_on c.loop-kind.invariant.1 c.close_one-now.ensures.closed c.close_one-now.auto.cells in
    omega (arith, frame-inside on, on.few)

pub bounds-cells-list-in-loop-kind : goal.bounds-cells-list-in-loop-kind
bounds-cells-list-in-loop-kind c = frame-inside (closable_on c.loop-kind.invariant.1 c.close_one-now.ensures.closed c.close_one-now.auto.cells)

pub loop-kind-smaller : goal.loop-kind-smaller
loop-kind-smaller c = c.close_one-now.ensures.nearer.0

pub loop-kind-preserved : goal.loop-kind-preserved
loop-kind-preserved c =
    let inv = c.loop-kind.invariant in (
      closed_again inv.0 c.close_one-now.ensures.closed,
      closable_on inv.1 c.close_one-now.ensures.closed c.close_one-now.auto.cells,
      c.letter_in-kind-in-loop-kind.ensures,
      c.close_one-now.ensures.nearer.1 ∙ inv.3,
      c.close_one-now.auto.cells ∙ inv.4,
    )

pub shape_of-cells : goal.shape_of-cells
shape_of-cells c = c.loop-kind.invariant.4

pub returns : goal.returns
returns c =
    record {
      closed = c.loop-kind.invariant.0;
      bare = (sym c.loop-kind.invariant.2 ∙ c.loop-kind-test.false, c.loop-kind.invariant.3);
    }
