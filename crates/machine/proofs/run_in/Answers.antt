-- `machine::run_in` meets its contract: the text is loaded, the turns are made, and what is left is written back.
use mathlib.Core.Path.{sym, ◌∙◌, subst}
use lib.ListN.{length-set}
use lib.Seq.{length-take-le}
use Rattle.machine.specs.Advancing.{Advanced}
use Rattle.machine.proofs.Batches.{usable_same, loadable, startable, unloadable, ended-few, advanced-left, advanced-end}
use Rattle.machine.proofs.run_in.Goals as goal

pub slice_bounds-load-end-2 : goal.slice_bounds-load-end-2
slice_bounds-load-end-2 c = sym (length-take-le c.args.len c.args.area.now c.requires.runnable.within)

pub load-requires : goal.load-requires
load-requires c = loadable c.requires.runnable (usable_same (length-set c.args.cells.now 0 _) c.requires.usable)

pub turns-st-requires : goal.turns-st-requires
turns-st-requires c = startable c.requires.runnable c.requires.usable c.load.ensures.kept c.load.auto.cells c.load.ensures.loaded

pub unload-requires : goal.unload-requires
unload-requires c =
    unloadable c.requires.runnable c.requires.usable c.load.ensures.kept c.load.auto.cells c.load.ensures.loaded
    c.turns-st.ensures c.if-place.true c.turns-st.auto.cells c.turns-st.auto.area

pub ended-requires : goal.ended-requires
ended-requires c =
    ended-few c.requires.runnable c.requires.usable c.load.ensures.kept c.load.auto.cells c.load.ensures.loaded
    c.turns-st.ensures

pub shape_of-cells-then-place : goal.shape_of-cells-then-place
shape_of-cells-then-place c = c.unload.auto.cells ∙ c.turns-st.auto.cells ∙ c.load.auto.cells ∙ length-set c.args.cells.now 0 0

pub returns-then-place : goal.returns-then-place
returns-then-place c =
    λ p. subst
    (Advanced c.args.area.now p.term p.used c.args.most c.unload.new.area
    c.turns-st.new.counts)
    (sym c.ended.ensures)
    (advanced-left p c.requires.usable c.load.ensures.kept c.load.auto.cells c.load.ensures.loaded
    c.turns-st.ensures c.if-place.true c.unload.new.area c.unload.ensures)

pub ended-requires-2 : goal.ended-requires-2
ended-requires-2 c =
    ended-few c.requires.runnable c.requires.usable c.load.ensures.kept c.load.auto.cells c.load.ensures.loaded
    c.turns-st.ensures

pub shape_of-cells : goal.shape_of-cells
shape_of-cells c = c.turns-st.auto.cells ∙ c.load.auto.cells ∙ length-set c.args.cells.now 0 0

pub returns : goal.returns
returns c =
    λ p. subst
    (Advanced c.args.area.now p.term p.used c.args.most c.turns-st.new.area
    c.turns-st.new.counts)
    (sym c.ended-2.ensures)
    (advanced-end p c.requires.usable c.load.ensures.kept c.load.auto.cells c.load.ensures.loaded
    c.turns-st.ensures c.if-place.false)
