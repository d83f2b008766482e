use Prim.Native.Nat.{◌+◌}
use mathlib.Core.Path.{refl, sym, ◌∙◌, ap}
use native.Mathlib.Omega.{arith}
use lib.Seq.{length-take-le}
use Rattle.book_lines.specs.Fault.{piece_field}
use Rattle.book.proofs.Walking.{next, walk_start, walk-few, walk-table, walk-line-ends, walk-room, walk-playable, walk-spent, walk-no_room, walk-gave, walk-on, walk_end}
use Rattle.book.proofs.play_lines.Goals as goal

pub loop-at-init : goal.loop-at-init
loop-at-init c =
    walk_start c.args.book.now c.args.keys.now c.args.area.now c.args.work.now c.args.store.now
    c.args.fuel c.requires

pub slice_bounds-play_line-end : goal.slice_bounds-play_line-end
slice_bounds-play_line-end c =
    sym
    (length-take-le c.loop-at.count c.args.keys.now (omega (arith, walk-few c.loop-at.invariant, walk-table c.loop-at.invariant)))

pub overflow_add-ends : goal.overflow_add-ends
overflow_add-ends c = omega (arith, walk-few c.loop-at.invariant)

pub slice_bounds-ends-end : goal.slice_bounds-ends-end
slice_bounds-ends-end c =
    omega
    (arith, walk-room c.loop-at.invariant c.loop-at-test.true c.find_from-feed.result c.find_from-feed.ensures)

pub slice_bounds-play_line-end-in-loop-at : goal.slice_bounds-play_line-end-in-loop-at
slice_bounds-play_line-end-in-loop-at c =
    sym
    (length-take-le (c.loop-at.count + 1) c.loop-at.ends (omega (arith, walk-room c.loop-at.invariant c.loop-at-test.true c.find_from-feed.result c.find_from-feed.ensures, c.loop-at.invariant.ends-long)))

pub overflow_add-count : goal.overflow_add-count
overflow_add-count c = omega (arith, walk-few c.loop-at.invariant)

pub returns-in-Spent : goal.returns-in-Spent
returns-in-Spent c =
    let walked = c.loop-at.invariant in
    let more = c.loop-at-test.true in
    let feed = c.find_from-feed.result in
    let found = c.find_from-feed.ensures in
    let piece = c.piece_of.ensures ∙ ap piece_field c.cut.ensures in
    let line = c.play_line-end.result in
    let left =
    c.play_line-end.ensures walked.earlier walked.results (next walked more feed found).l walked.lent walked.shelved
    (walk-playable walked more feed found c.piece_of.result.now piece) in
    walk-spent walked more feed found line c.stopped.result _ _ c.in-Spent.is left c.stopped.ensures

pub returns-in-NoRoom : goal.returns-in-NoRoom
returns-in-NoRoom c =
    let walked = c.loop-at.invariant in
    let more = c.loop-at-test.true in
    let feed = c.find_from-feed.result in
    let found = c.find_from-feed.ensures in
    let piece = c.piece_of.ensures ∙ ap piece_field c.cut.ensures in
    let line = c.play_line-end.result in
    let left =
    c.play_line-end.ensures walked.earlier walked.results (next walked more feed found).l walked.lent walked.shelved
    (walk-playable walked more feed found c.piece_of.result.now piece) in
    walk-no_room walked more feed found line c.stopped-in-NoRoom.result _ _ c.in-NoRoom.is left c.stopped-in-NoRoom.ensures

pub overflow_add-used : goal.overflow_add-used
overflow_add-used c =
    let walked = c.loop-at.invariant in
    let more = c.loop-at-test.true in
    let feed = c.find_from-feed.result in
    let found = c.find_from-feed.ensures in
    let piece = c.piece_of.ensures ∙ ap piece_field c.cut.ensures in
    let line = c.play_line-end.result in
    let left =
    c.play_line-end.ensures walked.earlier walked.results (next walked more feed found).l walked.lent walked.shelved
    (walk-playable walked more feed found c.piece_of.result.now piece) in
    let gave = walk-gave walked more feed found line c.in-Finished.size _ _ c.in-Finished.is left in
    omega (arith, gave.fits)

pub offset_bounds-ends-count : goal.offset_bounds-ends-count
offset_bounds-ends-count c =
    omega
    (arith, walk-room c.loop-at.invariant c.loop-at-test.true c.find_from-feed.result c.find_from-feed.ensures)

pub bounds-ends-count : goal.bounds-ends-count
bounds-ends-count c =
    omega
    (arith, walk-room c.loop-at.invariant c.loop-at-test.true c.find_from-feed.result c.find_from-feed.ensures, c.loop-at.invariant.ends-long)

pub overflow_add-at : goal.overflow_add-at
overflow_add-at c =
    omega
    (arith, walk-line-ends c.loop-at.invariant c.loop-at-test.true c.find_from-feed.result c.find_from-feed.ensures)

pub loop-at-smaller : goal.loop-at-smaller
loop-at-smaller c =
    omega
    (arith, walk-line-ends c.loop-at.invariant c.loop-at-test.true c.find_from-feed.result c.find_from-feed.ensures, c.find_from-feed.ensures)

pub loop-at-preserved : goal.loop-at-preserved
loop-at-preserved c =
    let walked = c.loop-at.invariant in
    let more = c.loop-at-test.true in
    let feed = c.find_from-feed.result in
    let found = c.find_from-feed.ensures in
    let piece = c.piece_of.ensures ∙ ap piece_field c.cut.ensures in
    let line = c.play_line-end.result in
    let left =
    c.play_line-end.ensures walked.earlier walked.results (next walked more feed found).l walked.lent walked.shelved
    (walk-playable walked more feed found c.piece_of.result.now piece) in
    let gave = walk-gave walked more feed found line c.in-Finished.size _ _ c.in-Finished.is left in
    walk-on walked more feed found c.in-Finished.size _ _ _ _ gave refl c.play_line-end.auto.area c.play_line-end.auto.work
    c.play_line-end.auto.store

pub returns : goal.returns
returns c = walk_end c.loop-at.invariant (omega (arith, c.loop-at-test.false))
