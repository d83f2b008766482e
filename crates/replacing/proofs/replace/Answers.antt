use native.Mathlib.Omega.{arith}
use Rattle.slices.proofs.Appending.{appends-whole}
use Rattle.replacing.proofs.Spelling.{spelled-end, spelled-letter, spelled-use, use-within}
use Rattle.replacing.proofs.Spelling.{reached-more, reached-full, reached-end}
use Rattle.replacing.proofs.replace.Goals as goal

pub returns-then-area-to : goal.returns-then-area-to
returns-then-area-to c =
    let a = c.args in
    let inv = c.loop-at.invariant in
    let spelled =
    spelled-use a.shelf.keys.now a.shelf.ends.now a.store.now a.piece.now c.loop-at.at c.loop-at-test.true
    c.if-piece-at-eq-OPEN.true c.find_from-end.ensures c.cut.ensures c.key.ensures
    c.held-result.ensures in
    reached-full inv spelled (omega (arith, c.if-area-to.true, inv.written.room, inv.written.size))

pub overflow_add-at-then-piece-at-eq-OPEN-2 : goal.overflow_add-at-then-piece-at-eq-OPEN-2
overflow_add-at-then-piece-at-eq-OPEN-2 c =
    let piece = c.args.piece.now in
    omega (arith, use-within piece c.loop-at.at c.loop-at-test.true c.find_from-end.ensures)

pub loop-at-preserved-then-piece-at-eq-OPEN : goal.loop-at-preserved-then-piece-at-eq-OPEN
loop-at-preserved-then-piece-at-eq-OPEN c =
    let a = c.args in
    let inv = c.loop-at.invariant in
    let spelled =
    spelled-use a.shelf.keys.now a.shelf.ends.now a.store.now a.piece.now c.loop-at.at c.loop-at-test.true
    c.if-piece-at-eq-OPEN.true c.find_from-end.ensures c.cut.ensures c.key.ensures c.held-result.ensures in
    reached-more inv spelled (omega (arith, c.if-area-to.false, inv.written.room, inv.written.size))
    (appends-whole c.loop-at.to c.held-result.result.now c.loop-at.area c.append-to.ensures)

pub returns-then-area-to-2 : goal.returns-then-area-to-2
returns-then-area-to-2 c =
    let a = c.args in
    let spelled =
    spelled-letter a.shelf.keys.now a.shelf.ends.now a.store.now a.piece.now c.loop-at.at c.loop-at-test.true
    c.if-piece-at-eq-OPEN.false in
    reached-full c.loop-at.invariant spelled (omega (arith, c.if-area-to-2.true))

pub loop-at-preserved : goal.loop-at-preserved
loop-at-preserved c =
    let a = c.args in
    let spelled =
    spelled-letter a.shelf.keys.now a.shelf.ends.now a.store.now a.piece.now c.loop-at.at c.loop-at-test.true
    c.if-piece-at-eq-OPEN.false in
    reached-more c.loop-at.invariant spelled (omega (arith, c.if-area-to-2.false)) c.append_byte-to.ensures

pub returns : goal.returns
returns c =
    let a = c.args in
    reached-end c.loop-at.invariant
    (spelled-end a.shelf.keys.now a.shelf.ends.now a.store.now a.piece.now c.loop-at.at c.loop-at-test.false)
