use Prim.Native.Nat.{◌+◌}
use mathlib.Core.Path.{refl, sym}
use native.Mathlib.Omega.{arith}
use Rattle.reading.specs.Reply.{number_in}
use Rattle.book_lines.specs.Number.{refusal_of}
use Rattle.book_reading.specs.declared.Refused.TheVariants.{BadLine}
use Rattle.book_reading.proofs.Lines.{line-ends}
use Rattle.book_reading.proofs.Walk.{begun, name-key, refused, room, again}
use Rattle.book_reading.proofs.Whole.{refuses, fault-numbered}
use Rattle.book_reading.proofs.read_lines.Goals as goal

pub loop-at-init : goal.loop-at-init
loop-at-init c = begun c.args.book.now

pub returns-in-Err : goal.returns-in-Err
returns-in-Err c =
    let number = number_in (refusal_of c.in-Err.fault) in
    refuses (BadLine c.in-Err.fault (c.loop-at.count + 1)) number (c.loop-at.count + 1) refl
    (refused c.loop-at.invariant c.requires c.loop-at-test.true c.find_from-end.ensures c.cut-body.ensures
    number c.in-Err.ensures (fault-numbered c.in-Err.fault))

pub bounds-keys-count : goal.bounds-keys-count
bounds-keys-count c =
    room c.loop-at.invariant c.requires c.loop-at-test.true c.find_from-end.ensures c.cut-body.ensures (sym c.in_default.ensures)

pub overflow_add-at : goal.overflow_add-at
overflow_add-at c =
    let within =
    line-ends c.args.book.now c.loop-at.at c.find_from-end.result c.requires
    c.loop-at-test.true c.find_from-end.ensures in
    omega (arith, c.well_formed.0.0)

pub loop-at-preserved : goal.loop-at-preserved
loop-at-preserved c =
    let key =
    name-key c.cut-body.result.now c.cut.result.now c.find.result c.key.result
    c.find.ensures c.cut.ensures c.key.ensures in
    again c.loop-at.invariant c.requires c.loop-at-test.true c.find_from-end.ensures
    c.cut-body.ensures (sym c.in_default.ensures) c.key.result key
