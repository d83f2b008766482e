use Prim.Native.Nat.{◌+◌}
use mathlib.Core.Path.{◌∙◌}
use Rattle.slices.specs.Part.{part}
use Rattle.books.specs.Piece.{open_mark}
use Rattle.book_lines.proofs.Using.{found_at, uses-start, not-given, one-given, known}
use Rattle.book_lines.proofs.uses_given.Goals as goal

pub loop-at-init : goal.loop-at-init
loop-at-init c = (
  found_at open_mark 0 c.find_from-at.result c.args.piece.now c.find_from-at.ensures,
  uses-start c.find_from-at.result c.args.piece.now c.args.keys.now c.find_from-at.ensures,
)

pub returns-then-not-is_in : goal.returns-then-not-is_in
returns-then-not-is_in c =
    let at = c.loop-at.at in
    let end = c.find_from-end.result in
    let piece = c.args.piece.now in
    let keys = c.args.keys.now in
    let within = c.loop-at-test.true in
    let told = known c.cut.result.now (part (at + 1) end piece) keys c.is_in.ensures c.key.ensures
    c.cut.ensures in
    not-given at end piece keys within (c.loop-at.invariant.0 within) c.find_from-end.ensures
    (told ∙ c.if-not-is_in.true) ∙ c.loop-at.invariant.1

pub loop-at-preserved : goal.loop-at-preserved
loop-at-preserved c =
    let at = c.loop-at.at in
    let end = c.find_from-end.result in
    let next = c.find_from-at-in-loop-at.result in
    let piece = c.args.piece.now in
    let keys = c.args.keys.now in
    let within = c.loop-at-test.true in
    let told = known c.cut.result.now (part (at + 1) end piece) keys c.is_in.ensures c.key.ensures
    c.cut.ensures in (
      found_at open_mark end next piece c.find_from-at-in-loop-at.ensures,
      one-given at end piece keys within (c.loop-at.invariant.0 within) c.find_from-end.ensures next c.find_from-at-in-loop-at.ensures
          (told ∙ c.if-not-is_in.false)
          ∙ c.loop-at.invariant.1,
    )
