use Prim.Native.Nat.{◌<◌}
use native.Mathlib.Omega.{arith}
use mathlib.Core.Path.{◌≡◌, ◌∙◌}
use borrow.Author.Rules.{rules}
use mir.Syntax.{w8}
use mir.Val.{Fits}
use lib.ListN.{length, get_or}
use Rattle.bell_rows.specs.Row.{most}
use Rattle.bell_rows.proofs.Keys.{key-turn, key-small, cap-next, key-whole}
use Rattle.bell_rows.proofs.key.Goals as goal

pub overflow_mul-key : goal.overflow_mul-key
overflow_mul-key c =
    let small = key-small c.loop-bell.bell-index c.loop-bell.key c.loop-bell-test.true c.loop-bell.invariant.1 in
    omega arith

pub overflow_add-key : goal.overflow_add-key
overflow_add-key c =
    let byte : Fits w8 (get_or c.args.row c.loop-bell.bell-index 0) = search rules in
    let fits : get_or c.args.row c.loop-bell.bell-index 0 < 256 = byte.fits in
    let small = key-small c.loop-bell.bell-index c.loop-bell.key c.loop-bell-test.true c.loop-bell.invariant.1 in
    omega arith

pub loop-bell-preserved : goal.loop-bell-preserved
loop-bell-preserved c =
    let i = c.loop-bell.bell-index in
    let byte : Fits w8 (get_or c.args.row i 0) = search rules in
    let sized : length c.args.row ≡ most = search rules in
    rw c.from.ensures (
      key-turn c.args.row i c.loop-bell.key (omega arith) c.loop-bell.invariant.0,
      cap-next i c.loop-bell.key (get_or c.args.row i 0) c.loop-bell.invariant.1 byte.fits,
    )

pub returns : goal.returns
returns c =
    let sized : length c.args.row ≡ most = search rules in
    c.loop-bell.invariant.0 ∙ key-whole c.args.row c.loop-bell.bell-index sized c.loop-bell-test.false
