use native.Mathlib.Omega.{arith}
use mathlib.Core.Path.{◌≡◌}
use borrow.Author.Rules.{rules}
use lib.ListN.{length, take, length-take}
use lib.Seq.{length-take-le}
use Rattle.bell_rows.specs.Row.{most}
use Rattle.bell_rows.proofs.Each.{none_seen}
use Rattle.bell_rows.proofs.Places.{many-bad, zero-bad, above-bad, twice-bad, one_more, row-good}
use Rattle.bell_rows.proofs.is_row.Goals as goal

pub returns-then-bells-gt-MOST : goal.returns-then-bells-gt-MOST
returns-then-bells-gt-MOST c =
    let sized : length c.args.row ≡ most = search rules in
    many-bad c.args.bells (take c.args.bells c.args.row) (omega (arith, length-take c.args.bells c.args.row)) c.if-bells-gt-MOST.true

pub loop-place-init : goal.loop-place-init
loop-place-init c = none_seen c.args.bells

pub returns-then-bell-eq0 : goal.returns-then-bell-eq0
returns-then-bell-eq0 c =
    zero-bad c.args.bells _ c.loop-place.place-index c.from-bell.result c.loop-place-test.true c.from-bell.ensures c.if-bell-eq0.true

pub returns-then-bells-bell : goal.returns-then-bells-bell
returns-then-bells-bell c =
    above-bad c.args.bells _ c.loop-place.place-index c.from-bell.result c.loop-place-test.true c.from-bell.ensures
    c.if-bells-bell.true

pub returns-then-seen-bell : goal.returns-then-seen-bell
returns-then-seen-bell c =
    twice-bad c.args.bells _ c.loop-place.place-index c.from-bell.result c.loop-place-test.true c.from-bell.ensures
    c.if-bells-gt-MOST.false c.loop-place.invariant (omega arith) c.if-seen-bell.true

pub loop-place-preserved : goal.loop-place-preserved
loop-place-preserved c =
    one_more c.args.bells _ c.loop-place.place-index c.from-bell.result c.loop-place-test.true c.from-bell.ensures
    c.if-bells-gt-MOST.false c.loop-place.invariant (omega arith) (omega arith) c.if-seen-bell.false

pub returns : goal.returns
returns c =
    let sized : length c.args.row ≡ most = search rules in
    row-good c.args.bells _ c.loop-place.place-index (length-take-le c.args.bells c.args.row (omega arith)) c.loop-place-test.false
    c.loop-place.invariant
