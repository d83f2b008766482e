-- `line_playing::play_line` meets its contract: each way out is what the line comes to.
use native.Mathlib.Omega.{arith}
use Rattle.line_playing.proofs.Lining.{too_large, not-refused, line-spent, line-no_room, store-full, line_gives}
use Rattle.line_playing.proofs.play_line.Goals as goal

pub returns-in_default : goal.returns-in_default
returns-in_default c =
    λ earlier results l lent shelved playable. too_large c.args.area.now c.args.work.now c.args.fuel lent shelved playable c.in_default.ensures.0

pub returns-in_default-finish : goal.returns-in_default-finish
returns-in_default-finish c =
    λ earlier results l lent shelved playable.
    absurd
    (not-refused c.args.area.now c.args.work.now c.args.fuel lent shelved playable c.in-Some.len _ c.in-Some.ensures
    c.in_default-finish.ensures.work_after)

pub returns-in-Spent : goal.returns-in-Spent
returns-in-Spent c =
    λ earlier results l lent shelved playable.
    line-spent c.args.area.now c.args.work.now c.args.fuel lent shelved playable c.in-Some.len _ c.in-Some.ensures
    c.in-Ok.ran c.in-Ok.ensures.work_after c.in-Spent.is

pub returns-in-NoRoom : goal.returns-in-NoRoom
returns-in-NoRoom c =
    λ earlier results l lent shelved playable.
    line-no_room c.args.area.now c.args.work.now c.args.fuel lent shelved playable c.in-Some.len _ c.in-Some.ensures
    c.in-Ok.ran c.in-Ok.ensures.work_after c.in-NoRoom.is

pub returns-then-store-size : goal.returns-then-store-size
returns-then-store-size c =
    λ earlier results l lent shelved playable.
    store-full c.args.area.now c.args.work.now c.args.fuel lent shelved playable c.in-Some.len _ c.in-Some.ensures
    c.in-Ok.ran c.in-Ok.ensures.work_after c.in-Finished.is (omega (arith, c.if-store-size.true))

pub returns-then-store-size-2 : goal.returns-then-store-size-2
returns-then-store-size-2 c =
    λ earlier results l lent shelved playable.
    store-full c.args.area.now c.args.work.now c.args.fuel lent shelved playable c.in-Some.len _ c.in-Some.ensures
    c.in-Ok.ran c.in-Ok.ensures.work_after c.in-Finished.is (omega (arith, c.if-store-size.false, c.if-store-size-2.true))

pub returns : goal.returns
returns c =
    λ earlier results l lent shelved playable.
    line_gives c.args.area.now c.args.work.now c.args.fuel lent shelved playable c.in-Some.len _ c.in-Some.ensures
    c.in-Ok.ran c.in-Ok.ensures.work_after c.in-Finished.is _ (omega (arith, c.if-store-size.false, c.if-store-size-2.false))
    c.append.ensures.0
