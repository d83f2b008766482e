-- `stepping::advance` meets its contract: each of its three ways out is a law of `Ending`.
use Rattle.std.specs.Prelude.{Some, None}
use Rattle.calculus.specs.Term.{Term}
use Rattle.reducing.specs.Makes.{Makes}
use Rattle.stepping.specs.Held.{Holds}
use Rattle.stepping.proofs.Ending.{held_next, after-normal, after-no-room, after-step}
use Rattle.stepping.proofs.advance.Goals as goal

pub returns-in_default : goal.returns-in_default
returns-in_default c =
    let cleared = c.clear.ensures in
    λ t h. after-normal h c.args.work.now (held_next h None c.requires.2 c.in_default.ensures) cleared.area_after cleared.work_after

pub returns-then-area-len : goal.returns-then-area-len
returns-then-area-len c =
    let a = c.args in
    let makes : (t : Term) → Holds a.area.now a.len t → Makes t c.in-Some.w =
    λ t h. held_next h (Some c.in-Some.w) c.requires.2 c.in-Some.ensures in
    let cleared = c.clear-then-area-len.ensures in
    λ t h. after-no-room h a.work.now (makes t h) c.growth.ensures c.if-area-len.true cleared.area_after cleared.work_after

pub returns : goal.returns
returns c =
    let a = c.args in
    let makes : (t : Term) → Holds a.area.now a.len t → Makes t c.in-Some.w =
    λ t h. held_next h (Some c.in-Some.w) c.requires.2 c.in-Some.ensures in
    let written = c.write_back-size.ensures in
    λ t h. after-step h a.work.now (makes t h) c.growth.ensures c.if-area-len.false c.requires.1 written.back written.work_after
