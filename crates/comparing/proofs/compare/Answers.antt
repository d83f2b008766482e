-- `comparing::compare` meets its contract: each of its three ways out is a law of comparing's `Ending`.
use mathlib.Core.Path.{refl}
use Rattle.std.proofs.lemmas.Result.{err_from_is_err_and}
use Rattle.verdicts.proofs.Ending.{admitted-finishes, after-first-refused, after-second-refused, after_both}
use Rattle.comparing.proofs.compare.Goals as goal

pub returns-in_err-admit : goal.returns-in_err-admit
returns-in_err-admit c =
    let a = c.args in
    let p = err_from_is_err_and c.from_residual.result c.from_residual.ensures.1 in
    let ends = after-first-refused a.first.now a.first_len a.second.now a.second_len a.work.now a.fuel _ c.in_err-admit.ensures in
    rw (p.1, p.2) (record { work_after = ends.0; turning = ends.1 })

pub returns-in_err-admit-2 : goal.returns-in_err-admit-2
returns-in_err-admit-2 c =
    let a = c.args in
    let p = err_from_is_err_and c.from_residual-in_err-admit-2.result c.from_residual-in_err-admit-2.ensures.1 in
    let ends = after-second-refused a.first.now a.first_len a.second.now a.second_len a.work.now a.fuel c.in_ok-admit.ensures _
    c.in_err-admit-2.ensures in
    rw (p.1, p.2) (record { work_after = ends.0; turning = ends.1 })

pub unwrap-one-requires : goal.unwrap-one-requires
unwrap-one-requires c =
    let a = c.args in
    admitted-finishes a.first.now a.first_len a.work.now a.work.now a.fuel c.finish.result c.finish.new.area c.finish.new.work refl
    c.in_ok-admit.ensures c.finish.ensures.work_after

pub unwrap-two-requires : goal.unwrap-two-requires
unwrap-two-requires c =
    let a = c.args in
    admitted-finishes a.second.now a.second_len a.work.now c.finish.new.work a.fuel c.finish-2.result c.finish-2.new.area c.finish-2.new.work
    c.finish.auto.work c.in_ok-admit-2.ensures c.finish-2.ensures.work_after

pub returns : goal.returns
returns c =
    let a = c.args in
    let ends = after_both a.first.now a.first_len a.second.now a.second_len a.work.now a.fuel c.in_ok-admit.ensures c.in_ok-admit-2.ensures
    c.unwrap-one.result c.unwrap-two.result c.finish.new.area c.finish-2.new.area c.finish.new.work c.finish-2.new.work c.verdict_on.result
    (rw c.unwrap-one.ensures at c.finish.ensures.work_after) (rw c.unwrap-two.ensures at c.finish-2.ensures.work_after) c.verdict_on.ensures in
    record { work_after = ends.0; turning = ends.1 }
