-- `answering::run_request` meets its contract: finishing's promise on the fronts of the buffers, and the line of its answer.
use native.Mathlib.Omega.{arith}
use mathlib.Core.Path.{sym}
use lib.Seq.{length-take-le}
use Rattle.finishing.specs.Answer.{reply_of, ran_in}
use Rattle.answering.proofs.Requests.{front_length, request_answers}
use Rattle.answering.proofs.run_request.Goals as goal

pub slice_bounds-finish-end-2 : goal.slice_bounds-finish-end-2
slice_bounds-finish-end-2 c = sym (length-take-le c.min-n.result c.args.term.now (omega arith))

pub slice_bounds-finish-end-4 : goal.slice_bounds-finish-end-4
slice_bounds-finish-end-4 c = sym (length-take-le c.min-m.result c.args.work.now (omega arith))

pub slice_bounds-print_finishing-end-2 : goal.slice_bounds-print_finishing-end-2
slice_bounds-print_finishing-end-2 c =
    front_length c.args.request.area c.args.term.now c.min-n.result c.finish-answer.new.area
    c.min-n.ensures c.finish-answer.auto.area

pub returns : goal.returns
returns c =
    let a = c.args in
    let answer = c.finish-answer.result in
    let left =
    request_answers a.request.fuel a.request.area a.request.length a.term.now a.work.now
    c.min-n.result c.min-m.result (reply_of answer) (ran_in answer) c.finish-answer.new.area c.finish-answer.new.work _ _ _ c.used_by.result
    c.min-n.ensures c.min-m.ensures c.finish-answer.auto.area c.finish-answer.ensures.work_after
    c.print_finishing-size.ensures c.used_by.ensures in
    record { out_after = left.0; lent = left.1.0; used = left.1.1 }
