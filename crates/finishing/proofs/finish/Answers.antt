-- `finishing::finish` meets its contract: what the run of an admitted call comes to is a law of `Ending`.
use Rattle.finishing.specs.Answer.{outcome_of}
use Rattle.finishing.proofs.Ending.{after-ready, after_run}
use Rattle.finishing.proofs.finish.Goals as goal

pub run_term-run-requires-clause-ready : goal.run_term-run-requires-clause-ready
run_term-run-requires-clause-ready c = let a = c.args in after-ready a.area.now a.len a.work.now a.fuel c.in_ok-admit.ensures

pub returns : goal.returns
returns c =
    let a = c.args in
    let run = c.run_term-run.result in
    let ran = after_run a.area.now a.len a.work.now a.fuel c.in_ok-admit.ensures (outcome_of run.outcome) run.count run.by_rule run.size
    c.run_term-run.new.area c.run_term-run.new.work c.clear.new.area c.clear.new.work
    c.run_term-run.ensures c.run_term-run.auto.area c.run_term-run.auto.work c.clear.ensures.area_after
    c.clear.ensures.work_after in
    record { work_after = ran.0; bounded = ran.1 }
