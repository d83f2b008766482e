-- `counting::finish_counted` meets its contract: behind the test of the counts' bytes, each way out is a law of `Ending`.
use Rattle.std.proofs.lemmas.Result.{err_from_is_err_and}
use Rattle.counting.proofs.Ending.{counts-long, counts-made}
use Rattle.counting.proofs.finish_counted.Goals as goal

pub returns-in_err-run : goal.returns-in_err-run
returns-in_err-run c =
    let a = c.args in
    let p = err_from_is_err_and c.from_residual.result c.from_residual.ensures.1 in
    rw (p.1, p.2)
    (counts-long a.area.now a.len a.work.now a.fuel a.counts.now c.if-counts-lt-COUNTS_SIZE.false _ c.in_err-run.ensures.work_after)

pub returns : goal.returns
returns c =
    let a = c.args in
    counts-made a.area.now a.len a.work.now a.fuel a.counts.now c.if-counts-lt-COUNTS_SIZE.false _
    c.finish.new.area c.finish.new.work c.in_ok-run.ensures.work_after c.append_words.new.dst c.append_words.ensures.0
