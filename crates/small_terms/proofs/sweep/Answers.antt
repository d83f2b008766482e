-- `small_terms::sweep` meets its contract: a refusal is passed on, else the runs of all come to the tally.
use Rattle.std.proofs.lemmas.Result.{err_from_is_err_and}
use Rattle.small_admission.proofs.Replies.{said-admitted}
use Rattle.small_terms.specs.Answer.{swept_in}
use Rattle.small_terms.proofs.Sweeps.{sweep-refused, sweep-answered}
use Rattle.small_terms.proofs.sweep.Goals as goal

pub returns-in_err-admit : goal.returns-in_err-admit
returns-in_err-admit c =
    let p = err_from_is_err_and c.from_residual.result c.from_residual.ensures.1 in
    rw (p.1, p.2) (sweep-refused c.args.n c.args.fuel c.args.area _ c.in_err-admit.ensures)

pub run_in-runs-requires : goal.run_in-runs-requires
run_in-runs-requires c = said-admitted c.args.n c.args.fuel c.args.area c.in_ok-admit.ensures

pub returns : goal.returns
returns c =
    sweep-answered c.args.n c.args.fuel c.args.area c.in_ok-admit.ensures (swept_in c.run_in-runs.result.tally) c.run_in-runs.ensures.0
