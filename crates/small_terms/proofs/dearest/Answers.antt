-- `small_terms::dearest` meets its contract: a refusal beside no text, else the text of the term whose run leads.
use Rattle.std.proofs.lemmas.Result.{err_from_is_err_and}
use mathlib.Core.Path.{sym}
use lib.Seq.{length-take-le}
use Rattle.small_admission.proofs.Replies.{said-admitted}
use Rattle.small_terms.specs.Answer.{no_text}
use Rattle.small_terms.proofs.Leading.{some-lead}
use Rattle.small_terms.proofs.Found.{none_found, dearest-found}
use Rattle.small_terms.proofs.dearest.Goals as goal

pub returns-in_err-admit : goal.returns-in_err-admit
returns-in_err-admit c =
    let p = err_from_is_err_and c.from_residual.result c.from_residual.ensures.1 in
    rw (p.1, p.2) (none_found c.args.n c.args.fuel c.args.area _ c.in_err-admit.ensures)

pub run_in-runs-requires : goal.run_in-runs-requires
run_in-runs-requires c = said-admitted c.args.n c.args.fuel c.args.area c.in_ok-admit.ensures

pub unwrap-lead-requires : goal.unwrap-lead-requires
unwrap-lead-requires c =
    let allowed = said-admitted c.args.n c.args.fuel c.args.area c.in_ok-admit.ensures in
    some-lead c.args.n c.args.fuel c.args.area c.run_in-runs.result.lead c.run_in-runs.ensures.1 allowed.small.0

pub slice_bounds-text-end : goal.slice_bounds-text-end
slice_bounds-text-end c = (said-admitted c.args.n c.args.fuel c.args.area c.in_ok-admit.ensures).small.1

pub slice_bounds-write_text-end : goal.slice_bounds-write_text-end
slice_bounds-write_text-end c =
    let allowed = said-admitted c.args.n c.args.fuel c.args.area c.in_ok-admit.ensures in
    sym (length-take-le c.args.n no_text allowed.small.1)

pub returns : goal.returns
returns c =
    let lead = c.unwrap-lead.result in
    dearest-found c.args.n c.args.fuel c.args.area c.in_ok-admit.ensures lead.index lead.steps
    (rw c.unwrap-lead.ensures at c.run_in-runs.ensures.1) _ c.write_text.ensures
