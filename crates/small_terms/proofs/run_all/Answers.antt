use Prim.Native.Nat.{◌+◌, ◌<◌}
use native.Mathlib.Omega.{arith}
use mathlib.Core.Path.{◌≡◌, sym, subst}
use lib.ListN.{length}
use Rattle.finishing.specs.Answer.{outcome_of}
use Rattle.small_texts.specs.Texts.{ways as ways_of}
use Rattle.small_texts.proofs.Indexed.{how_many_lem}
use Rattle.small_terms.specs.Answer.{swept_in, lead_in}
use Rattle.small_terms.specs.Loop.{Ran, Summed, Leads}
use Rattle.small_terms.proofs.Summing.{summed-more, few-enough}
use Rattle.small_terms.proofs.Leading.{lead-later}
use Rattle.small_terms.proofs.run_all.Goals as goal

pub counted-tally-requires-clause-few : goal.counted-tally-requires-clause-few
counted-tally-requires-clause-few c =
    let inside : c.loop-i.i < ways_of 1 c.args.n =
    omega (arith, c.loop-i-test.true, c.how_many-terms.ensures, how_many_lem c.args.n c.requires.asked.small.1) in
    few-enough c.args.n c.loop-i.i (swept_in c.loop-i.tally) c.requires.asked.small.1 inside c.loop-i.invariant.0.few

pub loop-i-preserved : goal.loop-i-preserved
loop-i-preserved c =
    let a = c.args in
    let long = length a.area.now in
    let run = c.run_one-run.result in
    let o = outcome_of run.outcome in
    let inside : c.loop-i.i < ways_of 1 a.n =
    omega (arith, c.loop-i-test.true, c.how_many-terms.ensures, how_many_lem a.n c.requires.asked.small.1) in
    let ran : Ran a.n c.loop-i.i a.fuel long o run.count = rw c.loop-i.auto.area at c.run_one-run.ensures in (
      subst (Summed a.n a.fuel long (c.loop-i.i + 1)) (sym c.counted-tally.ensures)
          (summed-more a.n a.fuel long c.loop-i.i (swept_in c.loop-i.tally) o run.count c.loop-i.invariant.0 inside ran),
      subst (Leads a.n a.fuel long (c.loop-i.i + 1)) (sym c.overtaken-lead.ensures)
          (lead-later a.n a.fuel long c.loop-i.i (lead_in c.loop-i.lead) o run.count c.loop-i.invariant.1 ran),
    )

pub returns : goal.returns
returns c =
    let all : c.loop-i.i ≡ ways_of 1 c.args.n =
    omega (arith, c.loop-i.auto.i-end, c.loop-i-test.false, c.how_many-terms.ensures, how_many_lem c.args.n c.requires.asked.small.1) in
    rw all at c.loop-i.invariant
