use Rattle.calculus.specs.Parse.{items}
use Rattle.loading.proofs.Turning.{Half, start, turn, turned, loaded}
use Rattle.loading.proofs.load.Goals as goal

pub loop-b-init : goal.loop-b-init
loop-b-init c =
    let begun : Half c.args.s.now c.args.cells.now c.args.cells.now 1 c.args.s.now = start c.args.s.now c.args.cells.now in
    rw (c.into_iter-b-iterator.ensures.into_iter_gives, c.rev-b-items.ensures.source, c.iter.ensures.rest) begun

pub load_letter-requires : goal.load_letter-requires
load_letter-requires c = (items c.loop-b.invariant.behind, turn c.loop-b.invariant _ _ c.in-Some.ensures.steps c.requires)

pub loop-b-preserved : goal.loop-b-preserved
loop-b-preserved c =
    turned c.loop-b.invariant _ _ c.in-Some.ensures.steps c.requires c.load_letter.auto.cells c.load_letter.ensures.kept
    c.load_letter.ensures.stacked

pub returns : goal.returns
returns c =
    record {
      kept = c.loop-b.invariant.kept;
      loaded = loaded c.loop-b.invariant c.in-None.ensures.steps.0;
    }
