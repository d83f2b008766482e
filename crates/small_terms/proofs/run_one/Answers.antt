-- `small_terms::run_one` meets its contract: finishing runs the term whose text was written.
use Rattle.small_terms.proofs.Running.{runs-one, ran-one}
use Rattle.small_terms.proofs.run_one.Goals as goal

pub unwrap-requires : goal.unwrap-requires
unwrap-requires c =
    runs-one c.args.n c.args.index c.args.fuel c.args.area.now c.args.work.now c.requires.ready c.requires.index_bound _
    c.write_text.ensures c.finish.result _ _ c.finish.ensures.work_after

pub returns : goal.returns
returns c =
    ran-one c.args.n c.args.index c.args.fuel c.args.area.now c.args.work.now c.requires.ready c.requires.index_bound _
    c.write_text.ensures c.finish.result _ _ c.finish.ensures.work_after c.unwrap.result c.unwrap.ensures
    (rw c.unwrap.ensures at c.finish.ensures.bounded)
