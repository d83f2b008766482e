use native.Mathlib.Omega.{arith}
use lib.ListN.{length}
use Rattle.small_texts.proofs.Letters.{can-choose, one_written, all-written}
use Rattle.small_texts.proofs.write_letters.Goals as goal

pub choose-choice-requires-clause-index_bound : goal.choose-choice-requires-clause-index_bound
choose-choice-requires-clause-index_bound c =
    can-choose (length c.args.text.now) c.args.index c.loop-at.owing c.loop-at.left c.loop-at.at c.loop-at.text c.loop-at.invariant
    c.loop-at-test.true

pub loop-at-preserved : goal.loop-at-preserved
loop-at-preserved c =
    one_written (length c.args.text.now) c.args.index c.loop-at.owing c.loop-at.left c.loop-at.at c.loop-at.text c.loop-at.invariant
    c.choose-choice.result.letter c.choose-choice.result.owing c.choose-choice.result.index c.loop-at-test.true c.choose-choice.ensures

pub returns : goal.returns
returns c =
    all-written (length c.args.text.now) c.args.index c.loop-at.owing c.loop-at.left c.loop-at.at c.loop-at.text c.loop-at.invariant
    (omega (arith, c.loop-at-test.false))
