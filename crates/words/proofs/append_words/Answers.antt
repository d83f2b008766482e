use native.Mathlib.Omega.{arith}
use Rattle.words.proofs.Writing.{so-start, so-next, so-all}
use Rattle.words.proofs.append_words.Goals as goal

pub loop-n-init : goal.loop-n-init
loop-n-init c = so-start c.args.numbers.now c.args.dst.now c.args.at (omega arith)

pub loop-n-preserved : goal.loop-n-preserved
loop-n-preserved c =
    so-next c.args.numbers.now c.args.dst.now c.args.at c.loop-n.n-index c.loop-n.end
    c.append_word-end.result c.loop-n.dst c.append_word-end.new.dst c.loop-n.invariant
    c.loop-n-test.true c.append_word-end.ensures

pub returns : goal.returns
returns c =
    so-all c.args.numbers.now c.args.dst.now c.args.at c.loop-n.n-index c.loop-n.end
    c.loop-n.dst c.loop-n.invariant c.loop-n-test.false
