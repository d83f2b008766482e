use native.Mathlib.Omega.{arith}
use Rattle.numerals.proofs.Writing.{left-start, left-next}
use Rattle.numerals.proofs.write_digits.Goals as goal

pub loop-i-init : goal.loop-i-init
loop-i-init c = left-start c.args.n c.args.at c.args.end c.args.dst.now c.requires.end_value

pub loop-i-preserved : goal.loop-i-preserved
loop-i-preserved c = left-next c.loop-i.invariant c.loop-i-test.true (omega arith) c.last_digit.result c.last_digit.ensures
