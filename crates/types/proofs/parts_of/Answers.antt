-- `types::parts_of` meets its contract: each answer is a law of `Scan`.
use native.Mathlib.Omega.{arith}
use Rattle.types.proofs.Scan.{parts-arrow, parts_low, parts_high, parts-atom}
use Rattle.types.proofs.parts_of.Goals as goal

pub returns-then-b-eq-ARROW : goal.returns-then-b-eq-ARROW
returns-then-b-eq-ARROW c = parts-arrow c.args.b c.if-b-eq-ARROW.true

pub returns-then-b-lt-FIRST_ATOM : goal.returns-then-b-lt-FIRST_ATOM
returns-then-b-lt-FIRST_ATOM c = parts_low c.args.b c.if-b-eq-ARROW.false (omega arith)

pub returns-then-b-gt-LAST_ATOM : goal.returns-then-b-gt-LAST_ATOM
returns-then-b-gt-LAST_ATOM c = parts_high c.args.b (omega arith)

pub returns : goal.returns
returns c = parts-atom c.args.b (omega arith) (omega arith)
