-- `reading::is_bell` meets its contract: each answer is a law of `BellBytes`.
use native.Mathlib.Omega.{arith}
use mathlib.Core.Path.{◌∙◌}
use borrow.Author.Tests.{eq-eqb}
use Rattle.reading.proofs.BellBytes.{low_no_bell, digit_bell, eleven_bell, above-digits}
use Rattle.reading.proofs.is_bell.Goals as goal

pub returns-then-b-lt-FIRST_DIGIT : goal.returns-then-b-lt-FIRST_DIGIT
returns-then-b-lt-FIRST_DIGIT c = low_no_bell c.args.b (omega arith)

pub returns-then-b-le-LAST_DIGIT : goal.returns-then-b-le-LAST_DIGIT
returns-then-b-le-LAST_DIGIT c = digit_bell c.args.b (omega arith) (omega arith)

pub returns-then-b-eq-ELEVEN : goal.returns-then-b-eq-ELEVEN
returns-then-b-eq-ELEVEN c = eq-eqb c.args.b 69 c.if-b-eq-ELEVEN.true ∙ eleven_bell c.args.b c.if-b-eq-ELEVEN.true

pub returns-else-b-eq-ELEVEN : goal.returns-else-b-eq-ELEVEN
returns-else-b-eq-ELEVEN c = above-digits c.args.b (omega arith) c.if-b-eq-ELEVEN.false
