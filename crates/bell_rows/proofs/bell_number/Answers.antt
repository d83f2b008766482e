-- `bell_rows::bell_number` meets its contract: each test is a law of `Numbers`.
use native.Mathlib.Omega.{arith}
use mathlib.Core.Path.{sym}
use Rattle.reading.proofs.BellBytes.{low_no_bell, above-digits}
use borrow.Author.Tests.{ne_eqb}
use mathlib.Core.Path.{◌∙◌}
use Rattle.bell_rows.proofs.Numbers.{number-none, number_eleven, number_twelve, number_ten, number_digit}
use Rattle.bell_rows.proofs.bell_number.Goals as goal

pub returns-then-b-eq-ELEVEN : goal.returns-then-b-eq-ELEVEN
returns-then-b-eq-ELEVEN c = number_eleven c.args.b c.if-b-eq-ELEVEN.true

pub returns-then-b-eq-TWELVE : goal.returns-then-b-eq-TWELVE
returns-then-b-eq-TWELVE c = number_twelve c.args.b c.if-b-eq-TWELVE.true

pub returns-then-b-lt-FIRST_DIGIT : goal.returns-then-b-lt-FIRST_DIGIT
returns-then-b-lt-FIRST_DIGIT c = number-none c.args.b (sym (low_no_bell c.args.b (omega arith)))

pub returns-then-b-gt-LAST_DIGIT : goal.returns-then-b-gt-LAST_DIGIT
returns-then-b-gt-LAST_DIGIT c =
    number-none c.args.b
    (sym (above-digits c.args.b (omega arith) c.if-b-eq-ELEVEN.false) ∙ ne_eqb c.args.b 84 c.if-b-eq-TWELVE.false)

pub returns-then-b-eq-FIRST_DIGIT : goal.returns-then-b-eq-FIRST_DIGIT
returns-then-b-eq-FIRST_DIGIT c = number_ten c.args.b c.if-b-eq-FIRST_DIGIT.true

pub returns : goal.returns
returns c = number_digit c.args.b (omega arith) (omega arith)
