use native.Mathlib.Omega.{arith}
use mathlib.Core.Path.{◌≡◌}
use lib.ListN.{length}
use Rattle.slices.specs.Numeral.{decimal}
use Rattle.slices.proofs.Decimal.{decimal-length}
use Rattle.numerals.proofs.Writing.{length_tenth, length_digit}
use Rattle.numerals.proofs.decimal_length.Goals as goal

pub loop-rest-preserved : goal.loop-rest-preserved
loop-rest-preserved c = omega (arith, length_tenth c.loop-rest.rest c.loop-rest-test.true)

pub returns : goal.returns
returns c =
    let n = c.args.n in
    let counted : c.loop-rest.count ≡ length (decimal n) = omega (arith, length_digit c.loop-rest.rest (omega arith)) in
    record {
      value = counted;
      upper_bound = omega (arith, decimal-length 19 n (omega arith));
    }
