-- The line as a state that is fed byte by byte: which field it is in, and the numbers so far (REQUIREMENTS, Programs). `Parts` has the
-- same on the whole input; proofs/Reached.antt ties the two.
use Rattle.std.specs.Prelude.{ℕ, suc, min, Bool, true, false, eqb, Option, Some, None}
use Rattle.calculus.specs.Limits.{area_limit, fuel_limit}
use Rattle.slices.specs.Split.{tab, line_feed}
use Rattle.decimals.specs.declared.Decimal.{Decimal}
use Rattle.decimals.specs.declared.Decimal.TheVariants.{Empty}
use Rattle.decimals.specs.Parsed as decimals
use Rattle.line_states.specs.declared.Line.{Line}
use Rattle.line_states.specs.declared.Line.TheVariants.{InFirst, InSecond, InThird, Ended, Other}

-- no number of a line has a larger limit than fuel has, so numbers from here on are refused alike, and so are lengths
abbrev pub number_cap : ℕ
number_cap = suc fuel_limit

abbrev pub length_cap : ℕ
length_cap = suc area_limit

-- what one byte does in the first field: a tab ends it, and it has to hold a number
abbrev pub first_read : Option ℕ → Line
first_read (Some first) = InSecond first Empty
first_read None = Other

abbrev pub in_first_if : (ends : Bool) → Decimal → ℕ → Line
in_first_if true number b = first_read (decimals.parsed_of number)
in_first_if false number b = InFirst (decimals.fed number_cap number b)

abbrev pub in_first : Decimal → ℕ → Line
in_first number b = in_first_if (eqb b tab) number b

-- in the second field: likewise
abbrev pub second_read : (first : ℕ) → Option ℕ → Line
second_read first (Some second) = InThird first second Empty 0
second_read first None = Other

abbrev pub in_second_if : (ends : Bool) → (first : ℕ) → Decimal → ℕ → Line
in_second_if true first number b = second_read first (decimals.parsed_of number)
in_second_if false first number b = InSecond first (decimals.fed number_cap number b)

abbrev pub in_second : (first : ℕ) → Decimal → ℕ → Line
in_second first number b = in_second_if (eqb b tab) first number b

-- in the third field: a line feed ends it, and whether it holds a number is left open
abbrev pub counted : ℕ → ℕ
counted length = min (suc length) length_cap

abbrev pub in_third_if : (ends tabbed : Bool) → (first second : ℕ) → Decimal → (length b : ℕ) → Line
in_third_if true tabbed first second number length b = Ended first second number length
in_third_if false true first second number length b = Other
in_third_if false false first second number length b = InThird first second (decimals.fed number_cap number b) (counted length)

abbrev pub in_third : (first second : ℕ) → Decimal → (length b : ℕ) → Line
in_third first second number length b = in_third_if (eqb b line_feed) (eqb b tab) first second number length b

abbrev pub fed_line : Line → ℕ → Line
fed_line (InFirst number) b = in_first number b
fed_line (InSecond first number) b = in_second first number b
fed_line (InThird first second number length) b = in_third first second number length b
fed_line (Ended first second third length) b = Other
fed_line Other b = Other

-- before the first byte
abbrev pub start_line : Line
start_line = InFirst Empty
