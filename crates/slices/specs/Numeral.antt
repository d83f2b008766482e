-- Decimal numbers as texts: digits with no leading zero (REQUIREMENTS, Programs; from 1 upwards, Derivation files).
use Rattle.std.specs.Prelude.{ℕ, zero, suc, ◌+◌, ◌*◌, ◌-◌, ◌/◌, ◌%◌, Bool, true, false, ◌&&◌, List, [], ◌∷◌, ◌++◌, leb, ltb, eqb}
use Rattle.std.proofs.Math.Option.{Option, none, some}

-- the bytes of the digits `0` and `9`
abbrev pub digit0 : ℕ
digit0 = 48

abbrev pub digit9 : ℕ
digit9 = 57

abbrev pub is_digit : ℕ → Bool
is_digit b = leb digit0 b && leb b digit9

abbrev pub all_digits : List ℕ → Bool
all_digits [] = true
all_digits (b ∷ bytes) = is_digit b && all_digits bytes

-- the number that digits go on to make, where those before them made n
abbrev pub value_from : ℕ → List ℕ → ℕ
value_from n [] = n
value_from n (b ∷ bytes) = value_from (n * 10 + (b - digit0)) bytes

abbrev pub some_if : Bool → ℕ → Option ℕ
some_if true n = some n
some_if false n = none

-- the number written, from 1 upwards: digits, the first of them no `0`
unfoldable pub number_of : List ℕ → Option ℕ
number_of [] = none
number_of (b ∷ bytes) = some_if (all_digits (b ∷ bytes) && ltb digit0 b) (value_from 0 (b ∷ bytes))

-- how a number from 1 upwards is written: its digits, in at most that many places
abbrev pub digits : (places : ℕ) → ℕ → List ℕ
digits zero n = []
digits (suc places) zero = []
digits (suc places) (suc n) = digits places (suc n / 10) ++ ((digit0 + suc n % 10) ∷ [])

-- a number has at most as many digits as itself
unfoldable pub numeral : ℕ → List ℕ
numeral n = digits n n

-- as many digits as a number has, with `0` for zero
unfoldable pub decimal : ℕ → List ℕ
unfolding numeral
decimal zero = digit0 ∷ []
decimal (suc n) = numeral (suc n)

abbrev pub zero_or : Bool → Option ℕ → Option ℕ
zero_or true other = some 0
zero_or false other = other

abbrev pub is_zero : List ℕ → Bool
is_zero [] = false
is_zero (b ∷ []) = eqb b digit0
is_zero (b ∷ c ∷ bytes) = false

-- the number written, from 0 upwards
unfoldable pub decimal_of : List ℕ → Option ℕ
decimal_of bytes = zero_or (is_zero bytes) (number_of bytes)
