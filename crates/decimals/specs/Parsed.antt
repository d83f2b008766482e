-- Decimal numbers fed a byte at a time: the state behind some bytes, and the number that they are, with numbers above a cap kept as the
-- cap. `proofs/Parsing.antt` shows that this is `decimal_of` of the bytes.
-- REQUIREMENTS, Programs; REQUIREMENTS, Derivation files.
use Rattle.std.specs.Prelude.{ℕ, ◌+◌, ◌*◌, ◌-◌, min, Bool, true, false, List, [], ◌∷◌, eqb, Option, Some, None}
use Rattle.std.proofs.Math.Option.{Option as Maybe, none, some}
use Rattle.slices.specs.Numeral.{digit0, is_digit}
use Rattle.decimals.specs.declared.Decimal.{Decimal}
use Rattle.decimals.specs.declared.Decimal.TheVariants.{Empty, Zero, Digits, Other}

-- a number with one digit more behind it
abbrev pub more : (cap n digit : ℕ) → ℕ
more cap n digit = min (n * 10 + digit) cap

-- a byte behind digits that make n
abbrev pub further_if : (digit : Bool) → (cap n b : ℕ) → Decimal
further_if true cap n b = Digits (more cap n (b - digit0))
further_if false cap n b = Other

abbrev pub further : (cap n b : ℕ) → Decimal
further cap n b = further_if (is_digit b) cap n b

-- the first byte
abbrev pub first_if : (zero : Bool) → (cap b : ℕ) → Decimal
first_if true cap b = Zero
first_if false cap b = further cap 0 b

abbrev pub first : (cap b : ℕ) → Decimal
first cap b = first_if (eqb b digit0) cap b

-- one byte more
abbrev pub fed : (cap : ℕ) → Decimal → ℕ → Decimal
fed cap Empty b = first cap b
fed cap Zero b = Other
fed cap (Digits n) b = further cap n b
fed cap Other b = Other

-- all of some bytes, one after the other
abbrev pub fed_all : (cap : ℕ) → Decimal → List ℕ → Decimal
fed_all cap d [] = d
fed_all cap d (b ∷ bytes) = fed_all cap (fed cap d b) bytes

-- the state behind some bytes
abbrev pub state_of : (cap : ℕ) → List ℕ → Decimal
state_of cap bytes = fed_all cap Empty bytes

-- the number that the bytes so far are
abbrev pub parsed_of : Decimal → Option ℕ
parsed_of Empty = None
parsed_of Zero = Some 0
parsed_of (Digits n) = Some n
parsed_of Other = None

-- a number cut to the cap
abbrev pub up_to : (cap : ℕ) → Maybe ℕ → Option ℕ
up_to cap none = None
up_to cap (some n) = Some (min n cap)
