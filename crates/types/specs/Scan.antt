-- Where the simple type ends that stands at a place of any bytes. The bytes are taken from the first to the last, with a count of the
-- simple types still owed.
-- REQUIREMENTS, Types.
use Rattle.std.specs.Prelude.{ℕ, zero, suc, ◌-◌, List, [], ◌∷◌, length, drop, Some, None}
use Rattle.std.specs.Prelude as std
use Rattle.std.proofs.Math.Option.{Option, none, some}
use Rattle.calculus.specs.Types.{Sign}
use Rattle.types.specs.Signs.{sign_of}

-- how many simple types a sign takes to make one, and none for what begins no simple type
abbrev pub parts_of_sign : Option Sign → std.Option ℕ
parts_of_sign none = None
parts_of_sign (some (Sign.name a)) = Some 0
parts_of_sign (some Sign.arrow) = Some 2
parts_of_sign (some Sign.bind) = None
parts_of_sign (some Sign.empty) = None

unfoldable pub parts_of : ℕ → std.Option ℕ
parts_of b = parts_of_sign (sign_of b)

-- what stands behind a sign, where k simple types are owed behind the one that it begins
abbrev pub behind_sign : Option Sign → ℕ → (ℕ → Option (List ℕ)) → Option (List ℕ)
behind_sign none k onward = none
behind_sign (some (Sign.name a)) k onward = onward k
behind_sign (some Sign.arrow) k onward = onward (suc (suc k))
behind_sign (some Sign.bind) k onward = none
behind_sign (some Sign.empty) k onward = none

-- what stands behind that many simple types, if the bytes begin with them
abbrev pub behind_simple : (owed : ℕ) → List ℕ → Option (List ℕ)
behind_simple zero [] = some []
behind_simple zero (b ∷ bytes) = some (b ∷ bytes)
behind_simple (suc k) [] = none
behind_simple (suc k) (b ∷ bytes) = behind_sign (sign_of b) k (λ n. behind_simple n bytes)

-- the index at which the rest begins, and one past the end where there is none
abbrev pub index_of : List ℕ → Option (List ℕ) → ℕ
index_of bytes none = suc (length bytes)
index_of bytes (some rest) = length bytes - length rest

-- the index behind the simple type that begins at an index, and one past the end where none does
unfoldable pub simple_end : List ℕ → ℕ → ℕ
simple_end bytes at = index_of bytes (behind_simple 1 (drop at bytes))
