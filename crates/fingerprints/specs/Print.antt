-- The fingerprint of bytes (REQUIREMENTS, Catalogue): 32 bits that tell most results apart at a glance. Assumes nothing.
use Rattle.std.specs.Prelude.{ℕ, ◌+◌, ◌*◌, ◌%◌, List, [], ◌∷◌}
use Rattle.words.specs.Word.{word_limit}

-- what one byte more makes of it: 31 times what it was, and the byte, less what 32 bits do not hold
abbrev pub with_byte : (value b : ℕ) → ℕ
with_byte value b = (31 * value + b) % word_limit

abbrev pub print_from : (value : ℕ) → List ℕ → ℕ
print_from value [] = value
print_from value (b ∷ bytes) = print_from (with_byte value b) bytes

-- from 0 on
unfoldable pub print_of : List ℕ → ℕ
print_of bytes = print_from 0 bytes
