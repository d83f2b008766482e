-- The fingerprint has 32 bits.
-- Assumes nothing.
use Rattle.std.proofs.Common.{ℕ, ◌+◌, ◌*◌, ◌<◌, List, [], ◌∷◌, mod-lt, arith}
use Rattle.words.specs.Word.{word_limit}
use Rattle.fingerprints.specs.Print.{with_byte, print_from, print_of}

-- 32 bits hold it
pub print-small : (s : List ℕ) → print_of s < word_limit
unfolding print_of
print-small s = go 0 s (omega arith)
  where
    go : (value : ℕ) (s : List ℕ) → value < word_limit → print_from value s < word_limit
    go value [] h = h
    go value (b ∷ s) h = go (with_byte value b) s (mod-lt (31 * value + b) (omega arith))
