-- A number as four bytes, low byte first (REQUIREMENTS, Counts).
use Rattle.std.specs.Prelude.{ℕ, zero, suc, ◌+◌, ◌*◌, ◌/◌, ◌%◌, cond, List, [], ◌∷◌, ◌++◌, leb, length, drop, get_or}

-- 2 to the 32
abbrev pub word_limit : ℕ
word_limit = 4294967296

-- the bytes of a number below that
abbrev pub word_of : ℕ → List ℕ
word_of n = n % 256 ∷ n / 256 % 256 ∷ n / 65536 % 256 ∷ n / 16777216 % 256 ∷ []

-- the bytes of several, one behind the other
abbrev pub words_of : List ℕ → List ℕ
words_of [] = []
words_of (n ∷ numbers) = word_of n ++ words_of numbers

-- the number whose bytes stand at the start
abbrev pub word_in : List ℕ → ℕ
word_in bytes = get_or bytes 0 0 + get_or bytes 1 0 * 256 + get_or bytes 2 0 * 65536 + get_or bytes 3 0 * 16777216

-- the number whose bytes stand from index `at` on; 0 where they are not all there
unfoldable pub word_at : (at : ℕ) → List ℕ → ℕ
word_at at bytes = cond (leb (at + 4) (length bytes)) (word_in (drop at bytes)) 0

-- the first so many numbers
abbrev pub words_in : (count : ℕ) → List ℕ → List ℕ
words_in zero bytes = []
words_in (suc count) bytes = word_in bytes ∷ words_in count (drop 4 bytes)
