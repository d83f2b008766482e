-- Names as numbers (REQUIREMENTS, Books): a name of one to eight small letters has a number of its own, proofs/Keys.antt, so that names are
-- compared as numbers. Assumes nothing.
use Rattle.std.specs.Prelude.{ℕ, ◌+◌, ◌*◌, ◌%◌, Bool, List, [], ◌∷◌, ◌++◌, ltb, length}
use Rattle.slices.specs.Find.{index_of}
use Rattle.books.specs.Line.{Line, name_in}

-- the number whose digits to the base 32 are the letters, the first the lowest; of more than eight letters the first ones count
abbrev pub key_of : List ℕ → ℕ
key_of [] = 0
key_of (b ∷ name) = key_of name % 34359738368 * 32 + b % 32

-- the numbers of the names of lines, in the order in which they stand in the book
abbrev pub keys_of : List Line → List ℕ
keys_of [] = []
keys_of (l ∷ earlier) = keys_of earlier ++ (key_of (name_in l) ∷ [])

abbrev pub is_in : ℕ → List ℕ → Bool
is_in key keys = ltb (index_of key keys) (length keys)
