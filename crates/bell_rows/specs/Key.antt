-- A row as one number, its places as digits: rows are the same exactly where their numbers are, since no bell's number is as large as the
-- base (proofs/Keys.antt).
use Rattle.std.specs.Prelude.{ℕ, ◌+◌, ◌*◌, List, [], ◌∷◌}

abbrev pub base : ℕ
base = 16

-- the number that places go on to make, where those before them made n
abbrev pub key_from : ℕ → List ℕ → ℕ
key_from n [] = n
key_from n (b ∷ places) = key_from (n * base + b) places

unfoldable pub key_of : List ℕ → ℕ
key_of places = key_from 0 places
