-- Where a part ends: behind the terms that its first letter takes (REQUIREMENTS, Stepping). Assumes nothing.
use Rattle.std.specs.Prelude.{ℕ, zero, suc, ◌+◌, List, [], ◌∷◌, drop}
use Rattle.std.proofs.Math.Option.{Option, none, some}
use Rattle.calculus.specs.Letter.{Letter, letter_of, owed}

-- how many terms are owed behind a byte, where k are owed behind the term that it begins; a byte that is no letter takes none
abbrev pub owed_behind : Option Letter → ℕ → ℕ
owed_behind none k = k
owed_behind (some l) k = owed l k

-- the number of bytes that the first k terms of a list take, or all where it is too short
abbrev pub skip : (terms : ℕ) → List ℕ → ℕ
skip k [] = zero
skip zero (b ∷ s) = zero
skip (suc k) (b ∷ s) = suc (skip (owed_behind (letter_of b) k) s)

-- the index behind the part that begins at an index
abbrev pub end_at : List ℕ → ℕ → ℕ
end_at s at = at + skip 1 (drop at s)
