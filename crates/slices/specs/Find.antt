-- The index of the first place where a byte stands, the length where it stands nowhere. Assumes nothing.
use Rattle.std.specs.Prelude.{ℕ, zero, suc, Bool, true, false, List, [], ◌∷◌, eqb}

-- the first place, where the byte in front is the one looked for or not
abbrev pub index_from : Bool → (later : ℕ) → ℕ
index_from true later = zero
index_from false later = suc later

abbrev pub index_of : (b : ℕ) → List ℕ → ℕ
index_of b [] = zero
index_of b (c ∷ s) = index_from (eqb c b) (index_of b s)
