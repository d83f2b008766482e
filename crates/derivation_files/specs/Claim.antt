-- Where the claim of a derivation file stands in its text: the last line, and the fields of a line (REQUIREMENTS, Matching).
-- `proofs/Claim.antt` shows that they are the texts of the claim.
use Rattle.std.specs.Prelude.{ℕ, zero, suc, List, [], ◌∷◌}

-- the last line, empty where there is none
abbrev pub last_line : List (List ℕ) → List ℕ
last_line [] = []
last_line (line ∷ []) = line
last_line (line ∷ next ∷ rest) = last_line (next ∷ rest)

-- the field behind that many others, empty where there is none
abbrev pub field_behind : ℕ → List (List ℕ) → List ℕ
field_behind n [] = []
field_behind zero (field ∷ rest) = field
field_behind (suc n) (field ∷ rest) = field_behind n rest
