-- Bytes cut at each place where a given byte stands: lines at the line feed, fields at the tab (REQUIREMENTS, Derivation files).
use Rattle.std.specs.Prelude.{ℕ, Bool, true, false, List, [], ◌∷◌, eqb}

-- the byte between two fields, and the byte that ends a line
abbrev pub tab : ℕ
tab = 9

abbrev pub line_feed : ℕ
line_feed = 10

-- a byte more in front of the first piece
abbrev pub cons_first : ℕ → List (List ℕ) → List (List ℕ)
cons_first b [] = (b ∷ []) ∷ []
cons_first b (piece ∷ pieces) = (b ∷ piece) ∷ pieces

abbrev pub cut_or : Bool → ℕ → List (List ℕ) → List (List ℕ)
cut_or true b pieces = [] ∷ pieces
cut_or false b pieces = cons_first b pieces

-- the pieces between the places where the mark stands: one more than there are marks
abbrev pub split : ℕ → List ℕ → List (List ℕ)
split mark [] = [] ∷ []
split mark (b ∷ bytes) = cut_or (eqb b mark) b (split mark bytes)

-- the lines of a file: the pieces that a line feed ends
abbrev pub all_but_last : List (List ℕ) → List (List ℕ)
all_but_last [] = []
all_but_last (piece ∷ []) = []
all_but_last (piece ∷ next ∷ pieces) = piece ∷ all_but_last (next ∷ pieces)

abbrev pub lines : List ℕ → List (List ℕ)
lines file = all_but_last (split line_feed file)

abbrev pub fields : List ℕ → List (List ℕ)
fields line = split tab line

-- the last byte, 0 of an empty file
abbrev pub last_byte : List ℕ → ℕ
last_byte [] = 0
last_byte (b ∷ []) = b
last_byte (b ∷ c ∷ bytes) = last_byte (c ∷ bytes)
