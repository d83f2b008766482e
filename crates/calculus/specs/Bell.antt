-- The bells (REQUIREMENTS, Bells): a table of their letters in the order of their numbers. A bell is a row of the table, so that one bell more is one
-- letter more there; no other definition says how many there are.
use Rattle.std.specs.Prelude.{ℕ, suc, Bool, false, ◌||◌, List, [], ◌∷◌, map, eqb}
use Rattle.calculus.specs.Ascii.{ascii}

-- a row of a table of bytes: its first, or one of the later ones
pub data Row : List ℕ → Type 0 where
  first : {b : ℕ} {bs : List ℕ} → Row (b ∷ bs)
  later : {b : ℕ} {bs : List ℕ} → Row bs → Row (b ∷ bs)

-- the byte that stands in a row
abbrev pub byte_in : {bs : List ℕ} → Row bs → ℕ
byte_in (Row.first {b = b}) = b
byte_in (Row.later r) = byte_in r

-- the number of a row, counted from 1
abbrev pub number_in : {bs : List ℕ} → Row bs → ℕ
number_in Row.first = 1
number_in (Row.later r) = suc (number_in r)

-- all rows of a table
abbrev pub rows : (bs : List ℕ) → List (Row bs)
rows [] = []
rows (b ∷ bs) = Row.first ∷ map Row.later (rows bs)

-- the letters of bell one, bell two and so on
abbrev pub bell_letters : List ℕ
bell_letters = ascii "1234567890ET"

abbrev pub Bell : Type 0
Bell = Row bell_letters

-- whether a byte stands in a table
abbrev pub stands : ℕ → List ℕ → Bool
stands b [] = false
stands b (c ∷ cs) = eqb b c || stands b cs

-- whether a byte is the letter of a bell
unfoldable pub is_bell : ℕ → Bool
is_bell b = stands b bell_letters
