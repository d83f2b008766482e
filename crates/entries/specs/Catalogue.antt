-- Catalogues of results, and the numbers of the results (REQUIREMENTS, Catalogue). A catalogue is written as a list with the last result
-- in front: a result's number is how many there were when it had been entered, and later ones do not change it.
use Rattle.std.specs.Prelude.{ℕ, suc, ◌+◌, ◌<◌, ◌≤◌, Bool, true, cond, not, ◌&&◌, ltb, leb, eqb, length}
use mathlib.Core.List.{List, [], ◌∷◌, Memᴰ}
use Rattle.calculus.specs.Term.{Term, text, size, Normal}
use Rattle.slices.specs.Same.{same}
use Rattle.reading.specs.Stop.{has_stop}

-- ---- limits

-- the most results
abbrev pub entry_limit : ℕ
entry_limit = 256

-- the most letters of all results together
abbrev pub letter_limit : ℕ
letter_limit = 65536

-- ---- relations

-- how many letters the results have together
abbrev pub letters : List Term → ℕ
letters [] = 0
letters (t ∷ earlier) = letters earlier + size t

-- there is room for one result more
pub record Room (t : Term) (results : List Term) : Type 0 where
  pub entry : length results < entry_limit
  pub letters_fit : letters results + size t ≤ letter_limit

-- the lists that entries make of none: each result is normal, was not there before it, and had room
pub data Catalogue : List Term → Type 0 where
  empty : Catalogue []
  entered :
      {t : Term} {earlier : List Term} →
      Normal t → (Memᴰ t earlier → ⊥) → Room t earlier → Catalogue earlier → Catalogue (t ∷ earlier)

-- `Numbered t n results`: t is the result with the number n
pub data Numbered (t : Term) : ℕ → List Term → Type 0 where
  last : {earlier : List Term} → Numbered t (suc (length earlier)) (t ∷ earlier)
  before : {n : ℕ} {u : Term} {earlier : List Term} → Numbered t n earlier → Numbered t n (u ∷ earlier)

-- ---- functions

-- the number of a term, 0 of one that is not there; all the bytes of two results decide whether they are the same
abbrev pub number_of : Term → List Term → ℕ
number_of t [] = 0
number_of t (u ∷ earlier) = cond (same (text u) (text t)) (suc (length earlier)) (number_of t earlier)

abbrev pub has_room : Term → List Term → Bool
has_room t results = ltb (length results) entry_limit && leb (letters results + size t) letter_limit

-- whether a term may be entered as a new result
abbrev pub is_new : Term → List Term → Bool
is_new t results = not (has_stop (text t)) && eqb (number_of t results) 0 && has_room t results

abbrev pub is_catalogue : List Term → Bool
is_catalogue [] = true
is_catalogue (t ∷ earlier) = is_new t earlier && is_catalogue earlier
