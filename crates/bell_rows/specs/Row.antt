-- Rows of bells (REQUIREMENTS, Rows): what a row is, bells cut into rows, and a row's places in the table. Relations, and functions that
-- proofs/ shows to be the same.
use Rattle.std.specs.Prelude.{ℕ, zero, suc, ◌+◌, ◌-◌, ◌≡◌, Bool, true, ◌&&◌, cond, List, [], ◌∷◌, ◌++◌, eqb, length, take, drop, replicate}
use Rattle.calculus.specs.Bell.{stands}

-- how few bells a row may have, and how many: as many as there are
abbrev pub fewest : ℕ
fewest = 2

abbrev pub most : ℕ
most = 12

-- ---- what a row is

-- the numbers from n down to 1
abbrev pub down_to_one : ℕ → List ℕ
down_to_one zero = []
down_to_one (suc n) = suc n ∷ down_to_one n

-- how often a number stands in a list
abbrev pub times : ℕ → List ℕ → ℕ
times k [] = 0
times k (b ∷ bells) = cond (eqb b k) 1 0 + times k bells

-- `RowOf n bells`: the bells are a permutation of the numbers from 1 to n, which is that each number stands as often in one as in the other
abbrev pub RowOf : (n : ℕ) (bells : List ℕ) → Type 0
RowOf n bells = (k : ℕ) → times k bells ≡ times k (down_to_one n)

-- a test holds of all
abbrev pub every : (ℕ → Bool) → List ℕ → Bool
every test [] = true
every test (b ∷ bells) = test b && every test bells

-- whether the bells hold each number from 1 to n once, and no other
unfoldable pub is_row : (n : ℕ) (bells : List ℕ) → Bool
is_row n bells = every (λ k. eqb (times k bells) 1) (down_to_one n) && every (λ b. stands b (down_to_one n)) bells

-- ---- bells cut into rows

-- `Cut n bells rows`: the rows have n bells each, and one behind the other they are the bells
pub data Cut (n : ℕ) : List ℕ → List (List ℕ) → Type 0 where
  no_more : Cut n [] []
  one_more : (row : List ℕ) {bells : List ℕ} {rows : List (List ℕ)} → length row ≡ n → Cut n bells rows → Cut n (row ++ bells) (row ∷ rows)

-- so many rows, each of the next n bells
abbrev pub cut_into : (count n : ℕ) → List ℕ → List (List ℕ)
cut_into zero n bells = []
cut_into (suc count) n bells = take n bells ∷ cut_into count n (drop n bells)

-- ---- the table

-- a row in its twelve places: zeros in those that it does not use
abbrev pub placed : (row : List ℕ) → List ℕ
placed row = row ++ replicate (most - length row) 0

-- rows laid end to end
abbrev pub laid_out : List (List ℕ) → List ℕ
laid_out [] = []
laid_out (row ∷ rows) = placed row ++ laid_out rows
