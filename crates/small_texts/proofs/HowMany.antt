-- How many texts there are: the length of the list, none where the letters are too few, and the table of the code. Carried by
-- the sum over the first letter. Assumes nothing.
use Prim.Native.Nat.{ℕ, zero, suc, ◌+◌, ◌≤◌, ◌<◌}
use native.Mathlib.Decide.{dec_le}
use native.Mathlib.Omega.{arith}
use mathlib.Core.Path.{◌≡◌, refl, sym, ◌∙◌, ap, ap₂}
use mathlib.Core.List.{List, [], ◌∷◌, ◌++◌, map}
use lib.ListN.{length, get_or, length-append, length-map, get_or-append}
use lib.Seq.{get_or-append_seam}
use Rattle.std.proofs.lemmas.List.{get_or_past}
use Rattle.calculus.specs.Letter.{Letter, byte, owed}
use Rattle.reading.proofs.Scan.{owed_sum}
use Rattle.small_texts.specs.Texts.{letters, led, texts, ways}

-- ---- the length of the list

-- a number for each letter, in all
abbrev pub summed : List Letter → (Letter → ℕ) → ℕ
summed [] f = 0
summed (l ∷ ls) f = f l + summed ls f

-- the ways in all, letter by letter
pub ways-summed : (k n : ℕ) → ways (suc k) (suc n) ≡ summed letters (λ l. ways (owed l k) n)
ways-summed k n = omega arith

summed_same : (ls : List Letter) (f g : Letter → ℕ) → ((l : Letter) → f l ≡ g l) → summed ls f ≡ summed ls g
summed_same [] f g h = refl
summed_same (l ∷ ls) f g h = ap₂ ◌+◌ (h l) (summed_same ls f g h)

length-led : (ls : List Letter) (f : Letter → List (List ℕ)) → length (led ls f) ≡ summed ls (λ l. length (f l))
length-led [] f = refl
length-led (l ∷ ls) f =
    length-append (map (λ (s : List ℕ). byte l ∷ s) (f l)) (led ls f)
    ∙ ap₂ ◌+◌ (length-map (f l) (λ (s : List ℕ). byte l ∷ s)) (length-led ls f)

-- there are as many texts as ways
pub length-texts : (n k : ℕ) → length (texts k n) ≡ ways k n
length-texts zero zero = refl
length-texts zero (suc k) = refl
length-texts (suc n) zero = refl
length-texts (suc n) (suc k) =
    length-led letters (λ (l : Letter). texts (owed l k) n)
    ∙ summed_same letters (λ (l : Letter). length (texts (owed l k) n)) (λ (l : Letter). ways (owed l k) n) (λ l. length-texts n (owed l k))
    ∙ sym (ways-summed k n)

-- ---- none

summed-none : (ls : List Letter) (f : Letter → ℕ) → ((l : Letter) → f l ≡ 0) → summed ls f ≡ 0
summed-none [] f h = refl
summed-none (l ∷ ls) f h = ap₂ ◌+◌ (h l) (summed-none ls f h)

-- where the terms are more than the letters, there is no way
pub ways-none : (n k : ℕ) → n < k → ways k n ≡ 0
ways-none zero zero h = absurd (omega arith)
ways-none zero (suc k) h = refl
ways-none (suc n) zero h = absurd (omega arith)
ways-none (suc n) (suc k) h =
    ways-summed k n
    ∙ summed-none letters (λ (l : Letter). ways (owed l k) n) (λ l. ways-none n (owed l k) (omega (arith, owed_sum l k)))

-- ---- the table

-- the first j numbers of row n
abbrev row : (n j : ℕ) → List ℕ
row n zero = []
row n (suc j) = row n j ++ (ways j n ∷ [])

-- the first m rows of eight
abbrev pub table : ℕ → List (List ℕ)
table zero = []
table (suc m) = table m ++ (row m 8 ∷ [])

-- the last of a list, and those before it
module _ {A : Type 0} (f : ℕ → A) (d : A) where
  at-end : (xs : List A) (m n : ℕ) → length xs ≡ m → n ≡ m → get_or (xs ++ (f m ∷ [])) n d ≡ f n
  at-end xs m n long e =
      ap (λ (i : ℕ). get_or (xs ++ (f m ∷ [])) i d) (e ∙ sym long) ∙ get_or-append_seam xs (f m) [] d ∙ ap f (sym e)

  before-end : (xs : List A) (m n : ℕ) → length xs ≡ m → n < m → get_or xs n d ≡ f n → get_or (xs ++ (f m ∷ [])) n d ≡ f n
  before-end xs m n long h e = get_or-append xs (f m ∷ []) d n (omega arith) ∙ e

length-row : (n j : ℕ) → length (row n j) ≡ j
length-row n zero = refl
length-row n (suc j) = length-append (row n j) (ways j n ∷ []) ∙ omega (arith, length-row n j)

length-table : (m : ℕ) → length (table m) ≡ m
length-table zero = refl
length-table (suc m) = length-append (table m) (row m 8 ∷ []) ∙ omega (arith, length-table m)

row_at : (n j k : ℕ) → k < j → get_or (row n j) k 0 ≡ ways k n
row_at n zero k h = absurd (omega arith)
row_at n (suc j) k h = go (dec_le j k) (λ before. row_at n j k before)
  where
    go : Dec (j ≤ k) → (k < j → get_or (row n j) k 0 ≡ ways k n) → get_or (row n j ++ (ways j n ∷ [])) k 0 ≡ ways k n
    go (yes last) below = at-end (λ (i : ℕ). ways i n) 0 (row n j) j k (length-row n j) (omega arith)
    go (no earlier) below = before-end (λ (i : ℕ). ways i n) 0 (row n j) j k (length-row n j) (omega arith) (below (omega arith))

table-row : (m n : ℕ) → n < m → get_or (table m) n [] ≡ row n 8
table-row zero n h = absurd (omega arith)
table-row (suc m) n h = go (dec_le m n) (λ before. table-row m n before)
  where
    go : Dec (m ≤ n) → (n < m → get_or (table m) n [] ≡ row n 8) → get_or (table m ++ (row m 8 ∷ [])) n [] ≡ row n 8
    go (yes last) below = at-end (λ (i : ℕ). row i 8) [] (table m) m n (length-table m) (omega arith)
    go (no earlier) below = before-end (λ (i : ℕ). row i 8) [] (table m) m n (length-table m) (omega arith) (below (omega arith))

-- each number stands in its place
pub table_at : (m n k : ℕ) → n < m → k < 8 → get_or (get_or (table m) n []) k 0 ≡ ways k n
table_at m n k h few = ap (λ (numbers : List ℕ). get_or numbers k 0) (table-row m n h) ∙ row_at n 8 k few

-- and beside them there is no way
pub any-row : (n k : ℕ) → n < 8 → get_or (get_or (table 8) n []) k 0 ≡ ways k n
any-row n k h = go (dec_le 8 k)
  where
    go : Dec (8 ≤ k) → get_or (get_or (table 8) n []) k 0 ≡ ways k n
    go (yes many) =
        ap (λ (numbers : List ℕ). get_or numbers k 0) (table-row 8 n h)
        ∙ get_or_past (row n 8) k 0 (omega (arith, length-row n 8))
        ∙ sym (ways-none n k (omega arith))
    go (no few) = table_at 8 n k h (omega arith)
