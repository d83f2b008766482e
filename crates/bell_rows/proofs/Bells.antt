-- The bells of a chain by their places in its text, and a row put into its places: these carry the loop of `row_of`. Assumes nothing.
use Prim.Native.Nat.{ℕ, zero, suc, ◌+◌, ◌*◌, ◌-◌, ◌/◌, ◌≤◌, ◌<◌, min}
use native.Mathlib.Nat.{suc-mul, mul-le-mul_right, mul_left_comm}
use native.Mathlib.Omega.{arith}
use mathlib.Core.Path.{◌≡◌, refl, sym, ◌∙◌, ap}
use mathlib.Core.List.Memᴰ
use mathlib.Core.List.{List, [], ◌∷◌, Memᴰ}
use lib.ListN.{length, get_or, set, take, drop, replicate, length-take, length-drop}
use lib.Seq.{paste, take_all, take-nil, drop-nil, get_or-take, length-take-le, take_at}
use Rattle.slices.specs.Part.{part}
use Rattle.slices.proofs.Put.{paste-turn}
use Rattle.bell_rows.specs.Row.{most, placed}
use Rattle.bell_rows.specs.Bytes.{bell_number, bells_in}
use Rattle.bell_rows.proofs.Numbers.{number_small}

-- a bell for every two bytes
pub bells_half : (s : List ℕ) → length (bells_in s) ≡ length s / 2
bells_half [] = refl
bells_half (b ∷ []) = refl
bells_half (b ∷ c ∷ s) = let rest = bells_half s in omega arith

-- bell j has the second byte of link j
pub bell-at : (s : List ℕ) (j : ℕ) → 2 * j + 1 < length s → get_or (bells_in s) j 0 ≡ bell_number (get_or s (2 * j + 1) 0)
bell-at [] j h = absurd (omega arith)
bell-at (b ∷ []) j h = absurd (omega arith)
bell-at (b ∷ c ∷ s) zero h = refl
bell-at (b ∷ c ∷ s) (suc j) h =
    let next : suc (suc (2 * j + 1)) ≡ 2 * suc j + 1 = omega arith in
    bell-at s j (omega arith) ∙ ap (λ (i : ℕ). bell_number (get_or (b ∷ c ∷ s) i 0)) next

-- no bell's number is above twelve
pub bells-small : (s : List ℕ) (b : ℕ) → Memᴰ b (bells_in s) → b ≤ 12
bells-small [] b m = absurd (Memᴰ.not-nil m)
bells-small (c ∷ []) b m = absurd (Memᴰ.not-nil m)
bells-small (c ∷ d ∷ s) b (Memᴰ.head e) = let small = number_small d in omega arith
bells-small (c ∷ d ∷ s) b (Memᴰ.tail m) = bells-small s b m

-- ---- a row put into its places one by one

abbrev pub empty : List ℕ
empty = replicate most 0

module _ (s : List ℕ) where
  -- the bells of the row
  abbrev row_of : List ℕ
  row_of = take most (bells_in s)

  -- as many as there are, up to twelve
  row-length : length row_of ≡ min most (length s / 2)
  row-length = length-take most (bells_in s) ∙ ap (min most) (bells_half s)

  -- one more
  pub one_placed :
      (i v : ℕ) (row : List ℕ) → i < most → i < length s / 2 → v ≡ bell_number (get_or s (2 * i + 1) 0) → row ≡ paste empty 0 row_of i →
      set row i v ≡ paste empty 0 row_of (i + 1)
  one_placed i v row h more e r =
      let sized = row-length in
      let value : v ≡ get_or row_of i 0 = e ∙ sym (bell-at s i (omega arith)) ∙ sym (get_or-take most (bells_in s) i 0 h) in
      paste-turn empty 0 row_of i i v row (omega arith) (omega arith) (omega arith) value r

-- ---- rows of a chain

-- bells of a part of the text
bells-drop : (m : ℕ) (s : List ℕ) → bells_in (drop (2 * m) s) ≡ drop m (bells_in s)
bells-drop zero s = refl
bells-drop (suc m) [] = ap bells_in (drop-nil (2 * suc m))
bells-drop (suc m) (b ∷ []) =
    let two : 2 * suc m ≡ suc (suc (2 * m)) = omega arith in
    ap (λ (k : ℕ). bells_in (drop k (b ∷ []))) two ∙ ap bells_in (drop-nil (suc (2 * m)))
bells-drop (suc m) (b ∷ c ∷ s) =
    let two : 2 * suc m ≡ suc (suc (2 * m)) = omega arith in
    ap (λ (k : ℕ). bells_in (drop k (b ∷ c ∷ s))) two ∙ bells-drop m s

bells-take : (n : ℕ) (s : List ℕ) → bells_in (take (2 * n) s) ≡ take n (bells_in s)
bells-take zero s = refl
bells-take (suc n) [] = ap bells_in (take-nil (2 * suc n))
bells-take (suc n) (b ∷ []) =
    let two : 2 * suc n ≡ suc (suc (2 * n)) = omega arith in
    ap (λ (k : ℕ). bells_in (take k (b ∷ []))) two
bells-take (suc n) (b ∷ c ∷ s) =
    let two : 2 * suc n ≡ suc (suc (2 * n)) = omega arith in
    ap (λ (k : ℕ). bells_in (take k (b ∷ c ∷ s))) two ∙ ap (λ (l : List ℕ). bell_number c ∷ l) (bells-take n s)

module _ (s : List ℕ) (n count i : ℕ) (few : n ≤ most) (whole : length (bells_in s) ≡ count * n) (h : i < count) where
  -- the bells of a row are in the chain where all rows are
  there : i * n + n ≤ length (bells_in s)
  there =
      let rows : suc i * n ≤ count * n = mul-le-mul_right n h in
      let one = suc-mul i n in
      omega arith

  -- and its links end in the text
  pub row-there : i * (2 * n) + 2 * n ≤ length s
  row-there =
      let twice : i * (2 * n) ≡ 2 * (i * n) = mul_left_comm i 2 n in
      omega (arith, bells_half s, there)

  pub row-full : length (take n (drop (i * n) (bells_in s))) ≡ n
  row-full =
      let left = length-drop (i * n) (bells_in s) in
      length-take-le n (drop (i * n) (bells_in s)) (omega (arith, there))

  -- the row that its links make
  pub row-linked :
      (links places : List ℕ) → links ≡ part (i * (2 * n)) (i * (2 * n) + 2 * n) s → places ≡ placed (take most (bells_in links)) →
      places ≡ placed (take n (drop (i * n) (bells_in s)))
  row-linked links places e q =
      let twice : i * (2 * n) ≡ 2 * (i * n) = mul_left_comm i 2 n in
      let wide : i * (2 * n) + 2 * n - i * (2 * n) ≡ 2 * n = omega arith in
      let bells : bells_in links ≡ take n (drop (i * n) (bells_in s)) =
      ap bells_in
      (e
      ∙ ap (λ (k : ℕ). take k (drop (i * (2 * n)) s)) wide
      ∙ ap (λ (k : ℕ). take (2 * n) (drop k s)) twice)
      ∙ bells-take n (drop (2 * (i * n)) s)
      ∙ ap (take n) (bells-drop (i * n) s) in
      q
      ∙ ap (λ (l : List ℕ). placed (take most l)) bells
      ∙ ap placed (take_all most (take n (drop (i * n) (bells_in s))) (omega (arith, row-full)))

-- a row is what stands in its first places
pub take-placed : (n : ℕ) (row : List ℕ) → length row ≡ n → take n (placed row) ≡ row
take-placed n row e = take_at row (replicate (most - length row) 0) n e
