-- A row's number: how the loop of `key` makes it and that it never overflows, and that it tells rows apart. Assumes nothing.
use Prim.Native.Nat.{ℕ, zero, suc, ◌+◌, ◌*◌, ◌-◌, ◌≤◌, ◌<◌}
use native.Mathlib.Numerals.{add-one}
use native.Mathlib.Omega.{arith}
use mathlib.Core.Path.{◌≡◌, refl, sym, ◌∙◌, ap, ap₂}
use mathlib.Core.Logic.{⊎_elim}
use mathlib.Core.List.{List, [], ◌∷◌, ◌++◌, append_cancel_right}
use mathlib.Core.List.{Memᴰ}
use borrow.Author.Tests.{leb-true, eqb-true, eq-eqb}
use lib.Dec.{eqb}
use lib.ListN.{length, get_or, take, replicate, length-append, length-replicate}
use lib.Seq.{take-suc, take_all}
use Rattle.slices.specs.Same.{same}
use Rattle.slices.proofs.Same.{same_unique}
use Rattle.bell_rows.specs.Row.{most, placed}
use Rattle.bell_rows.specs.Key.{base, key_from, key_of}

-- ---- the loop of `key`

-- one place more
key_snoc : (n : ℕ) (places : List ℕ) (b : ℕ) → key_from n (places ++ (b ∷ [])) ≡ key_from n places * base + b
key_snoc n [] b = refl
key_snoc n (c ∷ places) b = key_snoc (n * base + c) places b

pub key-turn :
    (row : List ℕ) (i key : ℕ) → i < length row → key ≡ key_from 0 (take i row) → key * base + get_or row i 0 ≡ key_from 0 (take (i + 1) row)
key-turn row i key h e =
    ap (λ (k : ℕ). k * base + get_or row i 0) e
    ∙ sym (key_snoc 0 (take i row) (get_or row i 0))
    ∙ ap (key_from 0) (sym (take-suc row i 0 h))
    ∙ ap (λ (n : ℕ). key_from 0 (take n row)) (sym (add-one i))

-- the largest number that so many bytes make
abbrev pub cap : ℕ → ℕ
cap zero = 0
cap (suc i) = cap i * base + 255

cap_mono : (i j : ℕ) → i ≤ j → cap i ≤ cap j
cap_mono zero j h = omega arith
cap_mono (suc i) zero h = absurd (omega arith)
cap_mono (suc i) (suc j) h = let less = cap_mono i j (omega arith) in omega arith

-- eleven bytes make less than 2 to the 49
abbrev pub largest : ℕ
largest = 562949953421312

pub key-small : (i key : ℕ) → i < most → key ≤ cap i → key ≤ largest
key-small i key h e = let less = cap_mono i 11 (omega arith) in let small = leb-true (cap 11) largest refl in omega arith

pub cap-next : (i key b : ℕ) → key ≤ cap i → b < 256 → key * base + b ≤ cap (i + 1)
cap-next i key b e h = let next : cap (i + 1) ≡ cap (suc i) = ap cap (add-one i) in omega arith

-- all twelve places
pub key-whole : (row : List ℕ) (i : ℕ) → length row ≡ most → most ≤ i → key_from 0 (take i row) ≡ key_of row
unfolding key_of
key-whole row i sized h = ap (key_from 0) (take_all i row (omega arith))

-- ---- rows told apart

-- places below the base are the digits of their number
digits_apart :
    (n m : ℕ) (x y : List ℕ) → length x ≡ length y →
    ((b : ℕ) → Memᴰ b x → b < base) → ((b : ℕ) → Memᴰ b y → b < base) → key_from n x ≡ key_from m y → (n ≡ m) × (x ≡ y)
digits_apart n m [] [] l p q e = (e, refl)
digits_apart n m [] (c ∷ y) l p q e = absurd (omega arith)
digits_apart n m (b ∷ x) [] l p q e = absurd (omega arith)
digits_apart n m (b ∷ x) (c ∷ y) l p q e =
    let (sums, rest) =
    digits_apart (n * base + b) (m * base + c) x y (omega arith) (λ d i. p d (mathlib.Core.List.Memᴰ.tail i)) (λ d i. q d (mathlib.Core.List.Memᴰ.tail i)) e in
    let first = p b (mathlib.Core.List.Memᴰ.head refl) in
    let second = q c (mathlib.Core.List.Memᴰ.head refl) in
    let digit : b ≡ c = omega arith in
    (omega arith, ap₂ (λ (d : ℕ) (z : List ℕ). d ∷ z) digit rest)

-- the places of a row are below the base, since no bell's number is above twelve
zeros-small : (n b : ℕ) → Memᴰ b (replicate n 0) → b < base
zeros-small zero b m = absurd (mathlib.Core.List.Memᴰ.not-nil m)
zeros-small (suc n) b (mathlib.Core.List.Memᴰ.head e) = omega arith
zeros-small (suc n) b (mathlib.Core.List.Memᴰ.tail m) = zeros-small n b m

placed-small : (x : List ℕ) → ((b : ℕ) → Memᴰ b x → b ≤ 12) → (b : ℕ) → Memᴰ b (placed x) → b < base
placed-small x small b m =
    ⊎_elim (λ (i : Memᴰ b x). let few = small b i in omega arith) (λ i. zeros-small (most - length x) b i) (mathlib.Core.List.Memᴰ.append_cases x m)

pub placed-length : (x : List ℕ) → length x ≤ most → length (placed x) ≡ most
placed-length x h =
    let both = length-append x (replicate (most - length x) 0) in
    let rest = length-replicate {A = ℕ} (most - length x) 0 in
    omega arith

-- two rows of n bells are the same exactly where their numbers are
pub key-tells :
    (n : ℕ) (x y : List ℕ) → n ≤ most → length x ≡ n → length y ≡ n →
    ((b : ℕ) → Memᴰ b x → b ≤ 12) → ((b : ℕ) → Memᴰ b y → b ≤ 12) → same x y ≡ eqb (key_of (placed x)) (key_of (placed y))
unfolding key_of
key-tells n x y few l m p q =
    sym
    (same_unique (eqb (key_of (placed x)) (key_of (placed y))) x y
    (λ e. unplaced (digits_apart 0 0 (placed x) (placed y) lengths (placed-small x p) (placed-small y q) (eqb-true _ _ e)).1)
    (λ e. eq-eqb _ _ (ap (λ (z : List ℕ). key_of (placed z)) e)))
  where
    lengths : length (placed x) ≡ length (placed y)
    lengths = placed-length x (omega arith) ∙ sym (placed-length y (omega arith))

    unplaced : placed x ≡ placed y → x ≡ y
    unplaced e =
        let zeros : most - length x ≡ most - length y = omega arith in
        append_cancel_right x y (replicate (most - length x) 0) (e ∙ ap (λ (k : ℕ). y ++ replicate k 0) (sym zeros))
