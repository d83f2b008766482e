-- A chain read back from its rows in the table: rows laid end to end are the same rows only, their bells the same bells, and those the
-- bells of one chain only. Assumes nothing.
use Prim.Native.Nat.{ℕ, zero, suc, ◌-◌, ◌≤◌}
use native.Mathlib.Omega.{arith}
use mathlib.Core.Path.{◌≡◌, refl, sym, ◌∙◌, ap, ap₂}
use mathlib.Core.List.{List, [], ◌∷◌, ◌++◌, Memᴰ}
use mathlib.Core.List.{head-eq_of_cons-eq, tail-eq_of_cons-eq, append_assoc}
use lib.ListN.{length, take, drop, replicate}
use lib.Seq.{take_at, drop_at}
use Rattle.calculus.specs.Bell.{Bell, Row, number_in}
use Rattle.calculus.specs.Term.{Term}
use Rattle.bell_rows.specs.Chain.{Chain}
use Rattle.bell_rows.specs.Row.{most, RowOf, Cut, placed, laid_out}
use Rattle.bell_rows.proofs.Keys.{placed-length}
use Rattle.bell_rows.proofs.Rows.{row_exactly, test_row, down_within}

-- ---- a bell has its number alone

number-some : {bs : List ℕ} (r : Row bs) → 1 ≤ number_in r
number-some Row.first = omega arith
number-some (Row.later r) = omega arith

numbers_apart : {bs : List ℕ} (r s : Row bs) → number_in r ≡ number_in s → r ≡ s
numbers_apart Row.first Row.first e = refl
numbers_apart Row.first (Row.later s) e = let some = number-some s in absurd (omega arith)
numbers_apart (Row.later r) Row.first e = let some = number-some r in absurd (omega arith)
numbers_apart (Row.later r) (Row.later s) e = ap Row.later (numbers_apart r s (omega arith))

-- so the bells are those of one chain
pub chains_apart : {t u : Term} {bells bells' : List ℕ} → Chain t bells → Chain u bells' → bells ≡ bells' → t ≡ u
chains_apart Chain.ended Chain.ended e = refl
chains_apart Chain.ended (Chain.linked k c) e = let long = ap length e in absurd (omega arith)
chains_apart (Chain.linked k c) Chain.ended e = let long = ap length e in absurd (omega arith)
chains_apart (Chain.linked k c) (Chain.linked j d) e =
    ap₂ (λ (b : Bell) (t : Term). Term.B (Term.bell b) t) (numbers_apart k j (head-eq_of_cons-eq e))
    (chains_apart c d (tail-eq_of_cons-eq e))

-- ---- rows are cut from their bells alone

pub bells_apart :
    {n m : ℕ} {bells bells' : List ℕ} {rows rows' : List (List ℕ)} → Cut n bells rows → Cut m bells' rows' → rows ≡ rows' → bells ≡ bells'
bells_apart Cut.no_more Cut.no_more e = refl
bells_apart Cut.no_more (Cut.one_more row l c) e = let long = ap length e in absurd (omega arith)
bells_apart (Cut.one_more row l c) Cut.no_more e = let long = ap length e in absurd (omega arith)
bells_apart (Cut.one_more row l c) (Cut.one_more row' l' c') e =
    ap₂ (λ (x y : List ℕ). x ++ y) (head-eq_of_cons-eq e) (bells_apart c c' (tail-eq_of_cons-eq e))

-- ---- rows are laid out by themselves alone

-- the bells of a row are from one on
pub row-some : (n : ℕ) (row : List ℕ) → RowOf n row → (b : ℕ) → Memᴰ b row → 1 ≤ b
row-some n row r b m = (down_within n b ((test_row n row ((row_exactly n row).1 r)).no_other b m)).0

-- so they end where zeros begin
ends_apart :
    (x y : List ℕ) (i j : ℕ) → ((b : ℕ) → Memᴰ b x → 1 ≤ b) → ((b : ℕ) → Memᴰ b y → 1 ≤ b) →
    x ++ replicate i 0 ≡ y ++ replicate j 0 → x ≡ y
ends_apart [] [] i j p q e = refl
ends_apart [] (c ∷ y) zero j p q e = let long = ap length e in absurd (omega arith)
ends_apart [] (c ∷ y) (suc i) j p q e = let some = q c (Memᴰ.head refl) in let none = head-eq_of_cons-eq e in absurd (omega arith)
ends_apart (b ∷ x) [] i zero p q e = let long = ap length e in absurd (omega arith)
ends_apart (b ∷ x) [] i (suc j) p q e = let some = p b (Memᴰ.head refl) in let none = head-eq_of_cons-eq e in absurd (omega arith)
ends_apart (b ∷ x) (c ∷ y) i j p q e =
    ap₂ (λ (d : ℕ) (z : List ℕ). d ∷ z) (head-eq_of_cons-eq e)
    (ends_apart x y i j (λ d m. p d (Memᴰ.tail m)) (λ d m. q d (Memᴰ.tail m)) (tail-eq_of_cons-eq e))

-- `Laid rows`: each row has a bell, bells from one on, and no more of them than there are places
pub record LaidRow (row : List ℕ) : Type 0 where
  pub some : 1 ≤ length row
  pub few : length row ≤ most
  pub bells : (b : ℕ) → Memᴰ b row → 1 ≤ b

abbrev pub Laid : List (List ℕ) → Type 0
Laid rows = (row : List ℕ) → Memᴰ row rows → LaidRow row

-- zeros begin no row
no_zeros : (i : ℕ) (row : List ℕ) (rows : List (List ℕ)) (z : List ℕ) → LaidRow row → replicate i 0 ≡ laid_out (row ∷ rows) ++ z → ⊥
no_zeros i [] rows z l e = omega (arith, l.some)
no_zeros zero (b ∷ row) rows z l e = let long = ap length e in omega arith
no_zeros (suc i) (b ∷ row) rows z l e = let none = head-eq_of_cons-eq e in omega (arith, l.bells b (Memᴰ.head refl))

-- rows with zeros behind them
pub rows_apart :
    (xs ys : List (List ℕ)) (i j : ℕ) → Laid xs → Laid ys → laid_out xs ++ replicate i 0 ≡ laid_out ys ++ replicate j 0 → xs ≡ ys
rows_apart [] [] i j p q e = refl
rows_apart [] (y ∷ ys) i j p q e = absurd (no_zeros i y ys (replicate j 0) (q y (Memᴰ.head refl)) e)
rows_apart (x ∷ xs) [] i j p q e = absurd (no_zeros j x xs (replicate i 0) (p x (Memᴰ.head refl)) (sym e))
rows_apart (x ∷ xs) (y ∷ ys) i j p q e =
    let here = p x (Memᴰ.head refl) in
    let there = q y (Memᴰ.head refl) in
    let first = placed-length x here.few in
    let second = placed-length y there.few in
    let xz = laid_out xs ++ replicate i 0 in
    let yz = laid_out ys ++ replicate j 0 in
    let parted : placed x ++ xz ≡ placed y ++ yz =
    sym (append_assoc (placed x) (laid_out xs) (replicate i 0)) ∙ e ∙ append_assoc (placed y) (laid_out ys) (replicate j 0) in
    let same : placed x ≡ placed y = sym (take_at (placed x) xz most first) ∙ ap (take most) parted ∙ take_at (placed y) yz most second in
    let rest : xz ≡ yz = sym (drop_at (placed x) xz most first) ∙ ap (drop most) parted ∙ drop_at (placed y) yz most second in
    ap₂ (λ (z : List ℕ) (zs : List (List ℕ)). z ∷ zs)
    (ends_apart x y (most - length x) (most - length y) here.bells there.bells same)
    (rows_apart xs ys i j (λ r m. p r (Memᴰ.tail m)) (λ r m. q r (Memᴰ.tail m)) rest)
