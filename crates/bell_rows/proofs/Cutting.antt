-- Bells cut into rows: the function is the relation, where the bells are a whole number of rows; and each row by its place. Assumes
-- nothing.
use Prim.Native.Nat.{ℕ, zero, suc, ◌+◌, ◌*◌, ◌/◌, ◌%◌, ◌≤◌, ◌<◌}
use native.Mathlib.Nat.{zero-mul, suc-mul, add_comm, div-add-mod', mul-mod_left, mul-div_cancel}
use native.Mathlib.Omega.{arith}
use mathlib.Core.Path.{◌≡◌, refl, sym, ◌∙◌, ap, ap₂, subst}
use mathlib.Core.List.{List, [], ◌∷◌}
use mathlib.Core.List.Memᴰ
use mathlib.Core.List.{Memᴰ}
use lib.ListN.{length, get_or, take, drop, length-append, length-drop, take-append-drop}
use lib.Seq.{take_at, drop_at, drop-drop, length-take-le}
use Rattle.bell_rows.specs.Row.{Cut, cut_into}

module _ (n : ℕ) where
  pub length_cut : (count : ℕ) (bells : List ℕ) → length (cut_into count n bells) ≡ count
  length_cut zero bells = refl
  length_cut (suc count) bells = ap suc (length_cut count (drop n bells))

  -- the row at an index
  pub row_of : (count i : ℕ) (bells : List ℕ) → i < count → get_or (cut_into count n bells) i [] ≡ take n (drop (i * n) bells)
  row_of zero i bells h = absurd (omega arith)
  row_of (suc count) zero bells h = ap (λ (k : ℕ). take n (drop k bells)) (sym (zero-mul n))
  row_of (suc count) (suc i) bells h =
      let next : n + i * n ≡ suc i * n = add_comm n (i * n) ∙ sym (suc-mul i n) in
      row_of count i (drop n bells) (omega arith) ∙ ap (take n) (drop-drop (i * n) n bells ∙ ap (λ (k : ℕ). drop k bells) next)

  -- so many rows, where there are as many bells
  pub cut-rows : (count : ℕ) (bells : List ℕ) → length bells ≡ count * n → Cut n bells (cut_into count n bells)
  cut-rows zero [] e = Cut.no_more
  cut-rows zero (b ∷ bells) e = let none = zero-mul n in absurd (omega arith)
  cut-rows (suc count) bells e =
      let more = suc-mul count n in
      let first : length (take n bells) ≡ n = length-take-le n bells (omega arith) in
      let rest = length-drop n bells in
      subst (λ (l : List ℕ). Cut n l (cut_into (suc count) n bells)) (take-append-drop n bells)
      (Cut.one_more (take n bells) first (cut-rows count (drop n bells) (omega arith)))

  -- and no others
  pub bells-cut : {bells : List ℕ} {rows : List (List ℕ)} → Cut n bells rows → length bells ≡ length rows * n
  bells-cut Cut.no_more = sym (zero-mul n)
  bells-cut (Cut.one_more row {bells = bells} {rows = rows} e c) =
      length-append row bells ∙ ap₂ ◌+◌ e (bells-cut c) ∙ add_comm n (length rows * n) ∙ sym (suc-mul (length rows) n)

  pub rows_cut : {bells : List ℕ} {rows : List (List ℕ)} → Cut n bells rows → cut_into (length rows) n bells ≡ rows
  rows_cut Cut.no_more = refl
  rows_cut (Cut.one_more row {bells = bells} {rows = rows} e c) =
      ap₂ (λ (first : List ℕ) (rest : List (List ℕ)). first ∷ rest) (take_at row bells n e)
      (ap (cut_into (length rows) n) (drop_at row bells n e) ∙ rows_cut c)

  -- each row has n bells
  pub each_long : {bells row : List ℕ} {rows : List (List ℕ)} → Cut n bells rows → Memᴰ row rows → length row ≡ n
  each_long Cut.no_more m = absurd (Memᴰ.not-nil m)
  each_long (Cut.one_more first e c) (Memᴰ.head q) = ap length q ∙ e
  each_long (Cut.one_more first e c) (Memᴰ.tail m) = each_long c m

  -- and they are bells of the chain
  pub each_of :
      {bells row : List ℕ} {rows : List (List ℕ)} (b : ℕ) → Cut n bells rows → Memᴰ row rows → Memᴰ b row → Memᴰ b bells
  each_of b Cut.no_more m k = absurd (Memᴰ.not-nil m)
  each_of b (Cut.one_more first {bells = bells} e c) (Memᴰ.head q) k =
      Memᴰ.append_left bells (subst (λ (l : List ℕ). Memᴰ b l) q k)
  each_of b (Cut.one_more first e c) (Memᴰ.tail m) k = Memᴰ.append_right first (each_of b c m k)

  -- a multiple of n, and how many times n it is
  pub whole-rows : (m : ℕ) → m % n ≡ 0 → m ≡ m / n * n
  whole-rows m e = let sum = div-add-mod' m n in omega arith

  pub rows_whole : (m count : ℕ) → 1 ≤ n → m ≡ count * n → (m % n ≡ 0) × (m / n ≡ count)
  rows_whole m count some e = (ap (λ (k : ℕ). k % n) e ∙ mul-mod_left count n, ap (λ (k : ℕ). k / n) e ∙ mul-div_cancel count some)
