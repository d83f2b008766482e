-- How many rows are good in front of the first bad one: fewer than all exactly where one is no permutation. Assumes nothing.
use Prim.Native.Nat.{ℕ, suc, ◌≤◌, ◌<◌}
use native.Mathlib.Omega.{arith}
use mathlib.Core.Path.{◌≡◌, refl, sym, ◌∙◌, ap, subst}
use mathlib.Core.Bool.{Bool, true, false, cond}
use mathlib.Core.List.Memᴰ
use mathlib.Core.List.{List, [], ◌∷◌, ◌++◌, Memᴰ}
use lib.ListN.{length}
use Rattle.bell_rows.specs.Row.{RowOf, is_row}
use Rattle.bell_rows.proofs.Rows.{row_exactly, bad-row}
use Rattle.rows.specs.Ringing.{good_rows}

-- each of them is a permutation
abbrev pub AllRows : (n : ℕ) (rows : List (List ℕ)) → Type 0
AllRows n rows = (row : List ℕ) → Memᴰ row rows → RowOf n row

-- `FirstBad n rows`: the first row that is no permutation, with as many rows in front of it as are counted
pub record FirstBad (n : ℕ) (rows : List (List ℕ)) : Type 0 where
  pub good : List (List ℕ)
  pub bad : List ℕ
  pub others : List (List ℕ)
  pub split : rows ≡ good ++ (bad ∷ others)
  pub counted : length good ≡ good_rows n rows
  pub all-good : AllRows n good
  pub not_good : RowOf n bad → ⊥

module _ (n : ℕ) where
  -- a row more, which is good or is not
  good_more :
      (row : List ℕ) (rows : List (List ℕ)) (t : Bool) → is_row n row ≡ t → good_rows n (row ∷ rows) ≡ cond t (suc (good_rows n rows)) 0
  good_more row rows t e = ap (λ (b : Bool). cond b (suc (good_rows n rows)) 0) e

  all_more : (row : List ℕ) (rows : List (List ℕ)) → RowOf n row → AllRows n rows → AllRows n (row ∷ rows)
  all_more row rows first rest other (Memᴰ.head e) = subst (RowOf n) (sym e) first
  all_more row rows first rest other (Memᴰ.tail m) = rest other m

  -- fewer than all: one is bad
  pub first-bad : (rows : List (List ℕ)) → good_rows n rows < length rows → FirstBad n rows
  first-bad [] h = absurd (omega arith)
  first-bad (row ∷ rows) h = go (is_row n row) refl (first-bad rows)
    where
      go : (t : Bool) → is_row n row ≡ t → (good_rows n rows < length rows → FirstBad n rows) → FirstBad n (row ∷ rows)
      go true e rest =
          let counts = good_more row rows true e in
          let later = rest (omega arith) in
          record {
            good = row ∷ later.good;
            bad = later.bad;
            others = later.others;
            split = ap (λ (l : List (List ℕ)). row ∷ l) later.split;
            counted = omega (arith, later.counted);
            all-good = all_more row later.good ((row_exactly n row).0 e) later.all-good;
            not_good = later.not_good;
          }
      go false e rest =
          record {
            good = [];
            bad = row;
            others = rows;
            split = refl;
            counted = omega (arith, good_more row rows false e);
            all-good = λ other m. absurd (Memᴰ.not-nil m);
            not_good = bad-row n row e;
          }

  -- the other way about
  pub bad-first :
      (good : List (List ℕ)) (bad : List ℕ) (others : List (List ℕ)) → AllRows n good → (RowOf n bad → ⊥) →
      good_rows n (good ++ (bad ∷ others)) ≡ length good
  bad-first [] bad others all not = go (is_row n bad) refl
    where
      go : (t : Bool) → is_row n bad ≡ t → good_rows n (bad ∷ others) ≡ 0
      go true e = absurd (not ((row_exactly n bad).0 e))
      go false e = good_more bad others false e
  bad-first (row ∷ good) bad others all not =
      good_more row (good ++ (bad ∷ others)) true ((row_exactly n row).1 (all row (Memᴰ.head refl)))
      ∙ ap suc (bad-first good bad others (λ other m. all other (Memᴰ.tail m)) not)

  -- all of them: none is bad
  pub none-bad : (rows : List (List ℕ)) → length rows ≤ good_rows n rows → AllRows n rows
  none-bad [] h = λ row m. absurd (Memᴰ.not-nil m)
  none-bad (row ∷ rows) h = go (is_row n row) refl (none-bad rows)
    where
      go : (t : Bool) → is_row n row ≡ t → (length rows ≤ good_rows n rows → AllRows n rows) → AllRows n (row ∷ rows)
      go true e rest =
          let counts = good_more row rows true e in
          all_more row rows ((row_exactly n row).0 e) (rest (omega arith))
      go false e rest = absurd (omega (arith, good_more row rows false e))

  -- the other way about
  pub all-counted : (rows : List (List ℕ)) → AllRows n rows → good_rows n rows ≡ length rows
  all-counted [] all = refl
  all-counted (row ∷ rows) all =
      good_more row rows true ((row_exactly n row).1 (all row (Memᴰ.head refl)))
      ∙ ap suc (all-counted rows (λ other m. all other (Memᴰ.tail m)))
