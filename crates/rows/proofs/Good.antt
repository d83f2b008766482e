-- Rows looked at one by one, up to the first bad one: these carry the loop of `good_rows`. Assumes nothing.
use Prim.Native.Nat.{ℕ, suc, ◌+◌, ◌*◌, ◌≤◌, ◌<◌}
use native.Mathlib.Numerals.{add-one}
use native.Mathlib.Omega.{arith}
use mathlib.Core.Path.{◌≡◌, sym, ◌∙◌, ap}
use mathlib.Core.Bool.{Bool, true, false, cond}
use mathlib.Core.List.{List, [], ◌∷◌}
use lib.ListN.{length, take, drop, drop_of_length-le}
use lib.Seq.{drop-cons}
use Rattle.bell_rows.specs.Row.{most, is_row, cut_into, placed}
use Rattle.bell_rows.specs.Bytes.{bells_in}
use Rattle.bell_rows.proofs.Bells.{row-full, take-placed}
use Rattle.bell_rows.proofs.Cutting.{length_cut, row_of}
use Rattle.rows.specs.Ringing.{good_rows}

module _ (chain : List ℕ) (n count i : ℕ) (few : n ≤ most) (whole : length (bells_in chain) ≡ count * n) where
  -- the row at an index, and what follows it
  abbrev row : List ℕ
  row = take n (drop (i * n) (bells_in chain))

  abbrev rows : List (List ℕ)
  rows = cut_into count n (bells_in chain)

  module _ (h : i < count) where
    -- what is tested of its places is what is asked of the row
    tested : (places : List ℕ) (t : Bool) → places ≡ placed row → t ≡ is_row n (take n places) → is_row n row ≡ t
    tested places t l q =
        let long = row-full chain n count i few whole h in
        sym (q ∙ ap (λ (p : List ℕ). is_row n (take n p)) l ∙ ap (is_row n) (take-placed n row long))

    good-at : (t : Bool) → is_row n row ≡ t → good_rows n (drop i rows) ≡ cond t (suc (good_rows n (drop (suc i) rows))) 0
    good-at t e =
        let sized = length_cut n count (bells_in chain) in
        ap (good_rows n)
        (drop-cons rows i [] (omega arith) ∙ ap (λ (r : List ℕ). r ∷ drop (suc i) rows) (row_of n count i (bells_in chain) h))
        ∙ ap (λ (b : Bool). cond b (suc (good_rows n (drop (suc i) rows))) 0) e

    -- a bad row ends the search
    pub bad-here :
        (places : List ℕ) (t : Bool) → places ≡ placed row → t ≡ is_row n (take n places) → t ≡ false →
        i + good_rows n (drop i rows) ≡ good_rows n rows → i ≡ good_rows n rows
    bad-here places t l q bad inv = omega (arith, good-at false (tested places t l q ∙ bad))

    -- a good one is counted
    pub good-here :
        (places : List ℕ) (t : Bool) → places ≡ placed row → t ≡ is_row n (take n places) → t ≡ true →
        i + good_rows n (drop i rows) ≡ good_rows n rows → i + 1 + good_rows n (drop (i + 1) rows) ≡ good_rows n rows
    good-here places t l q good inv =
        let next : good_rows n (drop (i + 1) rows) ≡ good_rows n (drop (suc i) rows) = ap (λ (k : ℕ). good_rows n (drop k rows)) (add-one i) in
        omega (arith, good-at true (tested places t l q ∙ good))

  -- all are good
  pub all-good : i ≡ count → i + good_rows n (drop i rows) ≡ good_rows n rows → count ≡ good_rows n rows
  all-good h inv =
      let sized = length_cut n count (bells_in chain) in
      let none : good_rows n (drop i rows) ≡ 0 = ap (good_rows n) (drop_of_length-le rows {i = i} (omega arith)) in
      omega arith
