-- Rows laid end to end, byte by byte: where each bell stands, and zeros in all other places. Assumes nothing.
use Prim.Native.Nat.{ℕ, zero, suc, ◌+◌, ◌*◌, ◌-◌, ◌≤◌, ◌<◌}
use native.Mathlib.Nat.{zero-mul, suc-mul}
use native.Mathlib.Omega.{arith}
use mathlib.Core.Path.{◌≡◌, refl, sym, ◌∙◌, ap}
use mathlib.Core.List.{List, ◌∷◌, ◌++◌}
use lib.ListN.{length, get_or, replicate, length-append, get_or-append}
use lib.Seq.{get_or-append-add}
use Rattle.bell_rows.specs.Row.{most, Cut, placed, laid_out}
use Rattle.bell_rows.proofs.Keys.{placed-length}

-- one element again and again, and that again past the end
all_alike : {A : Type 0} (z i : ℕ) (a : A) → get_or (replicate z a) i a ≡ a
all_alike zero i a = refl
all_alike (suc z) zero a = refl
all_alike (suc z) (suc i) a = all_alike z i a

-- zeros stand behind a list
pub zeros-behind : (l : List ℕ) (z k : ℕ) → length l ≤ k → get_or (l ++ replicate z 0) k 0 ≡ 0
zeros-behind l z k h =
    let past : k ≡ length l + (k - length l) = omega arith in
    ap (λ (m : ℕ). get_or (l ++ replicate z 0) m 0) past
    ∙ get_or-append-add l (replicate z 0) (k - length l) 0
    ∙ all_alike z (k - length l) 0

module _ (n : ℕ) (few : n ≤ most) where
  -- twelve bytes a row
  pub laid-length : {bells : List ℕ} {rows : List (List ℕ)} → Cut n bells rows → length (laid_out rows) ≡ length rows * most
  laid-length Cut.no_more = refl
  laid-length (Cut.one_more row {rows = rows} e c) =
      let both = length-append (placed row) (laid_out rows) in
      let first = placed-length row (omega arith) in
      let rest = laid-length c in
      omega arith

  module _ (row : List ℕ) (rows : List (List ℕ)) (e : length row ≡ n) where
    twelve : length (placed row) ≡ most
    twelve = placed-length row (omega arith)

    -- a byte of the first row
    first-row : (j : ℕ) → j < most → get_or (laid_out (row ∷ rows)) (zero * most + j) 0 ≡ get_or (placed row) j 0
    first-row j h =
        let here : zero * most + j ≡ j = omega arith in
        ap (λ (m : ℕ). get_or (laid_out (row ∷ rows)) m 0) here
        ∙ get_or-append (placed row) (laid_out rows) 0 j (omega (arith, twelve))

    -- a byte of a later one
    later-row : (i j : ℕ) → get_or (laid_out (row ∷ rows)) (suc i * most + j) 0 ≡ get_or (laid_out rows) (i * most + j) 0
    later-row i j =
        let there : suc i * most + j ≡ length (placed row) + (i * most + j) = omega (arith, twelve) in
        ap (λ (m : ℕ). get_or (laid_out (row ∷ rows)) m 0) there
        ∙ get_or-append-add (placed row) (laid_out rows) (i * most + j) 0

  -- bell j of row i is bell i * n + j of them all
  pub bell-at :
      {bells : List ℕ} {rows : List (List ℕ)} → Cut n bells rows → (i j : ℕ) → i < length rows → j < n →
      get_or (laid_out rows) (i * most + j) 0 ≡ get_or bells (i * n + j) 0
  bell-at Cut.no_more i j h k = absurd (omega arith)
  bell-at (Cut.one_more row {bells = bells} {rows = rows} e c) zero j h k =
      let none = zero-mul n in
      let here : j ≡ zero * n + j = omega arith in
      first-row row rows e j (omega arith)
      ∙ get_or-append row (replicate (most - length row) 0) 0 j (omega arith)
      ∙ sym (get_or-append row bells 0 j (omega arith))
      ∙ ap (λ (m : ℕ). get_or (row ++ bells) m 0) here
  bell-at (Cut.one_more row {bells = bells} {rows = rows} e c) (suc i) j h k =
      let more = suc-mul i n in
      let there : length row + (i * n + j) ≡ suc i * n + j = omega arith in
      later-row row rows e i j
      ∙ bell-at c i j (omega arith) k
      ∙ sym (get_or-append-add row bells (i * n + j) 0)
      ∙ ap (λ (m : ℕ). get_or (row ++ bells) m 0) there

  -- the places that a row does not use
  pub unused-at :
      {bells : List ℕ} {rows : List (List ℕ)} → Cut n bells rows → (i j : ℕ) → i < length rows → n ≤ j → j < most →
      get_or (laid_out rows) (i * most + j) 0 ≡ 0
  unused-at Cut.no_more i j h low high = absurd (omega arith)
  unused-at (Cut.one_more row {rows = rows} e c) zero j h low high =
      first-row row rows e j high ∙ zeros-behind row (most - length row) j (omega arith)
  unused-at (Cut.one_more row {rows = rows} e c) (suc i) j h low high = later-row row rows e i j ∙ unused-at c i j (omega arith) low high
