-- The rows one by one: a loop that puts them, each behind the last, puts them all.
-- Assumes nothing.
use Prim.Native.Nat.{ℕ, ◌+◌}
use mathlib.Core.Path.{◌≡◌, subst}
use mathlib.Core.List.{List, [], ◌∷◌}
use lib.ListN.{drop}
use Rattle.slices.specs.Numeral.{decimal}
use Rattle.slices.proofs.Appending.{Appends}
use Rattle.printing.specs.Printed.{row_of}
use Rattle.mix_lines.specs.Mix.{bar, mix_row, rows_from}

-- ---- the rows

module _ (largest : ℕ) (counts : List ℕ) where
  -- the rows from that count on
  abbrev pub rows_at : ℕ → List (List ℕ)
  rows_at i = rows_from largest (i + 1) (drop i counts)

-- a row whose bar was cut from the marks, and whose count was widened
pub row_cut :
    (rule count largest at : ℕ) (out cut : List ℕ) {number end : ℕ} {out' : List ℕ} → number ≡ count → cut ≡ bar count largest →
    Appends at (row_of (decimal rule ∷ decimal number ∷ cut ∷ [])) out end out' → Appends at (mix_row largest rule count) out end out'
row_cut rule count largest at out cut {number} {end} {out'} same e appended =
    subst (λ (b : List ℕ). Appends at (row_of (decimal rule ∷ decimal count ∷ b ∷ [])) out end out') e
    (subst (λ (n : ℕ). Appends at (row_of (decimal rule ∷ decimal n ∷ cut ∷ [])) out end out') same appended)
