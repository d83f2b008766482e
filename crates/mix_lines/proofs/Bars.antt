-- Bars: the largest count has a whole one, none has more, and a count has no mark exactly if it is 0. Assumes nothing.
use Prim.Native.Nat.{ℕ, zero, suc, ◌+◌, ◌*◌, ◌≤◌}
use native.Mathlib.Nat.{div-eq_of_lt, div-lt_iff_lt-mul, mul-add-div}
use native.Mathlib.Omega.{arith}
use mathlib.Core.Path.{◌≡◌, refl, ◌∙◌, ap}
use mathlib.Core.Logic.{◌↔◌}
use mathlib.Core.List.{List}
use lib.ListN.{length, take, replicate, length-take}
use Rattle.slices.specs.Part.{part}
use Rattle.slices.proofs.Part.{part-front}
use Rattle.mix_lines.specs.Mix.{bar_limit, bar_width, bar}

-- ---- what scaled to the largest means

pub bar-whole : (less : ℕ) → bar_width (suc less) (suc less) ≡ bar_limit
bar-whole less = mul-add-div {m = suc less} (omega arith) 40 less ∙ ap (λ (k : ℕ). 40 + k) (div-eq_of_lt (omega arith))

pub bar-most : (count largest : ℕ) → count ≤ largest → bar_width count largest ≤ bar_limit
bar-most count zero h = omega arith
bar-most count (suc less) h =
    omega (arith, (div-lt_iff_lt-mul {k = suc less} {x = count * 40 + less} {y = 41} (omega arith)).1 (omega arith))

pub bar-none : (count largest : ℕ) → count ≤ largest → (bar_width count largest ≡ 0) ↔ (count ≡ 0)
bar-none count zero h = (λ e. omega arith, λ e. refl)
bar-none count (suc less) h = (
  λ e. omega (arith, (div-lt_iff_lt-mul {k = suc less} {x = count * 40 + less} {y = 1} (omega arith)).0 (omega arith)),
  λ e. div-eq_of_lt (omega arith),
)

-- ---- for `append_row`

-- so many of the forty marks
pub bar-cut :
    (count largest w : ℕ) (cut : List ℕ) → w ≡ bar_width count largest → cut ≡ part 0 w (replicate bar_limit 35) → cut ≡ bar count largest
bar-cut count largest w cut e f = f ∙ part-front w (replicate bar_limit 35) ∙ ap (λ (k : ℕ). take k (replicate bar_limit 35)) e

pub bar-short : (count largest : ℕ) → length (bar count largest) ≤ bar_limit
bar-short count largest = omega (arith, length-take {A = ℕ} (bar_width count largest) (replicate bar_limit 35))
