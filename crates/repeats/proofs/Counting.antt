-- What a turn of the loops of `stands` and `different` does, where `i` is the place that the turn looks at. Assumes nothing.
use Prim.Native.Nat.{ℕ, ◌+◌, ◌-◌, ◌≤◌, ◌<◌}
use native.Mathlib.Numerals.{add-one}
use native.Mathlib.Omega.{arith}
use mathlib.Core.Path.{◌≡◌, sym, ap, ◌∙◌}
use mathlib.Core.Bool.{Bool, true, false, ◌||◌}
use mathlib.Core.List.{List, ◌∷◌}
use borrow.Author.Tests.{eq-eqb, ne_eqb}
use lib.Dec.{eqb}
use lib.ListN.{length, get_or, take, drop, length-drop, drop_of_length-le}
use lib.Seq.{drop-cons, take_all}
use Rattle.repeats.specs.Repeats.{among, unless, withoutRepeats}

module _ (s : List ℕ) (i : ℕ) (h : i < length s) where
  -- the number at a place, and the numbers behind it
  place : drop i s ≡ get_or s i 0 ∷ drop (i + 1) s
  place = drop-cons s i 0 h ∙ ap (λ (n : ℕ). get_or s i 0 ∷ drop n s) (sym (add-one i))

  -- ---- `stands`

  -- a number that stands here stands in the slice
  pub among-here : (number : ℕ) → get_or s i 0 ≡ number → among eqb number (drop i s) ≡ among eqb number s → true ≡ among eqb number s
  among-here number e kept =
      sym (ap (among eqb number) place ∙ ap (λ (b : Bool). b || among eqb number (drop (i + 1) s)) (eq-eqb number (get_or s i 0) (sym e)))
      ∙ kept

  -- one that does not, stands in the slice exactly where it stands later
  pub among_later :
      (number : ℕ) → ¬ (get_or s i 0 ≡ number) → among eqb number (drop i s) ≡ among eqb number s →
      among eqb number (drop (i + 1) s) ≡ among eqb number s
  among_later number n kept =
      sym (ap (among eqb number) place
      ∙ ap (λ (b : Bool). b || among eqb number (drop (i + 1) s)) (ne_eqb number (get_or s i 0) (λ e. n (sym e))))
      ∙ kept

  -- ---- `different`

  -- the part of the slice behind a place
  abbrev later : List ℕ
  later = take (length s - (i + 1)) (drop (i + 1) s)

  kept_at :
      (b : Bool) → b ≡ among eqb (get_or s i 0) later →
      length (withoutRepeats eqb (drop i s)) ≡ length (unless b (get_or s i 0) (withoutRepeats eqb (drop (i + 1) s)))
  kept_at b e =
      let whole : later ≡ drop (i + 1) s = take_all (length s - (i + 1)) (drop (i + 1) s) (omega (arith, length-drop (i + 1) s)) in
      ap (λ (l : List ℕ). length (withoutRepeats eqb l)) place
      ∙ ap
      (λ (x : Bool). length (unless x (get_or s i 0) (withoutRepeats eqb (drop (i + 1) s))))
      (sym (e ∙ ap (among eqb (get_or s i 0)) whole))

  -- a number that stands again is not counted
  pub counted-later :
      true ≡ among eqb (get_or s i 0) (take (length s - (i + 1)) (drop (i + 1) s)) →
      length (withoutRepeats eqb (drop i s)) ≡ length (withoutRepeats eqb (drop (i + 1) s))
  counted-later e = kept_at true e

  -- one that does not is
  pub counted-here :
      false ≡ among eqb (get_or s i 0) (take (length s - (i + 1)) (drop (i + 1) s)) →
      length (withoutRepeats eqb (drop i s)) ≡ length (withoutRepeats eqb (drop (i + 1) s)) + 1
  counted-here e = omega (arith, kept_at false e)

-- ---- the end

-- a number that has not been met does not stand in the slice
pub among-end :
    (number : ℕ) (s : List ℕ) (i : ℕ) → length s ≤ i → among eqb number (drop i s) ≡ among eqb number s → false ≡ among eqb number s
among-end number s i h kept = sym (ap (among eqb number) (drop_of_length-le s h)) ∙ kept

-- none are left to count
pub counted-end : (s : List ℕ) (i : ℕ) → length s ≤ i → length (withoutRepeats eqb (drop i s)) ≡ 0
counted-end s i h = ap (λ (l : List ℕ). length (withoutRepeats eqb l)) (drop_of_length-le s h)
