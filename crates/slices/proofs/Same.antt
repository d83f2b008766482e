-- `same` is true exactly where the two lists are equal, by one induction each way.
-- Assumes nothing.
use mathlib.Core.Path.{◌≡◌, refl, sym, ap, ◌∙◌}
use mathlib.Core.Bool.{Bool, true, false, ◌&&◌, false≢true}
use mathlib.Core.List.{List, [], ◌∷◌}
use Prim.Native.Nat.{ℕ}
use lib.Dec.{eqb}
use borrow.Author.Tests.{eqb-true, eq-eqb}
use Rattle.slices.specs.Same.{same}

pub same_refl : (s : List ℕ) → same s s ≡ true
same_refl [] = refl
same_refl (x ∷ xs) = ap (λ (b : Bool). b && same xs xs) (eq-eqb x x refl) ∙ same_refl xs

pub equal_same : (s t : List ℕ) → s ≡ t → same s t ≡ true
equal_same s t e = ap (same s) (sym e) ∙ same_refl s

and_left : (a b : Bool) → (a && b) ≡ true → a ≡ true
and_left true b e = refl
and_left false b e = e

and_right : (a b : Bool) → (a && b) ≡ true → b ≡ true
and_right true b e = e
and_right false b e = absurd (false≢true e)

pub same_equal : (s t : List ℕ) → same s t ≡ true → s ≡ t
same_equal [] [] e = refl
same_equal [] (y ∷ ys) e = absurd (false≢true e)
same_equal (x ∷ xs) [] e = absurd (false≢true e)
same_equal (x ∷ xs) (y ∷ ys) e =
    let head : x ≡ y = eqb-true x y (and_left (eqb x y) (same xs ys) e) in
    let tail : xs ≡ ys = same_equal xs ys (and_right (eqb x y) (same xs ys) e) in
    cc

-- a flag that is true exactly where the lists are equal is `same`
pub same_unique : (r : Bool) (s t : List ℕ) → (r ≡ true → s ≡ t) → (s ≡ t → r ≡ true) → r ≡ same s t
same_unique r s t f g = go r (same s t) refl refl
  where
    go : (a b : Bool) → r ≡ a → same s t ≡ b → r ≡ same s t
    go true b p q = p ∙ sym (equal_same s t (f p))
    go false true p q = g (same_equal s t q) ∙ sym q
    go false false p q = p ∙ sym q
