-- Lists without their repeats, by a test of whether two elements are the same; and how many different elements a list has, with no test
-- and in no order. proofs/Repeats.antt shows that they agree. Assumes nothing.
use Rattle.std.specs.Prelude.{ℕ, ◌≡◌, Bool, true, false, ◌||◌, length}
use mathlib.Core.List.{List, [], ◌∷◌, Memᴰ}

module _ {A : Type 0} where
  -- whether x is the same as one of a list
  abbrev pub among : (same : A → A → Bool) → A → List A → Bool
  among same x [] = false
  among same x (y ∷ ys) = same x y || among same x ys

  abbrev pub unless : Bool → A → List A → List A
  unless true x xs = xs
  unless false x xs = x ∷ xs

  -- of those that are the same the last is kept
  abbrev pub withoutRepeats : (same : A → A → Bool) → List A → List A
  withoutRepeats same [] = []
  withoutRepeats same (x ∷ xs) = unless (among same x xs) x (withoutRepeats same xs)

  -- no element stands twice
  pub data NoRepeats : List A → Type 0 where
    empty : NoRepeats []
    fresh : {x : A} {xs : List A} → (Memᴰ x xs → ⊥) → NoRepeats xs → NoRepeats (x ∷ xs)

  -- `Different xs n`: xs has n different elements, which are as many as a list has that holds each element of xs, and no other, and none
  -- twice
  pub record Different (xs : List A) (n : ℕ) : Type 0 where
    pub kept : List A
    pub holds : (x : A) → Memᴰ x xs → Memᴰ x kept
    pub no_other : (x : A) → Memᴰ x kept → Memᴰ x xs
    pub none-twice : NoRepeats kept
    pub counted : length kept ≡ n
