-- Whether two lists are the same, from an index on: the bytes there decide, and then the rest. Assumes nothing.
use Prim.Native.Nat.{ℕ}
use mathlib.Core.Path.{◌≡◌, refl, sym, ap}
use mathlib.Core.Bool.{Bool, true, false}
use mathlib.Core.List.{List}
use lib.ListN.{length, drop}
use Rattle.slices.specs.Same.{same}
use Rattle.slices.proofs.Same.{same_equal}

-- whether they are the same from index i on
abbrev pub same_from : ℕ → (a b : List ℕ) → Bool
same_from i a b = same (drop i a) (drop i b)

-- lists of two lengths are not the same
pub same_lengths : (a b : List ℕ) → ¬ (length a ≡ length b) → false ≡ same a b
same_lengths a b n = go (same a b) refl
  where
    go : (x : Bool) → same a b ≡ x → false ≡ same a b
    go true e = absurd (n (ap length (same_equal a b e)))
    go false e = sym e
