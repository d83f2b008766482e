-- Texts that are a byte and then two texts: what `is_join` finds. Assumes nothing.
use Prim.Native.Nat.{ℕ, ◌+◌}
use mathlib.Core.Path.{◌≡◌, sym, ◌∙◌, ap, ap₂}
use mathlib.Core.Bool.{true, false, ◌&&◌, false≢true}
use mathlib.Core.List.{List, ◌∷◌, ◌++◌}
use borrow.Author.Tests.{eqb-true, eq-eqb}
use lib.Dec.{eqb}
use lib.ListN.{length, take, drop, take-append-drop, length-append}
use lib.Pointwise.{pointwise, bytes_decides}
use lib.Seq.{take-append_seam, drop-append_seam}
use Rattle.slices.specs.Same.{same}
use Rattle.slices.proofs.Decimal.{and_both}
use Rattle.slices.proofs.Same.{same_unique}

-- texts that differ are not the same
pub differ : (w v : List ℕ) → (w ≡ v → ⊥) → false ≡ same w v
differ w v n = same_unique false w v (λ e. absurd (false≢true e)) (λ e. absurd (n e))

module _ (w : List ℕ) (head first : ℕ) (a b rest : List ℕ) (cut : w ≡ first ∷ rest) where
  -- the rest is not as long as the two texts
  pub join-length : (length rest ≡ length a + length b → ⊥) → false ≡ same w (head ∷ (a ++ b))
  join-length n = differ w (head ∷ (a ++ b)) apart
    where
      apart : w ≡ head ∷ (a ++ b) → ⊥
      apart e = let behind : rest ≡ a ++ b = cc in n (ap length behind ∙ length-append a b)

  -- it is, and the byte in front and the texts decide
  pub join_decided :
      (front back : List ℕ) → front ≡ take (length a) rest → back ≡ drop (length a) rest →
      ((eqb first head && pointwise eqb front a) && pointwise eqb back b) ≡ same w (head ∷ (a ++ b))
  join_decided front back p q =
      same_unique ((eqb first head && pointwise eqb front a) && pointwise eqb back b) w (head ∷ (a ++ b)) there there-back
    where
      there : ((eqb first head && pointwise eqb front a) && pointwise eqb back b) ≡ true → w ≡ head ∷ (a ++ b)
      there h =
          let (both, last) = and_both (eqb first head && pointwise eqb front a) (pointwise eqb back b) h in
          let (one, two) = and_both (eqb first head) (pointwise eqb front a) both in
          cut
          ∙ ap₂ ◌∷◌ (eqb-true first head one)
          (sym (take-append-drop (length a) rest)
          ∙ ap₂ ◌++◌ (sym p ∙ (bytes_decides front a).0 two) (sym q ∙ (bytes_decides back b).0 last))

      there-back : w ≡ head ∷ (a ++ b) → ((eqb first head && pointwise eqb front a) && pointwise eqb back b) ≡ true
      there-back whole =
          let behind : rest ≡ a ++ b = cc in
          let same_head : first ≡ head = cc in
          let one : eqb first head ≡ true = eq-eqb first head same_head in
          let two : pointwise eqb front a ≡ true = (bytes_decides front a).1 (p ∙ ap (take (length a)) behind ∙ take-append_seam a b) in
          let last : pointwise eqb back b ≡ true = (bytes_decides back b).1 (q ∙ ap (drop (length a)) behind ∙ drop-append_seam a b) in
          ap₂ ◌&&◌ (ap₂ ◌&&◌ one two) last
