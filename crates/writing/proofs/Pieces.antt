-- What the writer leaves: pieces appended one behind the other, wherever all of them fit. Assumes nothing.
use Prim.Native.Nat.{ℕ, ◌+◌, ◌≤◌}
use native.Mathlib.Nat.{add-zero}
use native.Mathlib.Omega.{arith}
use native.Mathlib.Decide.{dec_le}
use mathlib.Core.Path.{◌≡◌, refl, sym, ◌∙◌, ap, ap₂}
use mathlib.Core.List.{List, [], ◌∷◌, ◌++◌, append-nil}
use lib.ListN.{length, take, drop, take-append-drop}
use Rattle.slices.specs.Put.{put, behind}
use Rattle.slices.specs.Wrote.{Wrote}
use Rattle.slices.proofs.Put.{put-fits, put-short, behind-fits, behind-short}
use Rattle.slices.proofs.Wrote.{wrote_none, wrote_put, wrote_then}
use Rattle.parts.proofs.Pieces.{flat, sizes, length-flat}
use Rattle.writing.specs.PutAll.{put_all, behind_all}

-- nothing appended changes nothing
pub put-nothing : (at : ℕ) (d : List ℕ) → (d ≡ put at [] d) × (at ≡ behind at [] d)
put-nothing at d = go (dec_le (at + 0) (length d))
  where
    go : Dec (at + 0 ≤ length d) → (d ≡ put at [] d) × (at ≡ behind at [] d)
    go (yes h) = (
      sym
          (put-fits at [] d h
          ∙ ap (λ (l : List ℕ). l ++ drop (at + 0) d) (append-nil (take at d))
          ∙ ap (λ (n : ℕ). take at d ++ drop n d) (add-zero at)
          ∙ take-append-drop at d),
      sym (behind-fits at [] d h ∙ add-zero at),
    )
    go (no h) = (sym (put-short at [] d (omega arith)), sym (behind-short at [] d (omega arith)))

-- the pieces behind one that is written
module _
    (at : ℕ) (d : List ℕ) {mid : ℕ} {d₁ : List ℕ} (piece : List ℕ) (pieces : List (List ℕ)) (e : d₁ ≡ put at piece d)
    (n : mid ≡ behind at piece d)
  where
    pub put_next : put_all mid pieces d₁ ≡ put_all at (piece ∷ pieces) d
    put_next = ap₂ (λ (i : ℕ) (l : List ℕ). put_all i pieces l) n e

    pub behind-next : behind_all mid pieces d₁ ≡ behind_all at (piece ∷ pieces) d
    behind-next = ap₂ (λ (i : ℕ) (l : List ℕ). behind_all i pieces l) n e

-- pieces that all fit are written one behind the other
wrote_pieces :
    (pieces : List (List ℕ)) (at : ℕ) (d : List ℕ) → at + sizes pieces ≤ length d →
    Wrote at (behind_all at pieces d) (flat pieces) d (put_all at pieces d)
wrote_pieces [] at d h = wrote_none at d (omega arith)
wrote_pieces (piece ∷ pieces) at d h =
    let first = wrote_put at piece d (omega arith) refl refl in
    wrote_then first (wrote_pieces pieces (behind at piece d) (put at piece d) (omega (arith, first.ends, first.size)))

pub wrote_all :
    (pieces : List (List ℕ)) (d : List ℕ) → length (flat pieces) ≤ length d →
    Wrote 0 (behind_all 0 pieces d) (flat pieces) d (put_all 0 pieces d)
wrote_all pieces d h = wrote_pieces pieces 0 d (omega (arith, length-flat pieces))
