-- What `write_back` leaves, from what its calls leave. Assumes nothing.
use Prim.Native.Nat.{ℕ, ◌+◌, ◌-◌, ◌≤◌}
use native.Mathlib.Omega.{arith}
use mathlib.Core.Path.{◌≡◌, refl, sym, ◌∙◌, ap, subst}
use mathlib.Core.List.{List, [], ◌∷◌, ◌++◌}
use lib.ListN.{length, take, replicate}
use Rattle.slices.specs.Part.{part}
use Rattle.slices.specs.Put.{put, behind}
use Rattle.slices.specs.Wrote.{Wrote}
use Rattle.slices.proofs.Part.{part-front}
use Rattle.slices.proofs.Put.{behind-fits, length-put}
use Rattle.slices.proofs.Wrote.{wrote_put, wrote-piece, wrote-zeros}
use Rattle.parts.proofs.Pieces.{flat}
use Rattle.rewriting.specs.declared.Rewrite.{Rewrite}
use Rattle.rewriting.specs.Text.{pieces_of, rewritten}
use Rattle.writing.specs.PutAll.{put_all, behind_all}
use Rattle.writing.specs.Back.{Back}
use Rattle.writing.proofs.Pieces.{wrote_all}

-- pieces written change no length
length-put-all : (pieces : List (List ℕ)) (at : ℕ) (d : List ℕ) → length (put_all at pieces d) ≡ length d
length-put-all [] at d = refl
length-put-all (piece ∷ pieces) at d = length-put-all pieces (behind at piece d) (put at piece d) ∙ length-put at piece d

-- a text that was written to the front of the work area, put at the front of the area, and zeros behind it
back-put :
    (text : List ℕ) (n : ℕ) (work work₁ area area₁ area₂ : List ℕ) → Wrote 0 n text work work₁ → length text ≤ length area →
    area₁ ≡ put 0 (part 0 n work₁) area → area₂ ≡ take n area₁ ++ replicate (length area₁ - n) 0 → Back text area n area₂
back-put text n work work₁ area area₁ area₂ w h e z =
    let fits : 0 + length text ≤ length area = omega arith in
    let put_is : area₁ ≡ put 0 text area = e ∙ ap (λ (l : List ℕ). put 0 l area) (wrote-piece w) in
    let moved : n ≡ behind 0 text area = w.ends ∙ sym (behind-fits 0 text area fits) in
    let ends : n ≡ length text = omega (arith, w.ends) in
    record {
      ends = ends;
      left =
          wrote-zeros (wrote_put 0 text area fits put_is moved) z
          ∙ ap (λ (m : ℕ). text ++ replicate (length area - m) 0) ends;
    }

-- the area, from the cut to the zeros
pub written_back :
    (w : Rewrite) (len : ℕ) (area work : List ℕ) {n : ℕ} {s work₁ area₁ area₂ : List ℕ} → s ≡ part 0 len area →
    work₁ ≡ put_all 0 (pieces_of w s) work → n ≡ behind_all 0 (pieces_of w s) work → area₁ ≡ put 0 (part 0 n work₁) area →
    area₂ ≡ take n area₁ ++ replicate (length area₁ - n) 0 → length (rewritten w (take len area)) ≤ length area →
    length (rewritten w (take len area)) ≤ length work → Back (rewritten w (take len area)) area n area₂
written_back w len area work {n} {s} {work₁} {area₁} {area₂} cut put_all_lem behind-all e z h k =
    let front : s ≡ take len area = cut ∙ part-front len area in
    let pieces = pieces_of w (take len area) in
    let put_is : work₁ ≡ put_all 0 pieces work = put_all_lem ∙ ap (λ (l : List ℕ). put_all 0 (pieces_of w l) work) front in
    let behind-is : n ≡ behind_all 0 pieces work = behind-all ∙ ap (λ (l : List ℕ). behind_all 0 (pieces_of w l) work) front in
    let wrote : Wrote 0 n (flat pieces) work work₁ =
    subst (λ (i : ℕ). Wrote 0 i (flat pieces) work work₁) (sym behind-is)
    (subst (Wrote 0 (behind_all 0 pieces work) (flat pieces) work) (sym put_is) (wrote_all pieces work k)) in
    back-put (flat pieces) n work work₁ area area₁ area₂ wrote h e z

-- the work area
pub work_cleared :
    (pieces : List (List ℕ)) (work : List ℕ) {work₁ work₂ : List ℕ} → work₁ ≡ put_all 0 pieces work → work₂ ≡ replicate (length work₁) 0 →
    work₂ ≡ replicate (length work) 0
work_cleared pieces work put_all_lem e = e ∙ ap (λ (m : ℕ). replicate m 0) (ap length put_all_lem ∙ length-put-all pieces 0 work)
