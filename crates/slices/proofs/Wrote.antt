-- The laws of `Wrote`: what a `put` that fits leaves, two writes one behind the other as one, and what is read back.
-- Assumes nothing.
use mathlib.Core.Path.{◌≡◌, refl, sym, ap, ◌∙◌}
use mathlib.Core.List.{List, [], ◌++◌, append_assoc, append-nil}
use Prim.Native.Nat.{ℕ, ◌+◌, ◌-◌, ◌≤◌}
use native.Mathlib.Omega.{arith}
use lib.ListN.{length, take, drop, replicate, length-append, take-append-drop}
use lib.Seq.{length-take-le, take-take, take_at, drop_at, drop-drop}
use Rattle.slices.specs.Part.{part}
use Rattle.slices.specs.Put.{put, behind}
use Rattle.slices.specs.Wrote.{Wrote}
use Rattle.slices.proofs.Part.{part_slice, part_of_take, part_of_drop}
use Rattle.slices.proofs.Put.{put-fits, behind-fits, length-put}

-- nothing written
pub wrote_none : (at : ℕ) (dst : List ℕ) → at ≤ length dst → Wrote at at [] dst dst
wrote_none at dst h =
    record { ends = omega arith; room = h; size = refl; front = sym (append-nil (take at dst)); rest = refl }

-- what `append` and `append_byte` ensure, where the piece fits
pub wrote_put : (at : ℕ) (piece dst : List ℕ) {r : ℕ} {dst' : List ℕ} → at + length piece ≤ length dst
    → dst' ≡ put at piece dst → r ≡ behind at piece dst → Wrote at r piece dst dst'
wrote_put at piece dst {r} {dst'} h e q =
    let ends : r ≡ at + length piece = q ∙ behind-fits at piece dst h in
    let whole : dst' ≡ take at dst ++ piece ++ drop (at + length piece) dst = e ∙ put-fits at piece dst h in
    let long : length (take at dst ++ piece) ≡ r =
    omega (arith, length-append (take at dst) piece, length-take-le at dst (omega arith)) in
    record {
      ends = ends;
      room = omega arith;
      size = ap length e ∙ length-put at piece dst;
      front = ap (take r) whole ∙ take_at (take at dst ++ piece) (drop (at + length piece) dst) r long;
      rest =
          ap (drop r) whole ∙ drop_at (take at dst ++ piece) (drop (at + length piece) dst) r long
          ∙ ap (λ (n : ℕ). drop n dst) (sym ends);
    }

-- two writes, the second behind the first, are one
pub wrote_then : {at mid end : ℕ} {p q dst dst₁ dst₂ : List ℕ} → Wrote at mid p dst dst₁ → Wrote mid end q dst₁ dst₂
    → Wrote at end (p ++ q) dst dst₂
wrote_then {at} {mid} {end} {p} {q} {dst} {dst₁} {dst₂} v w =
    let seam : end ≡ mid + length q = w.ends in
    let fall : (l : List ℕ) → drop end l ≡ drop (length q) (drop mid l) =
    λ l. ap (λ (n : ℕ). drop n l) seam ∙ sym (drop-drop (length q) mid l) in
    record {
      ends = omega (arith, v.ends, w.ends, length-append p q);
      room = omega (arith, w.room, v.size);
      size = w.size ∙ v.size;
      front = w.front ∙ ap (λ (l : List ℕ). l ++ q) v.front ∙ append_assoc (take at dst) p q;
      rest = w.rest ∙ fall dst₁ ∙ ap (drop (length q)) v.rest ∙ sym (fall dst);
    }

module _ {at end : ℕ} {p dst dst' : List ℕ} (w : Wrote at end p dst dst') where
  -- the whole list, and as a `put`
  pub wrote-whole : dst' ≡ take at dst ++ p ++ drop end dst
  wrote-whole =
      sym (take-append-drop end dst')
      ∙ ap (λ (l : List ℕ). l ++ drop end dst') w.front
      ∙ ap (λ (l : List ℕ). take at dst ++ p ++ l) w.rest

  pub wrote-is-put : dst' ≡ put at p dst
  wrote-is-put =
      wrote-whole
      ∙ ap (λ (n : ℕ). take at dst ++ p ++ drop n dst) w.ends
      ∙ sym (put-fits at p dst (omega arith))

  head-length : length (take at dst) ≡ at
  head-length = length-take-le at dst (omega arith)

  -- what stood before is there, and the piece is read back
  pub wrote-before : take at dst' ≡ take at dst
  wrote-before =
      sym (take-take at end dst' (omega arith))
      ∙ ap (take at) w.front
      ∙ take_at (take at dst) p at head-length

  pub wrote-piece : part at end dst' ≡ p
  wrote-piece = part_slice at end dst' ∙ ap (drop at) w.front ∙ drop_at (take at dst) p at head-length

  -- a part before or behind the piece is as it was
  pub wrote-part-before : (from to : ℕ) → to ≤ at → part from to dst' ≡ part from to dst
  wrote-part-before from to h = part_of_take from to at dst' dst h wrote-before

  pub wrote-part-behind : (from to : ℕ) → end ≤ from → part from to dst' ≡ part from to dst
  wrote-part-behind from to h = part_of_drop from to end dst' dst h w.rest

  -- then zeros from `end` on, as `zero_from` leaves them
  pub wrote-zeros : {z : List ℕ} → z ≡ take end dst' ++ replicate (length dst' - end) 0
      → z ≡ take at dst ++ p ++ replicate (length dst - end) 0
  wrote-zeros e =
      e
      ∙ ap (λ (l : List ℕ). l ++ replicate (length dst' - end) 0) w.front
      ∙ ap (λ (n : ℕ). take at dst ++ p ++ replicate (n - end) 0) w.size
