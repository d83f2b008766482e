-- The loop of `replace`, over plain variables: what a byte and what a use at an index add to the text, and what the area holds of the text
-- so far. Carried by one law on a use: its name goes to the first mark that closes it. Assumes nothing.
use Prim.Native.Nat.{ℕ, suc, ◌+◌, ◌-◌, ◌≤◌, ◌<◌}
use native.Mathlib.Numerals.{add-one}
use native.Mathlib.Omega.{arith}
use mathlib.Core.Path.{◌≡◌, sym, ◌∙◌, ap, ap₂}
use mathlib.Core.Bool.{Bool, true, false, cond}
use mathlib.Core.List.{List, [], ◌∷◌, ◌++◌, append_assoc, append-nil}
use mathlib.Core.Option.{some, none}
use Rattle.std.specs.Prelude.{Some, None}
use borrow.Author.Tests.{eq-eqb, ne_eqb}
use lib.Dec.{eqb}
use lib.ListN.{length, get_or, take, drop, length-append, length-drop, drop_of_length-le}
use lib.Seq.{drop-cons, drop-drop}
use Rattle.slices.specs.Find.{index_from, index_of}
use Rattle.slices.specs.Part.{part}
use Rattle.slices.specs.Put.{put}
use Rattle.slices.specs.Wrote.{Wrote}
use Rattle.slices.proofs.Finding.{index_within}
use Rattle.slices.proofs.Appending.{Appends, wrote}
use Rattle.slices.proofs.Wrote.{wrote_then, wrote-is-put}
use Rattle.books.specs.Piece.{open_mark, close_mark}
use Rattle.book_names.specs.Key.{key_of}
use Rattle.replacing.specs.Spelled.{spelled_from, held_by, spelled_in}
use Rattle.replacing.specs.Leaves.{Leaves}

-- ---- what the bytes spell

module _ (bytes_of : List ℕ → List ℕ) where
  -- inside a use, the name goes on to the first mark that closes it, or to the end
  pub spelled-inside :
      (name bytes : List ℕ) →
      spelled_from bytes_of (some name) bytes ≡
      bytes_of (name ++ take (index_of close_mark bytes) bytes) ++ spelled_from bytes_of none (drop (suc (index_of close_mark bytes)) bytes)
  spelled-inside name [] = ap bytes_of (sym (append-nil name)) ∙ sym (append-nil (bytes_of (name ++ [])))
  spelled-inside name (b ∷ bytes) = go (eqb b close_mark) (spelled-inside (name ++ (b ∷ [])) bytes)
    where
      go :
          (t : Bool) →
          spelled_from bytes_of (some (name ++ (b ∷ []))) bytes ≡
          bytes_of ((name ++ (b ∷ [])) ++ take (index_of close_mark bytes) bytes)
          ++ spelled_from bytes_of none (drop (suc (index_of close_mark bytes)) bytes) →
          cond t (bytes_of name ++ spelled_from bytes_of none bytes) (spelled_from bytes_of (some (name ++ (b ∷ []))) bytes) ≡
          bytes_of (name ++ take (index_from t (index_of close_mark bytes)) (b ∷ bytes))
          ++ spelled_from bytes_of none (drop (suc (index_from t (index_of close_mark bytes))) (b ∷ bytes))
      go true later = ap (λ (n : List ℕ). bytes_of n ++ spelled_from bytes_of none bytes) (sym (append-nil name))
      go false later =
          later
          ∙ ap
          (λ (n : List ℕ). bytes_of n ++ spelled_from bytes_of none (drop (suc (index_of close_mark bytes)) bytes))
          (append_assoc name (b ∷ []) (take (index_of close_mark bytes) bytes))

  module _ (piece : List ℕ) (at : ℕ) (h : at < length piece) where
    -- the byte at an index decides first
    spelled_at :
        spelled_from bytes_of none (drop at piece) ≡
        cond (eqb (get_or piece at 0) open_mark) (spelled_from bytes_of (some []) (drop (at + 1) piece))
        (get_or piece at 0 ∷ spelled_from bytes_of none (drop (at + 1) piece))
    spelled_at =
        ap (spelled_from bytes_of none) (drop-cons piece at 0 h)
        ∙ ap
        (λ (n : ℕ).
        cond (eqb (get_or piece at 0) open_mark) (spelled_from bytes_of (some []) (drop n piece))
        (get_or piece at 0 ∷ spelled_from bytes_of none (drop n piece)))
        (sym (add-one at))

    from-letter :
        ¬ (get_or piece at 0 ≡ open_mark) →
        spelled_from bytes_of none (drop at piece) ≡ get_or piece at 0 ∷ spelled_from bytes_of none (drop (at + 1) piece)
    from-letter other =
        spelled_at
        ∙ ap
        (λ (t : Bool).
        cond t (spelled_from bytes_of (some []) (drop (at + 1) piece)) (get_or piece at 0 ∷ spelled_from bytes_of none (drop (at + 1) piece)))
        (ne_eqb (get_or piece at 0) open_mark other)

    from-use :
        {end : ℕ} → get_or piece at 0 ≡ open_mark → end ≡ at + 1 + index_of close_mark (drop (at + 1) piece) →
        spelled_from bytes_of none (drop at piece) ≡ bytes_of (part (at + 1) end piece) ++ spelled_from bytes_of none (drop (end + 1) piece)
    from-use {end} opens closed =
        let bytes = drop (at + 1) piece in
        let i = index_of close_mark bytes in
        let many : i ≡ end - (at + 1) = omega arith in
        let next : at + 1 + suc i ≡ end + 1 = omega arith in
        spelled_at
        ∙ ap
        (λ (t : Bool). cond t (spelled_from bytes_of (some []) bytes) (get_or piece at 0 ∷ spelled_from bytes_of none bytes))
        (eq-eqb (get_or piece at 0) open_mark opens)
        ∙ spelled-inside [] bytes
        ∙ ap₂ (λ (n : ℕ) (rest : List ℕ). bytes_of (take n bytes) ++ spelled_from bytes_of none rest) many
        (drop-drop (suc i) (at + 1) piece ∙ ap (λ (n : ℕ). drop n piece) next)

-- the bytes are these first, and then those
pub record Begins (bytes first rest : List ℕ) : Type 0 where
  pub parts : bytes ≡ first ++ rest

-- the text of a piece from an index on: nothing at the end, a byte that opens no use, or the result of a use
module _ (keys ends store piece : List ℕ) (at : ℕ) where
  pub spelled-end : length piece ≤ at → spelled_in keys ends store (drop at piece) ≡ []
  unfolding spelled_in
  spelled-end h = ap (spelled_in keys ends store) (drop_of_length-le piece h)

  pub spelled-letter :
      at < length piece → ¬ (get_or piece at 0 ≡ open_mark) →
      Begins (spelled_in keys ends store (drop at piece)) (get_or piece at 0 ∷ []) (spelled_in keys ends store (drop (at + 1) piece))
  unfolding spelled_in
  spelled-letter h other = record { parts = from-letter (λ name. held_by (key_of name) keys ends store) piece at h other }

  pub spelled-use :
      {end key : ℕ} {name result : List ℕ} → at < length piece → get_or piece at 0 ≡ open_mark →
      end ≡ at + 1 + index_of close_mark (drop (at + 1) piece) → name ≡ part (at + 1) end piece → key ≡ key_of name →
      result ≡ held_by key keys ends store →
      Begins (spelled_in keys ends store (drop at piece)) result (spelled_in keys ends store (drop (end + 1) piece))
  unfolding spelled_in
  spelled-use {end} h opens closed named numbered held =
      record {
        parts =
            from-use (λ name. held_by (key_of name) keys ends store) piece at h opens closed
            ∙ ap (λ (bytes : List ℕ). bytes ++ spelled_in keys ends store (drop (end + 1) piece))
            (sym (held ∙ ap (λ (k : ℕ). held_by k keys ends store) (numbered ∙ ap key_of named)));
      }

-- a use ends within the piece
pub use-within :
    (piece : List ℕ) (at : ℕ) {end : ℕ} → at < length piece → end ≡ at + 1 + index_of close_mark (drop (at + 1) piece) → end ≤ length piece
use-within piece at h closed = omega (arith, index_within close_mark (drop (at + 1) piece), length-drop (at + 1) piece)

-- ---- what the area holds

-- of a text, all before `rest` stands at the front of the area, up to `to`
pub record Reached (whole rest area area' : List ℕ) (to : ℕ) : Type 0 where
  pub done : List ℕ
  pub written : Wrote 0 to done area area'
  pub joined : done ++ rest ≡ whole

module _ {whole rest first rest' area area' : List ℕ} {to : ℕ} (r : Reached whole rest area area' to) (b : Begins rest first rest') where
  behind-done : (r.done ++ first) ++ rest' ≡ whole
  behind-done = append_assoc r.done first rest' ∙ ap (λ (s : List ℕ). r.done ++ s) (sym b.parts) ∙ r.joined

  -- what stands first in the rest is written behind it
  pub reached-more :
      {to' : ℕ} {area'' : List ℕ} → to + length first ≤ length area' → Appends to first area' to' area'' → Reached whole rest' area area'' to'
  reached-more room a =
      record { done = r.done ++ first; written = wrote_then r.written (wrote to first area' room a); joined = behind-done }

  -- where that has no room, the text has none
  pub reached-full : length area' < to + length first → Leaves None whole area area'
  reached-full short =
      let w = r.written in
      let size = ap length behind-done in
      let most = length-append (r.done ++ first) rest' in
      let more = length-append r.done first in
      (omega (arith, w.ends, w.size), w.size)

-- all of it
pub reached-end :
    {whole rest area area' : List ℕ} {to : ℕ} → Reached whole rest area area' to → rest ≡ [] → Leaves (Some to) whole area area'
reached-end {whole} {rest} {area} r e =
    let w = r.written in
    let all : r.done ≡ whole = sym (append-nil r.done) ∙ ap (λ (s : List ℕ). r.done ++ s) (sym e) ∙ r.joined in
    let size : length r.done ≡ length whole = ap length all in
    (omega (arith, w.ends), omega (arith, w.ends, w.room), wrote-is-put w ∙ ap (λ (s : List ℕ). put 0 s area) all)
