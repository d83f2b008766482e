-- The lines of a book from an index on: where the last byte is a line feed, the first of them ends at the next line feed. Assumes nothing.
use Prim.Native.Nat.{ℕ, zero, suc, ◌+◌, ◌-◌, ◌≤◌, ◌<◌}
use native.Mathlib.Omega.{arith}
use mathlib.Core.Path.{◌≡◌, refl, sym, ◌∙◌, ap, ap₂}
use mathlib.Core.Bool.{Bool, true, false}
use mathlib.Core.List.{List, [], ◌∷◌}
use borrow.Author.Tests.{eq-eqb}
use lib.Dec.{eqb}
use lib.ListN.{length, get_or, take, drop, drop_of_length-le, length-drop}
use lib.Seq.{drop-drop}
use Rattle.slices.specs.Find.{index_from, index_of}
use Rattle.slices.specs.Part.{part}
use Rattle.slices.specs.Split.{line_feed, cons_first, cut_or, split, all_but_last, lines, last_byte}
use Rattle.slices.proofs.Splitting.{pieces}

-- ---- the first line

-- up to the first mark goes the first piece
split-first :
    (mark : ℕ) (bytes : List ℕ) → index_of mark bytes < length bytes →
    split mark bytes ≡ take (index_of mark bytes) bytes ∷ split mark (drop (suc (index_of mark bytes)) bytes)
split-first mark [] h = absurd (omega arith)
split-first mark (b ∷ bytes) h = go (eqb b mark) (split-first mark bytes) h
  where
    go :
        (t : Bool) →
        (index_of mark bytes < length bytes →
        split mark bytes ≡ take (index_of mark bytes) bytes ∷ split mark (drop (suc (index_of mark bytes)) bytes)) →
        index_from t (index_of mark bytes) < suc (length bytes) →
        cut_or t b (split mark bytes) ≡ take (index_from t (index_of mark bytes)) (b ∷ bytes)
        ∷ split mark (drop (suc (index_from t (index_of mark bytes))) (b ∷ bytes))
    go true later h = refl
    go false later h = ap (cons_first b) (later (omega arith))

-- the piece behind the last line feed is no line
all_but_first : (piece : List ℕ) (bytes : List ℕ) → all_but_last (piece ∷ split line_feed bytes) ≡ piece ∷ lines bytes
all_but_first piece bytes =
    let p = pieces line_feed bytes in
    ap (λ (ps : List (List ℕ)). all_but_last (piece ∷ ps)) p.cut ∙ ap (λ (ps : List (List ℕ)). piece ∷ all_but_last ps) (sym p.cut)

-- up to the first line feed goes the first line
first-line :
    (bytes : List ℕ) → index_of line_feed bytes < length bytes →
    lines bytes ≡ take (index_of line_feed bytes) bytes ∷ lines (drop (suc (index_of line_feed bytes)) bytes)
first-line bytes h =
    ap all_but_last (split-first line_feed bytes h)
    ∙ all_but_first (take (index_of line_feed bytes) bytes) (drop (suc (index_of line_feed bytes)) bytes)

-- ---- bytes whose last is a line feed

-- they hold one
feed-found : (bytes : List ℕ) → last_byte bytes ≡ line_feed → index_of line_feed bytes < length bytes
feed-found [] e = absurd (omega arith)
feed-found (b ∷ []) e =
    let here : index_of line_feed (b ∷ []) ≡ 0 = ap (λ (t : Bool). index_from t 0) (eq-eqb b line_feed e) in
    omega arith
feed-found (b ∷ c ∷ bytes) e = go (eqb b line_feed) (feed-found (c ∷ bytes) e)
  where
    go :
        (t : Bool) → index_of line_feed (c ∷ bytes) < length (c ∷ bytes) →
        index_from t (index_of line_feed (c ∷ bytes)) < length (b ∷ c ∷ bytes)
    go true h = omega arith
    go false h = omega arith

-- what is left has the same last byte
last-drop : (at : ℕ) (s : List ℕ) → at < length s → last_byte (drop at s) ≡ last_byte s
last-drop zero s h = refl
last-drop (suc at) [] h = absurd (omega arith)
last-drop (suc at) (b ∷ []) h = absurd (omega arith)
last-drop (suc at) (b ∷ c ∷ s) h = last-drop at (c ∷ s) (omega arith)

-- the last byte is the one before the end
pub last_byte_lem : (s : List ℕ) → (length s ≡ 0 → ⊥) → last_byte s ≡ get_or s (length s - 1) 0
last_byte_lem [] n = refl
last_byte_lem (b ∷ []) n = refl
last_byte_lem (b ∷ c ∷ s) n =
    let index : length (b ∷ c ∷ s) - 1 ≡ suc (length (c ∷ s) - 1) = omega arith in
    last_byte_lem (c ∷ s) (omega arith) ∙ sym (ap (λ (k : ℕ). get_or (b ∷ c ∷ s) k 0) index)

-- ---- from line to line

module _ (book : List ℕ) (at end : ℕ) (last : last_byte book ≡ line_feed) (within : at < length book)
    (found : end ≡ at + index_of line_feed (drop at book)) where
  feed-left : index_of line_feed (drop at book) < length (drop at book)
  feed-left = feed-found (drop at book) (last-drop at book within ∙ last)

  -- the line ends within the book
  pub line-ends : end < length book
  line-ends = omega (arith, feed-left, length-drop at book)

  -- it is the first of those from `at` on, and the others begin behind the byte that ends it
  pub one_line : lines (drop at book) ≡ part at end book ∷ lines (drop (end + 1) book)
  one_line =
      let index = index_of line_feed (drop at book) in
      let size : index ≡ end - at = omega arith in
      let behind : at + suc index ≡ end + 1 = omega arith in
      first-line (drop at book) feed-left
      ∙ ap₂ (λ (n : ℕ) (s : List ℕ). take n (drop at book) ∷ lines s) size
      (drop-drop (suc index) at book ∙ ap (λ (n : ℕ). drop n book) behind)

-- behind the end there is none
pub no_line : (book : List ℕ) (at : ℕ) → length book ≤ at → lines (drop at book) ≡ []
no_line book at h = ap lines (drop_of_length-le book h)
