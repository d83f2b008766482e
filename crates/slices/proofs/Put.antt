-- The laws of `put` and `behind`, where the piece fits and where it does not.
-- Assumes nothing.
use mathlib.Core.Path.{◌≡◌, sym, ap, ◌∙◌}
use mathlib.Core.Logic.{◌⊎◌, inl, inr, ⊎_elim}
use mathlib.Core.List.{List, [], ◌∷◌, ◌++◌}
use Prim.Native.Nat.{ℕ, ◌+◌, ◌≤◌, ◌<◌}
use native.Mathlib.Numerals.{add-one}
use native.Mathlib.Decide.{dec_le}
use native.Mathlib.Omega.{arith}
use borrow.Author.Tests.{le-leb, lt-leb}
use lib.ListN.{length, take, drop, get_or, set}
use lib.Seq.{paste, paste-suc, set_split, take-length, length-paste, append_snoc}
use Rattle.slices.specs.Put.{put, behind}

module _ (at : ℕ) (piece dst : List ℕ) where
  pub put-fits : at + length piece ≤ length dst → put at piece dst ≡ take at dst ++ piece ++ drop (at + length piece) dst
  unfolding put
  put-fits h = rw (le-leb _ _ h)

  pub put-short : length dst < at + length piece → put at piece dst ≡ dst
  unfolding put
  put-short h = rw (lt-leb _ _ h)

  pub behind-fits : at + length piece ≤ length dst → behind at piece dst ≡ at + length piece
  unfolding behind
  behind-fits h = rw (le-leb _ _ h)

  pub behind-short : length dst < at + length piece → behind at piece dst ≡ at
  unfolding behind
  behind-short h = rw (lt-leb _ _ h)

  fits-or-not : (at + length piece ≤ length dst) ⊎ (length dst < at + length piece)
  fits-or-not = go (dec_le (at + length piece) (length dst))
    where
      go : Dec (at + length piece ≤ length dst) → (at + length piece ≤ length dst) ⊎ (length dst < at + length piece)
      go (yes h) = inl h
      go (no h) = inr (omega arith)

  -- an index that moved says that the piece fitted
  pub moved-fits : at < behind at piece dst → at + length piece ≤ length dst
  moved-fits h = ⊎_elim (λ k. k) (λ k. omega (arith, behind-short k)) fits-or-not

  -- a copy of the whole piece
  pub paste-put : at + length piece ≤ length dst → paste dst at piece (length piece) ≡ put at piece dst
  paste-put h = ap (λ (l : List ℕ). take at dst ++ l ++ drop (at + length piece) dst) (take-length piece) ∙ sym (put-fits h)

  pub length-put : length (put at piece dst) ≡ length dst
  length-put =
      ⊎_elim
      (λ h. ap length (sym (paste-put h)) ∙ length-paste dst at piece (length piece) h (omega arith))
      (λ h. ap length (put-short h))
      fits-or-not

-- one byte is a store
pub put_byte : (at b : ℕ) (dst : List ℕ) → at < length dst → put at (b ∷ []) dst ≡ set dst at b
put_byte at b dst h =
    put-fits at (b ∷ []) dst (omega arith)
    ∙ append_snoc (take at dst) b (drop (at + 1) dst)
    ∙ ap (λ (n : ℕ). take at dst ++ b ∷ drop n dst) (add-one at)
    ∙ sym (set_split dst at b h)

-- a turn of a loop that copies s to d from index `at` on
pub paste-turn : (d : List ℕ) (at : ℕ) (s : List ℕ) (j i v : ℕ) (dst : List ℕ) → at + j < length d → j < length s
    → i ≡ at + j → v ≡ get_or s j 0 → dst ≡ paste d at s j → set dst i v ≡ paste d at s (j + 1)
paste-turn d at s j i v dst hd hs ei ev e =
    ap (λ (l : List ℕ). set l i v) e
    ∙ ap (λ (k : ℕ). set (paste d at s j) k v) ei
    ∙ ap (set (paste d at s j) (at + j)) ev
    ∙ paste-suc d at s j 0 hd hs
    ∙ ap (paste d at s) (sym (add-one j))
