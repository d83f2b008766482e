-- Bytes that end a line: their last byte is 10, they are not empty, and they have a line. Assumes nothing.
use Prim.Native.Nat.{ℕ, ◌≤◌}
use native.Mathlib.Omega.{arith}
use mathlib.Core.Path.{◌≡◌, refl, sym, ◌∙◌, ap, subst}
use mathlib.Core.Bool.{Bool, true, false}
use mathlib.Core.List.{List, [], ◌∷◌, ◌++◌}
use lib.Dec.{eqb}
use lib.ListN.{length, length-append}
use Rattle.slices.specs.Split.{line_feed, cut_or, split, all_but_last, lines, last_byte}
use Rattle.books.specs.Book.{EndsLine}

-- ---- the last byte

-- bytes whose last is 10 end a line
pub last-ends : (b : ℕ) (bytes : List ℕ) → last_byte (b ∷ bytes) ≡ line_feed → EndsLine (b ∷ bytes)
last-ends b [] e = ([], ap (λ (c : ℕ). c ∷ []) e)
last-ends b (c ∷ bytes) e = let (front, same) = last-ends c bytes e in (b ∷ front, ap (λ (s : List ℕ). b ∷ s) same)

-- the last byte is the one behind the others
last-behind : (front : List ℕ) (b : ℕ) → last_byte (front ++ (b ∷ [])) ≡ b
last-behind [] b = refl
last-behind (c ∷ []) b = refl
last-behind (c ∷ d ∷ front) b = last-behind (d ∷ front) b

-- bytes that end a line have 10 for their last
pub ends_last : (bytes : List ℕ) → EndsLine bytes → last_byte bytes ≡ line_feed
ends_last bytes ends = ap last_byte ends.1 ∙ last-behind ends.0 line_feed

-- ---- how many bytes and lines

-- bytes that end a line are not empty
pub ends_some : (bytes : List ℕ) → EndsLine bytes → 1 ≤ length bytes
ends_some bytes ends = omega (arith, ap length ends.1, length-append ends.0 (line_feed ∷ []))

-- a byte more in front leaves two pieces or more
cut-two : (t : Bool) (b : ℕ) (pieces : List (List ℕ)) → 2 ≤ length pieces → 2 ≤ length (cut_or t b pieces)
cut-two true b pieces h = omega arith
cut-two false b [] h = absurd (omega arith)
cut-two false b (piece ∷ pieces) h = h

-- bytes with a mark at their end are two pieces or more
two_pieces : (front : List ℕ) → 2 ≤ length (split line_feed (front ++ (line_feed ∷ [])))
two_pieces [] = omega arith
two_pieces (b ∷ front) = cut-two (eqb b line_feed) b (split line_feed (front ++ (line_feed ∷ []))) (two_pieces front)

-- all but the last of two or more are some
some_left : (pieces : List (List ℕ)) → 2 ≤ length pieces → 1 ≤ length (all_but_last pieces)
some_left [] h = absurd (omega arith)
some_left (piece ∷ []) h = absurd (omega arith)
some_left (piece ∷ next ∷ pieces) h = omega arith

-- bytes that end a line have one
pub some-line : (bytes : List ℕ) → EndsLine bytes → 1 ≤ length (lines bytes)
some-line bytes ends =
    let left = some_left (split line_feed (ends.0 ++ (line_feed ∷ []))) (two_pieces ends.0) in
    subst (λ (s : List ℕ). 1 ≤ length (lines s)) (sym ends.1) left
