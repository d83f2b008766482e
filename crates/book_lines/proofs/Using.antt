-- The names that bytes use, one after the other, as laws over plain variables: these carry the loop of `uses_given`.
-- Carried by two inductions over the bytes: outside a use up to the next mark that opens one, inside up to the next that closes it.
-- Assumes nothing.
use Prim.Native.Nat.{ℕ, suc, ◌+◌, ◌-◌, ◌<◌}
use native.Mathlib.Numerals.{add-one}
use native.Mathlib.Omega.{arith}
use mathlib.Core.Path.{◌≡◌, refl, sym, ◌∙◌, ap, ap₂}
use mathlib.Core.Bool.{Bool, true, false, cond, ◌&&◌}
use mathlib.Core.List.{List, [], ◌∷◌, ◌++◌, append_assoc, append-nil}
use mathlib.Core.Option.{none, some}
use borrow.Author.Tests.{eqb-true, eq-eqb}
use lib.Dec.{eqb}
use lib.ListN.{length, get_or, take, drop, length-drop}
use lib.Seq.{drop-cons, drop-drop, get_or-drop}
use Rattle.slices.specs.Find.{index_from, index_of}
use Rattle.slices.specs.Part.{part}
use Rattle.books.specs.Piece.{open_mark, close_mark}
use Rattle.book_names.specs.Key.{key_of, is_in}
use Rattle.book_lines.specs.Uses.{uses_from, uses_in, all_in}

-- ---- marks

-- a byte that is found before the end stands there
found_here : (b : ℕ) (s : List ℕ) → index_of b s < length s → get_or s (index_of b s) 0 ≡ b
found_here b [] h = absurd (omega arith)
found_here b (c ∷ s) h = go (eqb c b) refl (found_here b s) h
  where
    go :
        (t : Bool) → eqb c b ≡ t → (index_of b s < length s → get_or s (index_of b s) 0 ≡ b) → index_from t (index_of b s) < suc (length s) →
        get_or (c ∷ s) (index_from t (index_of b s)) 0 ≡ b
    go true e later h = eqb-true c b e
    go false e later h = later (omega arith)

-- so does one that is found from an index on
pub found_at : (b from at : ℕ) (s : List ℕ) → at ≡ from + index_of b (drop from s) → at < length s → get_or s at 0 ≡ b
found_at b from at s e h =
    ap (λ (n : ℕ). get_or s n 0) e
    ∙ sym (get_or-drop from s (index_of b (drop from s)) 0)
    ∙ found_here b (drop from s) (omega (arith, length-drop from s))

-- outside a use, what stands in front of the next mark that opens one uses no name
outside : (s : List ℕ) → uses_from none (drop (index_of open_mark s) s) ≡ uses_from none s
outside [] = refl
outside (b ∷ s) = go (eqb b open_mark) refl (outside s)
  where
    go :
        (t : Bool) → eqb b open_mark ≡ t → uses_from none (drop (index_of open_mark s) s) ≡ uses_from none s →
        uses_from none (drop (index_from t (index_of open_mark s)) (b ∷ s)) ≡ uses_from none (b ∷ s)
    go true e later = refl
    go false e later = later ∙ sym (ap (λ (t : Bool). cond t (uses_from (some []) s) (uses_from none s)) e)

-- inside a use, what stands in front of the next mark that closes it is its name
inside :
    (name s : List ℕ) →
    uses_from (some name) s ≡ (name ++ take (index_of close_mark s) s) ∷ uses_from none (drop (index_of close_mark s) s)
inside name [] = ap (λ (n : List ℕ). n ∷ []) (sym (append-nil name))
inside name (b ∷ s) = go (eqb b close_mark) refl (inside (name ++ (b ∷ [])) s)
  where
    i : ℕ
    i = index_of close_mark s

    go :
        (t : Bool) → eqb b close_mark ≡ t →
        uses_from (some (name ++ (b ∷ []))) s ≡ ((name ++ (b ∷ [])) ++ take i s) ∷ uses_from none (drop i s) →
        cond t (name ∷ uses_from none s) (uses_from (some (name ++ (b ∷ []))) s) ≡
        (name ++ take (index_from t i) (b ∷ s)) ∷ uses_from none (drop (index_from t i) (b ∷ s))
    go true e later =
        ap₂ (λ (n : List ℕ) (c : ℕ). n ∷ uses_from none (c ∷ s)) (sym (append-nil name)) (sym (eqb-true b close_mark e))
    go false e later = later ∙ ap (λ (n : List ℕ). n ∷ uses_from none (drop i s)) (append_assoc name (b ∷ []) (take i s))

-- ---- the loop

-- the names used from an index on are those used from the next mark on
next_mark :
    (from at : ℕ) (s : List ℕ) → at ≡ from + index_of open_mark (drop from s) → uses_from none (drop at s) ≡ uses_from none (drop from s)
next_mark from at s e =
    ap (λ (n : ℕ). uses_from none (drop n s)) e
    ∙ ap (uses_from none) (sym (drop-drop (index_of open_mark (drop from s)) from s))
    ∙ outside (drop from s)

-- at the first mark all names are still to be looked at
pub uses-start :
    (at : ℕ) (s keys : List ℕ) → at ≡ 0 + index_of open_mark (drop 0 s) → all_in (uses_from none (drop at s)) keys ≡ all_in (uses_in s) keys
unfolding uses_in
uses-start at s keys e = ap (λ (names : List (List ℕ)). all_in names keys) (next_mark 0 at s e)

module _
    (at end : ℕ)
    (s keys : List ℕ)
    (h : at < length s)
    (opens : get_or s at 0 ≡ open_mark)
    (found : end ≡ at + 1 + index_of close_mark (drop (at + 1) s)) where
  -- at a mark that opens a use, its name is the next
  uses-at : uses_from none (drop at s) ≡ part (at + 1) end s ∷ uses_from none (drop end s)
  uses-at =
      let rest = drop (at + 1) s in
      let i = index_of close_mark rest in
      let size : i ≡ end - (at + 1) = omega arith in
      ap (uses_from none) (drop-cons s at 0 h ∙ ap (λ (n : ℕ). get_or s at 0 ∷ drop n s) (sym (add-one at)))
      ∙ ap (λ (t : Bool). cond t (uses_from (some []) rest) (uses_from none rest)) (eq-eqb (get_or s at 0) open_mark opens)
      ∙ inside [] rest
      ∙ ap₂ (λ (n : ℕ) (l : List ℕ). take n rest ∷ uses_from none l) size
      (drop-drop i (at + 1) s ∙ ap (λ (n : ℕ). drop n s) (sym found))

  -- whether its number is among these decides first
  given-at : all_in (uses_from none (drop at s)) keys ≡ is_in (key_of (part (at + 1) end s)) keys && all_in (uses_from none (drop end s)) keys
  given-at = ap (λ (names : List (List ℕ)). all_in names keys) uses-at

  -- a name whose number is not among these
  pub not-given : is_in (key_of (part (at + 1) end s)) keys ≡ false → false ≡ all_in (uses_from none (drop at s)) keys
  not-given e = sym (given-at ∙ ap (λ (t : Bool). t && all_in (uses_from none (drop end s)) keys) e)

  -- behind one whose number is, the names from the next mark on decide
  pub one-given :
      (next : ℕ) → next ≡ end + index_of open_mark (drop end s) → is_in (key_of (part (at + 1) end s)) keys ≡ true →
      all_in (uses_from none (drop next s)) keys ≡ all_in (uses_from none (drop at s)) keys
  one-given next later e =
      ap (λ (names : List (List ℕ)). all_in names keys) (next_mark end next s later)
      ∙ sym (given-at ∙ ap (λ (t : Bool). t && all_in (uses_from none (drop end s)) keys) e)

-- what is said of a name's number is said of the number of the bytes that the name is
pub known :
    {result : Bool} {key : ℕ} (name bytes keys : List ℕ) → result ≡ is_in key keys → key ≡ key_of name → name ≡ bytes →
    is_in (key_of bytes) keys ≡ result
known name bytes keys r e f = sym (r ∙ ap (λ (k : ℕ). is_in k keys) (e ∙ ap key_of f))
