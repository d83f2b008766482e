-- What the test of a piece does at one letter and at one use, as laws over plain variables: these carry the loop of `is_piece`.
-- Carried by the count of the pieces, which are as many as were owed, so that a letter finds those that it takes; and by one induction over
-- the bytes of a use, with the letters of its name so far. Assumes nothing.
use Prim.Native.Nat.{ℕ, zero, suc, ◌+◌, ◌-◌, ◌≤◌, ◌<◌}
use native.Mathlib.Numerals.{add-one}
use native.Mathlib.Omega.{arith}
use mathlib.Core.Path.{◌≡◌, refl, sym, ◌∙◌, ap, ap₂}
use mathlib.Core.Bool.{Bool, true, false, cond, ◌&&◌, and-true, and-false, and_assoc, false≢true}
use mathlib.Core.List.{List, [], ◌∷◌, ◌++◌, append_assoc, append-nil}
use mathlib.Core.Option.{Option, none, some}
use Rattle.std.specs.Prelude.{Some, None}
use borrow.Author.Tests.{le-leb, lt-leb, lt-ltb, le-ltb, ltb-true, ltb-false, eq-eqb, ne_eqb}
use lib.Dec.{eqb, leb, ltb, leb-suc-suc}
use lib.ListN.{length, get_or, take, drop, length-append, length-drop}
use lib.Seq.{drop-cons, drop-drop}
use Rattle.calculus.specs.Letter.{Letter, letter_of, owed}
use Rattle.calculus.proofs.Bells.{and_both}
use Rattle.slices.specs.Find.{index_from, index_of}
use Rattle.slices.specs.Part.{part}
use Rattle.reading.specs.Arity.{arity_of_letter, arity_of}
use Rattle.reading.proofs.Scan.{owed_sum}
use Rattle.books.specs.Name.{name_limit, is_small, all_small, is_name}
use Rattle.books.specs.Piece.{Piece, open_mark, close_mark}
use Rattle.books.specs.Parse.{before, one, two, headed, at_letter, pieces_from, single, piece_of}
use Rattle.book_lines.specs.Scan.{is_some, is_piece}

-- ---- as many pieces as were owed

-- there are pieces
abbrev pub made : Option (List Piece) → Bool
made none = false
made (some ps) = true

-- the pieces, where there are some, are so many
abbrev Counts : (count : ℕ) → Option (List Piece) → Type 0
Counts count none = Unit {0}
Counts count (some ps) = length ps ≡ count

-- a piece in front is one more
counts-before : (p : Piece) (k : ℕ) (o : Option (List Piece)) → Counts k o → Counts (suc k) (before p o)
counts-before p k none e = tt
counts-before p k (some ps) e = ap suc e

-- one piece that becomes part of a node leaves as many
counts-one : (node : Piece → Piece) (k : ℕ) (o : Option (List Piece)) → Counts (suc k) o → Counts (suc k) (one node o)
counts-one node k none e = tt
counts-one node k (some []) e = tt
counts-one node k (some (p ∷ ps)) e = e

-- two leave one less
counts-two : (node : Piece → Piece → Piece) (k : ℕ) (o : Option (List Piece)) → Counts (suc (suc k)) o → Counts (suc k) (two node o)
counts-two node k none e = tt
counts-two node k (some []) e = tt
counts-two node k (some (p ∷ [])) e = tt
counts-two node k (some (p ∷ q ∷ ps)) e = omega arith

-- a letter makes one piece of those that it takes
counts-headed : (l : Letter) (k : ℕ) (o : Option (List Piece)) → Counts (owed l k) o → Counts (suc k) (headed l o)
counts-headed Letter.J k o e = counts-before Piece.J k o e
counts-headed Letter.R k o e = counts-one Piece.R k o e
counts-headed Letter.H k o e = counts-two Piece.H k o e
counts-headed Letter.A k o e = counts-two Piece.A k o e
counts-headed Letter.I k o e = counts-before Piece.I k o e
counts-headed Letter.B k o e = counts-two Piece.B k o e
counts-headed Letter.stop k o e = counts-two Piece.app k o e
counts-headed (Letter.bell b) k o e = counts-before (Piece.bell b) k o e

-- a use that was opened is one piece more
abbrev due : ℕ → Option (List ℕ) → ℕ
due k none = k
due k (some name) = suc k

-- the pieces that bytes go on to make are as many as were owed
counted : (k : ℕ) (inside : Option (List ℕ)) (bytes : List ℕ) → Counts (due k inside) (pieces_from k inside bytes)
counted zero none [] = refl
counted zero none (b ∷ bytes) = tt
counted (suc k) none [] = tt
counted (suc k) none (b ∷ bytes) = go (eqb b open_mark) (letter_of b) (counted k (some []) bytes) (λ l. counted (owed l k) none bytes)
  where
    at-letter :
        (o : Option Letter) → ((l : Letter) → Counts (owed l k) (pieces_from (owed l k) none bytes)) →
        Counts (suc k) (at_letter o (λ l. pieces_from (owed l k) none bytes))
    at-letter none later = tt
    at-letter (some l) later = counts-headed l k (pieces_from (owed l k) none bytes) (later l)

    go :
        (t : Bool) (o : Option Letter) → Counts (suc k) (pieces_from k (some []) bytes) →
        ((l : Letter) → Counts (owed l k) (pieces_from (owed l k) none bytes)) →
        Counts (suc k) (cond t (pieces_from k (some []) bytes) (at_letter o (λ l. pieces_from (owed l k) none bytes)))
    go true o in_use later = in_use
    go false o in_use later = at-letter o later
counted k (some name) [] = tt
counted k (some name) (b ∷ bytes) =
    go (eqb b close_mark) (leb 1 (length name)) (is_small b && ltb (length name) name_limit) (counted k none bytes)
    (counted k (some (name ++ (b ∷ []))) bytes)
  where
    go :
        (t u v : Bool) → Counts k (pieces_from k none bytes) → Counts (suc k) (pieces_from k (some (name ++ (b ∷ []))) bytes) →
        Counts (suc k)
        (cond t (cond u (before (Piece.use_of name) (pieces_from k none bytes)) none)
        (cond v (pieces_from k (some (name ++ (b ∷ []))) bytes) none))
    go true true v rest further = counts-before (Piece.use_of name) k (pieces_from k none bytes) rest
    go true false v rest further = tt
    go false u true rest further = further
    go false u false rest further = tt

-- ---- one letter

-- a piece in front of pieces
made-before : (p : Piece) (o : Option (List Piece)) → made (before p o) ≡ made o
made-before p none = refl
made-before p (some ps) = refl

-- a node that takes one, where there is one
made_one : (node : Piece → Piece) (k : ℕ) (o : Option (List Piece)) → Counts (suc k) o → made (one node o) ≡ made o
made_one node k none e = refl
made_one node k (some []) e = absurd (omega arith)
made_one node k (some (p ∷ ps)) e = refl

-- a node that takes two, where there are two
made-two : (node : Piece → Piece → Piece) (k : ℕ) (o : Option (List Piece)) → Counts (suc (suc k)) o → made (two node o) ≡ made o
made-two node k none e = refl
made-two node k (some []) e = absurd (omega arith)
made-two node k (some (p ∷ [])) e = absurd (omega arith)
made-two node k (some (p ∷ q ∷ ps)) e = refl

-- a letter in front of as many pieces as it takes, and others
made-headed : (l : Letter) (k : ℕ) (o : Option (List Piece)) → Counts (owed l k) o → made (headed l o) ≡ made o
made-headed Letter.J k o e = made-before Piece.J o
made-headed Letter.R k o e = made_one Piece.R k o e
made-headed Letter.H k o e = made-two Piece.H k o e
made-headed Letter.A k o e = made-two Piece.A k o e
made-headed Letter.I k o e = made-before Piece.I o
made-headed Letter.B k o e = made-two Piece.B k o e
made-headed Letter.stop k o e = made-two Piece.app k o e
made-headed (Letter.bell b) k o e = made-before (Piece.bell b) o

-- a count is not missing
Some≢None : {n : ℕ} → Some n ≡ None → ⊥
Some≢None e = let z : ◌≡◌ {A = ℕ} 0 1 = cc in omega arith

-- one piece is single
single-made : (o : Option (List Piece)) → Counts 1 o → made o ≡ is_some (single o)
single-made none e = refl
single-made (some []) e = absurd (omega arith)
single-made (some (p ∷ [])) e = refl
single-made (some (p ∷ q ∷ ps)) e = absurd (omega arith)

-- ---- one use

-- letters one behind the other are small where both are
small-append : (front rest : List ℕ) → all_small (front ++ rest) ≡ all_small front && all_small rest
small-append [] rest = refl
small-append (b ∷ front) rest =
    ap (λ (t : Bool). is_small b && t) (small-append front rest) ∙ sym (and_assoc (is_small b) (all_small front) (all_small rest))

-- small letters that are few enough are a name where there is one
name_so_far : (name : List ℕ) → length name ≤ name_limit → all_small name ≡ true → is_name name ≡ leb 1 (length name)
unfolding is_name
name_so_far name few small =
    ap₂ (λ (s t : Bool). leb 1 (length name) && s && t) (le-leb (length name) name_limit few) small
    ∙ and-true (leb 1 (length name) && true)
    ∙ and-true (leb 1 (length name))

-- a byte that is no small letter, or a ninth letter, is in no name
not_named :
    (front : List ℕ) (b : ℕ) (rest : List ℕ) → (is_small b && ltb (length front) name_limit) ≡ false → is_name (front ++ (b ∷ rest)) ≡ false
unfolding is_name
not_named front b rest e = go (is_small b) (ltb (length front) name_limit) refl refl e
  where
    all : List ℕ
    all = front ++ (b ∷ rest)

    go : (t u : Bool) → is_small b ≡ t → ltb (length front) name_limit ≡ u → (t && u) ≡ false → is_name all ≡ false
    go true true p q e = absurd (false≢true (sym e))
    go true false p q e =
        let long : name_limit < length all = omega (arith, ltb-false (length front) name_limit q, length-append front (b ∷ rest)) in
        ap (λ (t : Bool). leb 1 (length all) && t && all_small all) (lt-leb (length all) name_limit long)
        ∙ ap (λ (t : Bool). t && all_small all) (and-false (leb 1 (length all)))
    go false u p q e =
        let sized = leb 1 (length all) && leb (length all) name_limit in
        let later = ap (λ (t : Bool). all_small front && (t && all_small rest)) p ∙ and-false (all_small front) in
        ap (λ (t : Bool). sized && t) (small-append front (b ∷ rest) ∙ later) ∙ and-false sized

-- the use is closed at that index of the bytes, with a name, and pieces follow
abbrev closes : (k : ℕ) (name bytes : List ℕ) (i : ℕ) → Bool
closes k name bytes i = ltb i (length bytes) && (is_name (name ++ take i bytes) && made (pieces_from k none (drop (suc i) bytes)))

-- a closed use in front of pieces, where its name has a letter
made_closed : (t : Bool) (p : Piece) (o : Option (List Piece)) → made (cond t (before p o) none) ≡ t && made o
made_closed true p o = made-before p o
made_closed false p o = refl

-- inside a use, pieces are made where it is closed
in_use :
    (k : ℕ) (name bytes : List ℕ) → length name ≤ name_limit → all_small name ≡ true →
    made (pieces_from k (some name) bytes) ≡ closes k name bytes (index_of close_mark bytes)
in_use k name [] few small = refl
in_use k name (b ∷ bytes) few small = go (eqb b close_mark) (in_use k longer bytes)
  where
    longer : List ℕ
    longer = name ++ (b ∷ [])

    i : ℕ
    i = index_of close_mark bytes

    rest : Bool
    rest = made (pieces_from k none (drop (suc i) bytes))

    further :
        (t : Bool) → (is_small b && ltb (length name) name_limit) ≡ t →
        (length longer ≤ name_limit → all_small longer ≡ true → made (pieces_from k (some longer) bytes) ≡ closes k longer bytes i) →
        made (cond t (pieces_from k (some longer) bytes) none) ≡ closes k name (b ∷ bytes) (suc i)
    further true q later =
        let (first, room) = and_both (is_small b) (ltb (length name) name_limit) q in
        let few' : length longer ≤ name_limit = omega (arith, ltb-true (length name) name_limit room, length-append name (b ∷ [])) in
        let small' = small-append name (b ∷ []) ∙ ap₂ (λ (t u : Bool). t && (u && true)) small first in
        later few' small'
        ∙ ap₂ (λ (t : Bool) (n : List ℕ). t && (is_name n && rest)) (sym (leb-suc-suc (suc i) (length bytes)))
        (append_assoc name (b ∷ []) (take i bytes))
    further false q later =
        sym
        (ap (λ (t : Bool). ltb (suc i) (suc (length bytes)) && (t && rest)) (not_named name b (take i bytes) q)
        ∙ and-false (ltb (suc i) (suc (length bytes))))

    go :
        (t : Bool) →
        (length longer ≤ name_limit → all_small longer ≡ true → made (pieces_from k (some longer) bytes) ≡ closes k longer bytes i) →
        made
        (cond t (cond (leb 1 (length name)) (before (Piece.use_of name) (pieces_from k none bytes)) none)
        (cond (is_small b && ltb (length name) name_limit) (pieces_from k (some longer) bytes) none)) ≡
        closes k name (b ∷ bytes) (index_from t i)
    go true later =
        made_closed (leb 1 (length name)) (Piece.use_of name) (pieces_from k none bytes)
        ∙ sym
        (ap₂ (λ (t : Bool) (n : List ℕ). t && (is_name n && made (pieces_from k none bytes)))
        (lt-ltb 0 (suc (length bytes)) (omega arith)) (append-nil name)
        ∙ ap (λ (t : Bool). t && made (pieces_from k none bytes)) (name_so_far name few small))
    go false later = further (is_small b && ltb (length name) name_limit) refl later

-- ---- the loop

-- bytes are a piece where they make the one that is owed
pub piece-start : (s : List ℕ) → made (pieces_from 1 none (drop 0 s)) ≡ is_piece s
unfolding is_piece piece_of
piece-start s = single-made (pieces_from 1 none s) (counted 1 none s)

-- no byte may follow where nothing is owed
pub nothing-owed : (owing at : ℕ) (s : List ℕ) → at < length s → owing ≡ 0 → false ≡ made (pieces_from owing none (drop at s))
nothing-owed owing at s h e = rw (e, drop-cons s at 0)

-- what the byte at an index decides, where it opens a use or not
abbrev decided : (k at : ℕ) (s : List ℕ) → Bool → Bool
decided k at s t =
    made
    (cond t (pieces_from k (some []) (drop (at + 1) s))
    (at_letter (letter_of (get_or s at 0)) (λ l. pieces_from (owed l k) none (drop (at + 1) s))))

module _ (owing at : ℕ) (s : List ℕ) (h : at < length s) (owes : owing ≡ 0 → ⊥) where
  -- the byte at an index decides first
  at_byte : made (pieces_from owing none (drop at s)) ≡ decided (owing - 1) at s (eqb (get_or s at 0) open_mark)
  at_byte =
      let some-owed : owing ≡ suc (owing - 1) = omega arith in
      ap₂ (λ (n : ℕ) (l : List ℕ). made (pieces_from n none l)) some-owed
      (drop-cons s at 0 h ∙ ap (λ (n : ℕ). get_or s at 0 ∷ drop n s) (sym (add-one at)))

  module _ (other : get_or s at 0 ≡ open_mark → ⊥) where
    -- outside a use the letter decides
    at-outside : made (pieces_from owing none (drop at s)) ≡ decided (owing - 1) at s false
    at-outside = at_byte ∙ ap (decided (owing - 1) at s) (ne_eqb (get_or s at 0) open_mark other)

    -- a byte that is no letter and opens no use makes no piece
    pub no_letter : None ≡ arity_of (get_or s at 0) → false ≡ made (pieces_from owing none (drop at s))
    unfolding arity_of
    no_letter e = sym (at-outside ∙ go (letter_of (get_or s at 0)) e)
      where
        go :
            (o : Option Letter) → None ≡ arity_of_letter o →
            made (at_letter o (λ l. pieces_from (owed l (owing - 1)) none (drop (at + 1) s))) ≡ false
        go none e = refl
        go (some l) e = absurd (Some≢None (sym e))

    -- behind a letter as many pieces more are owed as it takes
    pub one-letter :
        (parts : ℕ) → Some parts ≡ arity_of (get_or s at 0) →
        made (pieces_from (owing - 1 + parts) none (drop (at + 1) s)) ≡ made (pieces_from owing none (drop at s))
    unfolding arity_of
    one-letter parts e = sym (at-outside ∙ go (letter_of (get_or s at 0)) e)
      where
        rest : List ℕ
        rest = drop (at + 1) s

        go :
            (o : Option Letter) → Some parts ≡ arity_of_letter o →
            made (at_letter o (λ l. pieces_from (owed l (owing - 1)) none rest)) ≡ made (pieces_from (owing - 1 + parts) none rest)
        go none q = absurd (Some≢None q)
        go (some l) q =
            let takes : parts ≡ owed l 0 = cc in
            let sum : owed l (owing - 1) ≡ owing - 1 + parts = omega (arith, owed_sum l (owing - 1), takes) in
            made-headed l (owing - 1) (pieces_from (owed l (owing - 1)) none rest) (counted (owed l (owing - 1)) none rest)
            ∙ ap (λ (n : ℕ). made (pieces_from n none rest)) sum

  module _ (end : ℕ) (opens : get_or s at 0 ≡ open_mark) (found : end ≡ at + 1 + index_of close_mark (drop (at + 1) s)) where
    -- inside a use the mark that closes it decides
    at-use : made (pieces_from owing none (drop at s)) ≡ closes (owing - 1) [] (drop (at + 1) s) (index_of close_mark (drop (at + 1) s))
    at-use =
        at_byte
        ∙ ap (decided (owing - 1) at s) (eq-eqb (get_or s at 0) open_mark opens)
        ∙ in_use (owing - 1) [] (drop (at + 1) s) (omega arith) refl

    -- a use that is not closed makes no piece
    pub left_open : length s ≤ end → false ≡ made (pieces_from owing none (drop at s))
    left_open past =
        let i = index_of close_mark (drop (at + 1) s) in
        let rest = drop (at + 1) s in
        let named = is_name (take i rest) && made (pieces_from (owing - 1) none (drop (suc i) rest)) in
        let beyond : length rest ≤ i = omega (arith, length-drop (at + 1) s) in
        sym (at-use ∙ ap (λ (t : Bool). t && named) (le-ltb i (length rest) beyond))

    -- of one that is closed, the name decides, and then what stands behind it
    at-closed :
        end < length s →
        made (pieces_from owing none (drop at s)) ≡ is_name (part (at + 1) end s) && made (pieces_from (owing - 1) none (drop (end + 1) s))
    at-closed within =
        let i = index_of close_mark (drop (at + 1) s) in
        let rest = drop (at + 1) s in
        let named = is_name (take i rest) && made (pieces_from (owing - 1) none (drop (suc i) rest)) in
        let before-end : i < length rest = omega (arith, length-drop (at + 1) s) in
        let size : i ≡ end - (at + 1) = omega arith in
        let seam : at + 1 + suc i ≡ end + 1 = omega arith in
        at-use
        ∙ ap (λ (t : Bool). t && named) (lt-ltb i (length rest) before-end)
        ∙ ap₂ (λ (n : ℕ) (l : List ℕ). is_name (take n rest) && made (pieces_from (owing - 1) none l)) size
        (drop-drop (suc i) (at + 1) s ∙ ap (λ (n : ℕ). drop n s) seam)

    -- a use without a name makes no piece
    pub not-name : end < length s → is_name (part (at + 1) end s) ≡ false → false ≡ made (pieces_from owing none (drop at s))
    not-name within e = sym (at-closed within ∙ ap (λ (t : Bool). t && made (pieces_from (owing - 1) none (drop (end + 1) s))) e)

    -- behind a use one piece less is owed
    pub one-use :
        end < length s → is_name (part (at + 1) end s) ≡ true →
        made (pieces_from (owing - 1) none (drop (end + 1) s)) ≡ made (pieces_from owing none (drop at s))
    one-use within e = sym (at-closed within ∙ ap (λ (t : Bool). t && made (pieces_from (owing - 1) none (drop (end + 1) s))) e)
