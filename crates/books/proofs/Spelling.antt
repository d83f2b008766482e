-- The piece of some bytes is the one whose text they are, if there is one.
-- Carried by two inductions: over the piece, reading goes on behind its text with one piece less owed; over the bytes, an answer says that
-- they are the texts of the pieces that it gives. Assumes nothing.
use Prim.Native.Nat.{ℕ, zero, suc, ◌+◌, ◌≤◌}
use native.Mathlib.Omega.{arith}
use mathlib.Core.Path.{◌≡◌, refl, sym, ◌∙◌, ap, subst}
use mathlib.Core.Bool.{Bool, true, false, cond, not, ◌&&◌}
use mathlib.Core.Option.{Option, none, some}
use mathlib.Core.Logic.{⊎_elim}
use mathlib.Core.List.Memᴰ
use mathlib.Core.List.{List, [], ◌∷◌, ◌++◌, append_assoc, append-nil, Memᴰ}
use lib.Dec.{eqb, leb, ltb}
use lib.ListN.{length, length-append}
use borrow.Author.Tests.{eqb-true, ne_eqb, leb-true, le-leb, ltb-true, lt-ltb, not-true}
use Rattle.calculus.specs.Bell.{Bell}
use Rattle.calculus.specs.Letter.{Letter, byte, letter_of, owed}
use Rattle.calculus.proofs.Bells.{and_both, each-bell}
use Rattle.calculus.proofs.PrefixCode.{letter_of-byte, byte-letter_of}
use Rattle.books.specs.Name.{name_limit, IsName, is_small}
use Rattle.books.specs.Piece.{Piece, open_mark, close_mark, piece_text, uses, WellNamed}
use Rattle.books.specs.Parse.{before, one, two, headed, at_letter, pieces_from, single, piece_of}
use Rattle.books.proofs.Names.{both-and, Small, AllSmall, is-small, small_is}

-- each of these is a name
abbrev AllNames : List (List ℕ) → Type 0
AllNames names = (name : List ℕ) → Memᴰ name names → IsName name

-- ---- from pieces to answers

-- a letter that takes one piece takes the one in front
one-before : (node : Piece → Piece) (p : Piece) (o : Option (List Piece)) → one node (before p o) ≡ before (node p) o
one-before node p none = refl
one-before node p (some ps) = refl

-- one that takes two takes the two in front
two-before :
    (node : Piece → Piece → Piece) (p q : Piece) (o : Option (List Piece)) → two node (before p (before q o)) ≡ before (node p q) o
two-before node p q none = refl
two-before node p q (some ps) = refl

-- behind the text of p, reading goes on with one piece less owed
abbrev Passed : Piece → Type 0
Passed p = (k : ℕ) (rest : List ℕ) → pieces_from (suc k) none (piece_text p ++ rest) ≡ before p (pieces_from k none rest)

-- the names in two pieces are names in each
parts-named : (p q : Piece) → AllNames (uses p ++ uses q) → WellNamed p × WellNamed q
parts-named p q named = (λ n m. named n (Memᴰ.append_left (uses q) m), λ n m. named n (Memᴰ.append_right (uses p) m))

-- behind the texts of two pieces, with two less
passed_both :
    (node : Piece → Piece → Piece) (p q : Piece) → (WellNamed p → Passed p) → (WellNamed q → Passed q) → AllNames (uses p ++ uses q) →
    (k : ℕ) (rest : List ℕ) →
    two node (pieces_from (suc (suc k)) none ((piece_text p ++ piece_text q) ++ rest)) ≡ before (node p q) (pieces_from k none rest)
passed_both node p q first second named k rest =
    let parts = parts-named p q named in
    ap (λ (s : List ℕ). two node (pieces_from (suc (suc k)) none s)) (append_assoc (piece_text p) (piece_text q) rest)
    ∙ ap (two node) (first parts.0 (suc k) (piece_text q ++ rest) ∙ ap (before p) (second parts.1 k rest))
    ∙ two-before node p q (pieces_from k none rest)

-- inside a use, reading goes on behind the letters of the name and the mark that closes it
passed_name :
    (front name : List ℕ) (k : ℕ) (rest : List ℕ) → AllSmall name →
    1 ≤ length front + length name → length front + length name ≤ name_limit →
    pieces_from k (some front) ((name ++ (close_mark ∷ [])) ++ rest) ≡ before (Piece.use_of (front ++ name)) (pieces_from k none rest)
passed_name front [] k rest small some-letter few =
    ap (λ (t : Bool). cond t (before (Piece.use_of front) (pieces_from k none rest)) none) (le-leb 1 (length front) (omega arith))
    ∙ ap (λ (s : List ℕ). before (Piece.use_of s) (pieces_from k none rest)) (sym (append-nil front))
passed_name front (b ∷ name) k rest small some-letter few =
    let first = small b (Memᴰ.head refl) in
    let bytes = (name ++ (close_mark ∷ [])) ++ rest in
    let longer : length (front ++ (b ∷ [])) ≡ length front + 1 = length-append front (b ∷ []) in
    let closed = cond (leb 1 (length front)) (before (Piece.use_of front) (pieces_from k none bytes)) none in
    let further = pieces_from k (some (front ++ (b ∷ []))) bytes in
    ap (λ (t : Bool). cond t closed (cond (is_small b && ltb (length front) name_limit) further none)) (ne_eqb b close_mark (omega arith))
    ∙ ap (λ (t : Bool). cond t further none) (both-and (small_is b first) (lt-ltb (length front) name_limit (omega arith)))
    ∙ passed_name (front ++ (b ∷ [])) name k rest (λ c m. small c (Memᴰ.tail m)) (omega arith) (omega arith)
    ∙ ap (λ (s : List ℕ). before (Piece.use_of s) (pieces_from k none rest)) (append_assoc front (b ∷ []) name)

-- no bell's letter opens a use
bell_no_open : (k : Bell) → eqb (byte (Letter.bell k)) open_mark ≡ false
bell_no_open k = not-true (eqb (byte (Letter.bell k)) open_mark) (each-bell (λ b. not (eqb b open_mark)) refl k)

-- behind the text of a piece, reading goes on with one piece less owed
passed :
    (p : Piece) → WellNamed p → (k : ℕ) (rest : List ℕ) →
    pieces_from (suc k) none (piece_text p ++ rest) ≡ before p (pieces_from k none rest)
unfolding letter_of
passed Piece.J named k rest = refl
passed (Piece.R p) named k rest = ap (one Piece.R) (passed p named k rest) ∙ one-before Piece.R p (pieces_from k none rest)
passed (Piece.H p q) named k rest = passed_both Piece.H p q (passed p) (passed q) named k rest
passed (Piece.A p q) named k rest = passed_both Piece.A p q (passed p) (passed q) named k rest
passed Piece.I named k rest = refl
passed (Piece.B p q) named k rest = passed_both Piece.B p q (passed p) (passed q) named k rest
passed (Piece.app p q) named k rest = passed_both Piece.app p q (passed p) (passed q) named k rest
passed (Piece.bell b) named k rest =
    let onward : Letter → Option (List Piece) = λ l. pieces_from (owed l k) none rest in
    ap (λ (t : Bool). cond t (pieces_from k (some []) rest) (at_letter (letter_of (byte (Letter.bell b))) onward)) (bell_no_open b)
    ∙ ap (λ (o : Option Letter). at_letter o onward) (letter_of-byte (Letter.bell b))
passed (Piece.use_of name) named k rest =
    let n = named name (Memᴰ.head refl) in
    let some-letter = n.some-letter in
    let few = n.few-letters in
    passed_name [] name k rest n.small (omega arith) (omega arith)

-- the text of a piece is read as that piece
pub piece-text : (p : Piece) → WellNamed p → piece_of (piece_text p) ≡ some p
unfolding piece_of
piece-text p named = ap (λ (s : List ℕ). single (pieces_from 1 none s)) (sym (append-nil (piece_text p))) ∙ ap single (passed p named 0 [])

-- ---- from answers to pieces

-- the texts of pieces, one behind the other
abbrev texts : List Piece → List ℕ
texts [] = []
texts (p ∷ ps) = piece_text p ++ texts ps

-- the names that stand in them
abbrev all_uses : List Piece → List (List ℕ)
all_uses [] = []
all_uses (p ∷ ps) = uses p ++ all_uses ps

-- the bytes are the texts of the pieces, and the uses in these have names
record Texts (bytes : List ℕ) (ps : List Piece) : Type 0 where
  spelt : texts ps ≡ bytes
  named : AllNames (all_uses ps)

-- what is no answer gives no pieces
no_pieces : {W : Type 0} {ps : List Piece} → ◌≡◌ {A = Option (List Piece)} none (some ps) → W
no_pieces e = let z : ◌≡◌ {A = ℕ} 0 1 = cc in absurd (omega arith)

-- pieces with one in front are that one and those behind it
before_pieces :
    (p : Piece) (o : Option (List Piece)) (ps : List Piece) → before p o ≡ some ps → (qs : List Piece) × (o ≡ some qs) × (ps ≡ p ∷ qs)
before_pieces p none ps e = no_pieces e
before_pieces p (some qs) ps e = (qs, refl, cc)

-- `Takes b o answer`: the pieces of the answer are made of those in o, their texts have byte b in front, and they use no other names
abbrev Takes : (b : ℕ) (o answer : Option (List Piece)) → Type 0
Takes b o answer =
    (ps : List Piece) → answer ≡ some ps → (qs : List Piece) × (o ≡ some qs) × (texts ps ≡ b ∷ texts qs) × (all_uses ps ≡ all_uses qs)

-- a letter that takes no piece
takes_none : (b : ℕ) (p : Piece) (o : Option (List Piece)) → piece_text p ≡ b ∷ [] → uses p ≡ [] → Takes b o (before p o)
takes_none b p o spelt used ps e =
    let (qs, given, same) = before_pieces p o ps e in (
      qs,
      given,
      ap texts same ∙ ap (λ (s : List ℕ). s ++ texts qs) spelt,
      ap all_uses same ∙ ap (λ (ns : List (List ℕ)). ns ++ all_uses qs) used,
    )

-- one that takes one piece
takes_one :
    (b : ℕ) (node : Piece → Piece) (o : Option (List Piece)) → ((p : Piece) → piece_text (node p) ≡ b ∷ piece_text p) →
    ((p : Piece) → uses (node p) ≡ uses p) → Takes b o (one node o)
takes_one b node none spelt used ps e = no_pieces e
takes_one b node (some []) spelt used ps e = no_pieces e
takes_one b node (some (p ∷ qs)) spelt used ps e =
    let same : ps ≡ node p ∷ qs = cc in (
      p ∷ qs,
      refl,
      ap texts same ∙ ap (λ (s : List ℕ). s ++ texts qs) (spelt p),
      ap all_uses same ∙ ap (λ (ns : List (List ℕ)). ns ++ all_uses qs) (used p),
    )

-- one that takes two
takes_two :
    (b : ℕ) (node : Piece → Piece → Piece) (o : Option (List Piece)) →
    ((p q : Piece) → piece_text (node p q) ≡ b ∷ (piece_text p ++ piece_text q)) → ((p q : Piece) → uses (node p q) ≡ uses p ++ uses q) →
    Takes b o (two node o)
takes_two b node none spelt used ps e = no_pieces e
takes_two b node (some []) spelt used ps e = no_pieces e
takes_two b node (some (p ∷ [])) spelt used ps e = no_pieces e
takes_two b node (some (p ∷ q ∷ qs)) spelt used ps e =
    let same : ps ≡ node p q ∷ qs = cc in (
      p ∷ q ∷ qs,
      refl,
      ap texts same
          ∙ ap (λ (s : List ℕ). s ++ texts qs) (spelt p q)
          ∙ ap (λ (s : List ℕ). b ∷ s) (append_assoc (piece_text p) (piece_text q) (texts qs)),
      ap all_uses same
          ∙ ap (λ (ns : List (List ℕ)). ns ++ all_uses qs) (used p q)
          ∙ append_assoc (uses p) (uses q) (all_uses qs),
    )

-- a letter adds its byte, and no name
takes : (l : Letter) (o : Option (List Piece)) → Takes (byte l) o (headed l o)
takes Letter.J o = takes_none (byte Letter.J) Piece.J o refl refl
takes Letter.R o = takes_one (byte Letter.R) Piece.R o (λ p. refl) (λ p. refl)
takes Letter.H o = takes_two (byte Letter.H) Piece.H o (λ p q. refl) (λ p q. refl)
takes Letter.A o = takes_two (byte Letter.A) Piece.A o (λ p q. refl) (λ p q. refl)
takes Letter.I o = takes_none (byte Letter.I) Piece.I o refl refl
takes Letter.B o = takes_two (byte Letter.B) Piece.B o (λ p q. refl) (λ p q. refl)
takes Letter.stop o = takes_two (byte Letter.stop) Piece.app o (λ p q. refl) (λ p q. refl)
takes (Letter.bell k) o = takes_none (byte (Letter.bell k)) (Piece.bell k) o refl refl

-- the bytes, with the use that was opened before them
abbrev opened : Option (List ℕ) → List ℕ → List ℕ
opened none bytes = bytes
opened (some name) bytes = open_mark ∷ (name ++ bytes)

-- the letters of its name so far are small, and few
abbrev Begun : Option (List ℕ) → Type 0
Begun none = Unit {0}
Begun (some name) = AllSmall name × (length name ≤ name_limit)

-- one name more
more-names : (name : List ℕ) (names : List (List ℕ)) → IsName name → AllNames names → AllNames (name ∷ names)
more-names name names n named m (Memᴰ.head e) = subst IsName (sym e) n
more-names name names n named m (Memᴰ.tail k) = named m k

-- one letter more
more-small : (name : List ℕ) (b : ℕ) → AllSmall name → Small b → AllSmall (name ++ (b ∷ []))
more-small name b small last c m =
    ⊎_elim (small c) (λ (k : Memᴰ c (b ∷ [])). subst Small (sym (Memᴰ.eq_of_singleton k)) last) (Memᴰ.append_cases name m)

-- where the answer is those pieces, the bytes, with the use that was opened before them, are their texts
abbrev Tells : (k : ℕ) (inside : Option (List ℕ)) (bytes : List ℕ) → List Piece → Type 0
Tells k inside bytes ps = pieces_from k inside bytes ≡ some ps → Texts (opened inside bytes) ps

-- so it is with every answer
answered-texts : (k : ℕ) (inside : Option (List ℕ)) (bytes : List ℕ) (ps : List Piece) → Begun inside → Tells k inside bytes ps
answered-texts zero none [] ps begun e =
    let same : [] ≡ ps = cc in
    subst (Texts []) same (record { spelt = refl; named = λ n m. absurd (Memᴰ.not-nil m) })
answered-texts zero none (b ∷ bytes) ps begun e = no_pieces e
answered-texts (suc k) none [] ps begun e = no_pieces e
answered-texts (suc k) none (b ∷ bytes) ps begun e =
    go (eqb b open_mark) refl (answered-texts k (some []) bytes ps begun-nil) (λ l qs. answered-texts (owed l k) none bytes qs tt) e
  where
    begun-nil : Begun (some [])
    begun-nil = (λ c m. absurd (Memᴰ.not-nil m), omega arith)

    at-letter :
        (o : Option Letter) → letter_of b ≡ o →
        ((l : Letter) (qs : List Piece) → Tells (owed l k) none bytes qs) →
        at_letter o (λ l. pieces_from (owed l k) none bytes) ≡ some ps → Texts (b ∷ bytes) ps
    at-letter none q later e = no_pieces e
    at-letter (some l) q later e =
        let (qs, given, spelt, used) = takes l (pieces_from (owed l k) none bytes) ps e in
        let rest = later l qs given in
        record {
          spelt = spelt ∙ ap (λ (s : List ℕ). byte l ∷ s) rest.spelt ∙ ap (λ (c : ℕ). c ∷ bytes) (byte-letter_of b l q);
          named = subst AllNames (sym used) rest.named;
        }

    go :
        (t : Bool) → eqb b open_mark ≡ t → Tells k (some []) bytes ps →
        ((l : Letter) (qs : List Piece) → Tells (owed l k) none bytes qs) →
        cond t (pieces_from k (some []) bytes) (at_letter (letter_of b) (λ l. pieces_from (owed l k) none bytes)) ≡ some ps →
        Texts (b ∷ bytes) ps
    go true q in_use later e = subst (λ (c : ℕ). Texts (c ∷ bytes) ps) (sym (eqb-true b open_mark q)) (in_use e)
    go false q in_use later e = at-letter (letter_of b) refl later e
answered-texts k (some name) [] ps begun e = no_pieces e
answered-texts k (some name) (b ∷ bytes) ps begun e =
    go (eqb b close_mark) refl (λ qs. answered-texts k none bytes qs tt) (answered-texts k (some (name ++ (b ∷ []))) bytes ps) e
  where
    closed :
        (t : Bool) → leb 1 (length name) ≡ t → b ≡ close_mark → ((qs : List Piece) → Tells k none bytes qs) →
        cond t (before (Piece.use_of name) (pieces_from k none bytes)) none ≡ some ps → Texts (open_mark ∷ (name ++ (b ∷ bytes))) ps
    closed true q mark later e =
        let (qs, given, same) = before_pieces (Piece.use_of name) (pieces_from k none bytes) ps e in
        let rest = later qs given in
        let n : IsName name = record { some-letter = leb-true 1 (length name) q; few-letters = begun.1; small = begun.0 } in
        record {
          spelt =
              ap texts same
              ∙ ap (λ (s : List ℕ). open_mark ∷ s) (append_assoc name (close_mark ∷ []) (texts qs))
              ∙ ap (λ (c : ℕ). open_mark ∷ (name ++ (c ∷ texts qs))) (sym mark)
              ∙ ap (λ (s : List ℕ). open_mark ∷ (name ++ (b ∷ s))) rest.spelt;
          named = subst (λ (us : List Piece). AllNames (all_uses us)) (sym same) (more-names name (all_uses qs) n rest.named);
        }
    closed false q mark later e = no_pieces e

    longer :
        (t : Bool) → (is_small b && ltb (length name) name_limit) ≡ t →
        (Begun (some (name ++ (b ∷ []))) → Tells k (some (name ++ (b ∷ []))) bytes ps) →
        cond t (pieces_from k (some (name ++ (b ∷ []))) bytes) none ≡ some ps → Texts (open_mark ∷ (name ++ (b ∷ bytes))) ps
    longer true q further e =
        let both = and_both (is_small b) (ltb (length name) name_limit) q in
        let room = ltb-true (length name) name_limit both.1 in
        let count = length-append name (b ∷ []) in
        subst (λ (s : List ℕ). Texts (open_mark ∷ s) ps) (append_assoc name (b ∷ []) bytes)
        (further (more-small name b begun.0 (is-small b both.0), omega arith) e)
    longer false q further e = no_pieces e

    go :
        (t : Bool) → eqb b close_mark ≡ t → ((qs : List Piece) → Tells k none bytes qs) →
        (Begun (some (name ++ (b ∷ []))) → Tells k (some (name ++ (b ∷ []))) bytes ps) →
        cond t (cond (leb 1 (length name)) (before (Piece.use_of name) (pieces_from k none bytes)) none)
        (cond (is_small b && ltb (length name) name_limit) (pieces_from k (some (name ++ (b ∷ []))) bytes) none) ≡ some ps →
        Texts (open_mark ∷ (name ++ (b ∷ bytes))) ps
    go true q later further e = closed (leb 1 (length name)) refl (eqb-true b close_mark q) later e
    go false q later further e = longer (is_small b && ltb (length name) name_limit) refl further e

-- a single piece is the only one
single-piece : (o : Option (List Piece)) (p : Piece) → single o ≡ some p → o ≡ some (p ∷ [])
single-piece none p e = cc
single-piece (some []) p e = cc
single-piece (some (q ∷ [])) p e = cc
single-piece (some (q ∷ r ∷ ps)) p e = cc

-- the bytes of a piece are its text, and its uses have names
pub text-piece : (bytes : List ℕ) (p : Piece) → piece_of bytes ≡ some p → (piece_text p ≡ bytes) × WellNamed p
unfolding piece_of
text-piece bytes p e =
    let read = answered-texts 1 none bytes (p ∷ []) tt (single-piece (pieces_from 1 none bytes) p e) in
    (sym (append-nil (piece_text p)) ∙ read.spelt, λ n m. read.named n (Memᴰ.append_left [] m))

-- bytes that give no piece are the text of none
pub none-piece : (bytes : List ℕ) → piece_of bytes ≡ none → (p : Piece) → WellNamed p → bytes ≡ piece_text p → ⊥
none-piece bytes missing p named e =
    let read : piece_of bytes ≡ some p = ap piece_of e ∙ piece-text p named in
    let z : ◌≡◌ {A = ℕ} 0 1 = cc in
    omega arith
