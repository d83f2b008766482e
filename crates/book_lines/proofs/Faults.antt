-- The fault that is found in the bytes of a line is the number that the line has behind the earlier lines of a book.
-- Carried by one induction over pieces: the names in a piece's text are those that the piece uses. Assumes nothing.
use Prim.Native.Nat.{ℕ, suc}
use native.Mathlib.Omega.{arith}
use mathlib.Core.Path.{◌≡◌, refl, sym, ◌∙◌, ap, ap₂, subst, subst₂}
use mathlib.Core.Bool.{Bool, true, false, cond, not, ◌&&◌}
use mathlib.Core.Option.{Option, none, some}
use mathlib.Core.List.Memᴰ
use mathlib.Core.List.{List, [], ◌∷◌, ◌++◌, append_assoc, append-nil, Memᴰ}
use lib.Dec.{eqb, leb}
use lib.ListN.{length}
use borrow.Author.Tests.{not-true}
use Rattle.calculus.specs.Bell.{Bell}
use Rattle.calculus.specs.Letter.{Letter, byte}
use Rattle.calculus.proofs.Bells.{each-bell}
use Rattle.reading.specs.Reply.{Reply, number_in}
use Rattle.slices.proofs.Finding.{Lacks}
use Rattle.books.specs.Name.{IsName, is_name}
use Rattle.books.specs.Piece.{Piece, open_mark, close_mark, piece_text, uses, WellNamed}
use Rattle.books.specs.Parse.{piece_of}
use Rattle.books.specs.Line.{Line, name_in, line_with, line_of}
use Rattle.books.specs.Book.{line_limit, Book, all_given, given, judged, next_line}
use Rattle.books.proofs.Names.{name_exactly, name_lacks}
use Rattle.books.proofs.Spelling.{text-piece}
use Rattle.book_names.specs.Key.{key_of, keys_of, is_in}
use Rattle.book_names.proofs.Given.{length_keys, given_in}
use Rattle.book_lines.specs.Scan.{is_some, is_piece}
use Rattle.book_lines.specs.Uses.{uses_from, uses_in, all_in}
use Rattle.book_lines.specs.Fault.{name_field, piece_field, is_line, fault_of}

-- ---- the names in a piece's text

-- inside a use, the letters up to the mark that closes it are the rest of its name
uses-name :
    (front name rest : List ℕ) → Lacks close_mark name →
    uses_from (some front) ((name ++ (close_mark ∷ [])) ++ rest) ≡ (front ++ name) ∷ uses_from none rest
uses-name front [] rest lacks = ap (λ (s : List ℕ). s ∷ uses_from none rest) (sym (append-nil front))
uses-name front (b ∷ name) rest lacks =
    let bytes = (name ++ (close_mark ∷ [])) ++ rest in
    ap (λ (t : Bool). cond t (front ∷ uses_from none bytes) (uses_from (some (front ++ (b ∷ []))) bytes)) lacks.0
    ∙ uses-name (front ++ (b ∷ [])) name rest lacks.1
    ∙ ap (λ (s : List ℕ). s ∷ uses_from none rest) (append_assoc front (b ∷ []) name)

-- the text of p gives the names that p uses, and reading for names goes on behind it
abbrev Passed : Piece → Type 0
Passed p = (rest : List ℕ) → uses_from none (piece_text p ++ rest) ≡ uses p ++ uses_from none rest

uses-both :
    (p q : Piece) → (WellNamed p → Passed p) → (WellNamed q → Passed q) →
    ((name : List ℕ) → Memᴰ name (uses p ++ uses q) → IsName name) → (rest : List ℕ) →
    uses_from none ((piece_text p ++ piece_text q) ++ rest) ≡ (uses p ++ uses q) ++ uses_from none rest
uses-both p q first second named rest =
    ap (uses_from none) (append_assoc (piece_text p) (piece_text q) rest)
    ∙ first (λ n m. named n (Memᴰ.append_left (uses q) m)) (piece_text q ++ rest)
    ∙ ap (λ (ns : List (List ℕ)). uses p ++ ns) (second (λ n m. named n (Memᴰ.append_right (uses p) m)) rest)
    ∙ sym (append_assoc (uses p) (uses q) (uses_from none rest))

-- no bell's letter opens a use
bell_no_open : (k : Bell) → eqb (byte (Letter.bell k)) open_mark ≡ false
bell_no_open k = not-true (eqb (byte (Letter.bell k)) open_mark) (each-bell (λ b. not (eqb b open_mark)) refl k)

uses_passed : (p : Piece) → WellNamed p → (rest : List ℕ) → uses_from none (piece_text p ++ rest) ≡ uses p ++ uses_from none rest
uses_passed Piece.J named rest = refl
uses_passed (Piece.R p) named rest = uses_passed p named rest
uses_passed (Piece.H p q) named rest = uses-both p q (uses_passed p) (uses_passed q) named rest
uses_passed (Piece.A p q) named rest = uses-both p q (uses_passed p) (uses_passed q) named rest
uses_passed Piece.I named rest = refl
uses_passed (Piece.B p q) named rest = uses-both p q (uses_passed p) (uses_passed q) named rest
uses_passed (Piece.app p q) named rest = uses-both p q (uses_passed p) (uses_passed q) named rest
uses_passed (Piece.bell k) named rest =
    ap (λ (t : Bool). cond t (uses_from (some []) rest) (uses_from none rest)) (bell_no_open k)
uses_passed (Piece.use_of name) named rest = uses-name [] name rest (name_lacks close_mark (omega arith) (named name (Memᴰ.head refl)))

-- the names in a piece's text are those that the piece uses
pub uses-piece : (p : Piece) → WellNamed p → uses_in (piece_text p) ≡ uses p
unfolding uses_in
uses-piece p named = ap (uses_from none) (sym (append-nil (piece_text p))) ∙ uses_passed p named [] ∙ append-nil (uses p)

-- ---- the fault of a line

-- names were all given exactly where their numbers are all among those of the lines
all-given_in :
    {earlier : List Line} (names : List (List ℕ)) → ((name : List ℕ) → Memᴰ name names → IsName name) → Book earlier →
    all_in names (keys_of earlier) ≡ all_given names earlier
all-given_in [] named book = refl
all-given_in (name ∷ names) named book =
    ap₂ ◌&&◌ (given_in name (named name (Memᴰ.head refl)) book)
    (all-given_in names (λ n m. named n (Memᴰ.tail m)) book)

-- a fault beside what is made of the line: 0 beside a line of the name that stands in front, or the number of the refusal
data Verdict (earlier : List Line) (body : List ℕ) : ℕ → Reply Line → Type 0 where
  sound : {l : Line} → name_in l ≡ name_field body → Verdict earlier body 0 (Reply.answered l)
  bad : {n : ℕ} → (n ≡ 0 → ⊥) → Verdict earlier body n (Reply.refused n (suc (length earlier)))

-- the fault of a line that is a name, a tab and a piece
abbrev well_formed_fault : (body keys : List ℕ) → ℕ
well_formed_fault body keys = cond (is_in (key_of (name_field body)) keys) 26 (cond (all_in (uses_in (piece_field body)) keys) 0 27)

verdict :
    {earlier : List Line} (body : List ℕ) → Book earlier → Verdict earlier body (fault_of body (keys_of earlier)) (next_line earlier body)
unfolding fault_of is_piece line_of
verdict {earlier} body book =
    subst
    (λ (n : ℕ).
    Verdict earlier body (cond (leb line_limit n) 25 (cond (not (is_line body)) 25 (well_formed_fault body (keys_of earlier))))
    (next_line earlier body))
    (sym (length_keys earlier)) (limited (leb line_limit (length earlier)))
  where
    used :
        (l : Line) → name_in l ≡ name_field body → (given-before all-given : Bool) →
        Verdict earlier body (cond given-before 26 (cond all-given 0 27))
        (cond given-before (Reply.refused 26 (suc (length earlier)))
        (cond all-given (Reply.answered l) (Reply.refused 27 (suc (length earlier)))))
    used l e true u = Verdict.bad {n = 26} (omega arith)
    used l e false true = Verdict.sound e
    used l e false false = Verdict.bad {n = 27} (omega arith)

    named :
        (p : Piece) → piece_of (piece_field body) ≡ some p → (t : Bool) → is_name (name_field body) ≡ t →
        Verdict earlier body
        (cond (not (t && true)) 25 (well_formed_fault body (keys_of earlier)))
        (judged earlier (cond t (some (Line.line (name_field body) p)) none))
    named p q false e = Verdict.bad {n = 25} (omega arith)
    named p q true e =
        let name = name_field body in
        let (spelt, well-named) = text-piece (piece_field body) p q in
        let used-names : uses_in (piece_field body) ≡ uses p = ap uses_in (sym spelt) ∙ uses-piece p well-named in
        subst₂
        (λ (t u : Bool).
        Verdict earlier body (cond t 26 (cond u 0 27))
        (cond (given name earlier) (Reply.refused 26 (suc (length earlier)))
        (cond (all_given (uses p) earlier) (Reply.answered (Line.line name p)) (Reply.refused 27 (suc (length earlier))))))
        (sym (given_in name ((name_exactly name).0 e) book))
        (sym (ap (λ (ns : List (List ℕ)). all_in ns (keys_of earlier)) used-names ∙ all-given_in (uses p) well-named book))
        (used (Line.line name p) refl (given name earlier) (all_given (uses p) earlier))

    unformed :
        (t : Bool) (k : ℕ) → Verdict earlier body (cond (not (t && false)) 25 k) (Reply.refused 25 (suc (length earlier)))
    unformed true k = Verdict.bad {n = 25} (omega arith)
    unformed false k = Verdict.bad {n = 25} (omega arith)

    formed :
        (o : Option Piece) → piece_of (piece_field body) ≡ o →
        Verdict earlier body
        (cond (not (is_name (name_field body) && is_some o)) 25 (well_formed_fault body (keys_of earlier)))
        (judged earlier (line_with (name_field body) o))
    formed none q = unformed (is_name (name_field body)) (well_formed_fault body (keys_of earlier))
    formed (some p) q = named p q (is_name (name_field body)) refl

    limited :
        (t : Bool) →
        Verdict earlier body
        (cond t 25 (cond (not (is_line body)) 25 (well_formed_fault body (keys_of earlier))))
        (cond t (Reply.refused 25 (suc (length earlier))) (judged earlier (line_of body)))
    limited true = Verdict.bad {n = 25} (omega arith)
    limited false = formed (piece_of (piece_field body)) refl

-- ---- what it says

-- the fault is the number that the line has behind the earlier ones
pub fault_next :
    (earlier : List Line) (body : List ℕ) → Book earlier → fault_of body (keys_of earlier) ≡ number_in (next_line earlier body)
fault_next earlier body book = go (verdict body book)
  where
    go : {n : ℕ} {reply : Reply Line} → Verdict earlier body n reply → n ≡ number_in reply
    go (Verdict.sound e) = refl
    go (Verdict.bad wrong) = refl

-- where it is 0 there is a line, whose name stands in front
pub fault_none :
    (earlier : List Line) (body : List ℕ) → Book earlier → fault_of body (keys_of earlier) ≡ 0 →
    (l : Line) × (next_line earlier body ≡ Reply.answered l) × (keys_of (l ∷ earlier) ≡ keys_of earlier ++ (key_of (name_field body) ∷ []))
fault_none earlier body book = go (verdict body book)
  where
    go :
        {n : ℕ} {reply : Reply Line} → Verdict earlier body n reply → n ≡ 0 →
        (l : Line) × (reply ≡ Reply.answered l) × (keys_of (l ∷ earlier) ≡ keys_of earlier ++ (key_of (name_field body) ∷ []))
    go (Verdict.sound {l} e) right = (l, refl, ap (λ (name : List ℕ). keys_of earlier ++ (key_of name ∷ [])) e)
    go (Verdict.bad wrong) right = absurd (wrong right)

-- where it is not, the line is refused by that number, as the next one
pub fault_some :
    (earlier : List Line) (body : List ℕ) → Book earlier → (fault_of body (keys_of earlier) ≡ 0 → ⊥) →
    next_line earlier body ≡ Reply.refused (fault_of body (keys_of earlier)) (suc (length earlier))
fault_some earlier body book = go (verdict body book)
  where
    go :
        {n : ℕ} {reply : Reply Line} → Verdict earlier body n reply → (n ≡ 0 → ⊥) → reply ≡ Reply.refused n (suc (length earlier))
    go (Verdict.sound e) wrong = absurd (wrong refl)
    go (Verdict.bad n) wrong = refl
