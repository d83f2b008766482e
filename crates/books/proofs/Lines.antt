-- The line of some bytes is the one whose text they are, if there is one: a name lacks the tab, so the first tab stands behind the name.
-- Assumes nothing.
use Prim.Native.Nat.{ℕ, suc}
use native.Mathlib.Omega.{arith}
use mathlib.Core.Path.{◌≡◌, refl, sym, ◌∙◌, ap, ap₂, subst}
use mathlib.Core.Bool.{Bool, true, false, cond}
use mathlib.Core.Option.{Option, none, some}
use mathlib.Core.List.{List, [], ◌∷◌, ◌++◌}
use lib.Dec.{eqb}
use lib.ListN.{length, take, drop}
use lib.Seq.{take-append_seam}
use borrow.Author.Tests.{eqb-true}
use Rattle.slices.specs.Find.{index_from, index_of}
use Rattle.slices.specs.Split.{tab}
use Rattle.books.specs.Name.{IsName, is_name}
use Rattle.books.specs.Piece.{Piece, piece_text}
use Rattle.books.specs.Parse.{piece_of}
use Rattle.books.specs.Line.{Line, name_in, piece_in, line_text, WellFormed, line_with, line_of}
use Rattle.books.specs.Book.{Spells}
use Rattle.books.proofs.Names.{name_exactly, name_index}
use Rattle.books.proofs.Spelling.{piece-text, text-piece}

-- ---- from lines to answers

-- behind a piece in front and one byte
drop-behind : (front : List ℕ) (b : ℕ) (rest : List ℕ) → drop (suc (length front)) (front ++ (b ∷ rest)) ≡ rest
drop-behind [] b rest = refl
drop-behind (c ∷ front) b rest = drop-behind front b rest

-- the text of a line is read as that line
pub line-text : (l : Line) → WellFormed l → line_of (line_text l) ≡ some l
unfolding line_of
line-text (Line.line name piece) w =
    let body = name ++ (tab ∷ piece_text piece) in
    ap (λ (i : ℕ). line_with (take i body) (piece_of (drop (suc i) body))) (name_index tab (piece_text piece) (omega arith) w.named)
    ∙ ap₂ line_with (take-append_seam name (tab ∷ piece_text piece))
    (ap piece_of (drop-behind name tab (piece_text piece)) ∙ piece-text piece w.uses-named)
    ∙ ap (λ (t : Bool). cond t (some (Line.line name piece)) none) ((name_exactly name).1 w.named)

-- ---- from answers to lines

-- bytes with something behind the first place of b are what stands in front of it, b and that
cut-at-first :
    (b : ℕ) (s : List ℕ) → (drop (suc (index_of b s)) s ≡ [] → ⊥) → s ≡ take (index_of b s) s ++ (b ∷ drop (suc (index_of b s)) s)
cut-at-first b [] more = absurd (more refl)
cut-at-first b (c ∷ s) more = go (eqb c b) refl more (cut-at-first b s)
  where
    go :
        (t : Bool) → eqb c b ≡ t → (drop (suc (index_from t (index_of b s))) (c ∷ s) ≡ [] → ⊥) →
        ((drop (suc (index_of b s)) s ≡ [] → ⊥) → s ≡ take (index_of b s) s ++ (b ∷ drop (suc (index_of b s)) s)) →
        c ∷ s ≡ take (index_from t (index_of b s)) (c ∷ s) ++ (b ∷ drop (suc (index_from t (index_of b s))) (c ∷ s))
    go true q more later = ap (λ (d : ℕ). d ∷ s) (eqb-true c b q)
    go false q more later = ap (λ (r : List ℕ). c ∷ r) (later more)

-- a piece has some bytes
some-text : (p : Piece) → piece_text p ≡ [] → ⊥
some-text Piece.J e = let z : ◌≡◌ {A = ℕ} 0 1 = cc in omega arith
some-text (Piece.R p) e = let z : ◌≡◌ {A = ℕ} 0 1 = cc in omega arith
some-text (Piece.H p q) e = let z : ◌≡◌ {A = ℕ} 0 1 = cc in omega arith
some-text (Piece.A p q) e = let z : ◌≡◌ {A = ℕ} 0 1 = cc in omega arith
some-text Piece.I e = let z : ◌≡◌ {A = ℕ} 0 1 = cc in omega arith
some-text (Piece.B p q) e = let z : ◌≡◌ {A = ℕ} 0 1 = cc in omega arith
some-text (Piece.app p q) e = let z : ◌≡◌ {A = ℕ} 0 1 = cc in omega arith
some-text (Piece.bell k) e = let z : ◌≡◌ {A = ℕ} 0 1 = cc in omega arith
some-text (Piece.use_of name) e = let z : ◌≡◌ {A = ℕ} 0 1 = cc in omega arith

-- a name and a piece that make a line
made :
    (name : List ℕ) (o : Option Piece) (l : Line) → line_with name o ≡ some l →
    (is_name name ≡ true) × (o ≡ some (piece_in l)) × (name_in l ≡ name)
made name none l e = let z : ◌≡◌ {A = ℕ} 0 1 = cc in absurd (omega arith)
made name (some p) l e = go (is_name name) refl e
  where
    go :
        (t : Bool) → is_name name ≡ t → cond t (some (Line.line name p)) none ≡ some l →
        (is_name name ≡ true) × (some p ≡ some (piece_in l)) × (name_in l ≡ name)
    go true q e = let same : Line.line name p ≡ l = cc in (q, ap (λ (m : Line). some (piece_in m)) same, ap name_in (sym same))
    go false q e = let z : ◌≡◌ {A = ℕ} 0 1 = cc in absurd (omega arith)

-- the bytes of a line are its text
pub text-line : (body : List ℕ) (l : Line) → line_of body ≡ some l → Spells body l
unfolding line_of
text-line body l e =
    let name = take (index_of tab body) body in
    let rest = drop (suc (index_of tab body)) body in
    let (tested, read, same) = made name (piece_of rest) l e in
    let (spelt, named) = text-piece rest (piece_in l) read in
    record {
      well_formed = record { named = subst IsName (sym same) ((name_exactly name).0 tested); uses-named = named };
      spelt =
          cut-at-first tab body (λ gone. some-text (piece_in l) (spelt ∙ gone))
          ∙ ap₂ (λ (n s : List ℕ). n ++ (tab ∷ s)) (sym same) (sym spelt);
    }

-- bytes that give no line are the text of none
pub none-line : (body : List ℕ) → line_of body ≡ none → (l : Line) → Spells body l → ⊥
none-line body missing l s =
    let read : line_of body ≡ some l = ap line_of s.spelt ∙ line-text l s.well_formed in
    let z : ◌≡◌ {A = ℕ} 0 1 = cc in
    omega arith
