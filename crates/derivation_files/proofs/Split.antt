-- Cutting bytes at a mark and joining the pieces by it undo each other, where the mark stands in no piece; the lines of a file that ends
-- with the mark, each ended by it, are the file; and no tab or line feed stands in the texts of trees. Assumes nothing.
use Prim.Native.Nat.{ℕ, ◌≤◌, ◌<◌}
use mathlib.Core.Path.{◌≡◌, refl, sym, ◌∙◌, ap, ap₂}
use mathlib.Core.Bool.{Bool, true, false}
use mathlib.Core.List.{List, [], ◌∷◌, ◌++◌}
use lib.Dec.{ltb, eqb}
use borrow.Author.Tests.{ltb-true, eqb-true, eq-eqb}
use native.Mathlib.Omega.{arith}
use Rattle.calculus.specs.Bell.{byte_in}
use Rattle.calculus.specs.Term.{Term, text}
use Rattle.calculus.specs.Types.{Sign, sign_text, written}
use Rattle.calculus.specs.Typing.{Name, name_byte}
use Rattle.calculus.proofs.Bells.{each-bell}
use Rattle.slices.specs.Split.{cons_first, cut_or, split, all_but_last, last_byte}
use Rattle.slices.proofs.Splitting.{Free, free-append, split-piece, split-last}

-- the mark stands in none of the pieces
abbrev pub AllFree : (mark : ℕ) → List (List ℕ) → Type 0
AllFree mark [] = Unit {0}
AllFree mark (piece ∷ pieces) = Free mark piece × AllFree mark pieces

-- the pieces with the mark between them
abbrev pub joined : (mark : ℕ) → List (List ℕ) → List ℕ
joined mark [] = []
joined mark (piece ∷ []) = piece
joined mark (piece ∷ next ∷ pieces) = piece ++ (mark ∷ joined mark (next ∷ pieces))

-- the pieces with the mark behind each
abbrev pub ended : (mark : ℕ) → List (List ℕ) → List ℕ
ended mark [] = []
ended mark (piece ∷ pieces) = piece ++ (mark ∷ ended mark pieces)

-- a mark that stands in none of the pieces, and is not what joins them, stands not in them joined
pub free-joined :
    (mark between : ℕ) (pieces : List (List ℕ)) → (between ≡ mark → ⊥) → AllFree mark pieces → Free mark (joined between pieces)
free-joined mark between [] other free = tt
free-joined mark between (piece ∷ []) other free = free.0
free-joined mark between (piece ∷ next ∷ pieces) other free =
    free-append mark piece (between ∷ joined between (next ∷ pieces)) free.0
    (other, free-joined mark between (next ∷ pieces) other free.1)

-- pieces in which the mark does not stand, joined by it, are cut into those pieces
pub split-joined :
    (mark : ℕ) (piece : List ℕ) (pieces : List (List ℕ)) → AllFree mark (piece ∷ pieces) →
    split mark (joined mark (piece ∷ pieces)) ≡ piece ∷ pieces
split-joined mark piece [] free = split-last mark piece free.0
split-joined mark piece (next ∷ pieces) free =
    split-piece mark piece (joined mark (next ∷ pieces)) free.0
    ∙ ap (λ (ps : List (List ℕ)). piece ∷ ps) (split-joined mark next pieces free.1)

-- the pieces of any bytes, joined by the mark, are those bytes
pub joined-split : (mark : ℕ) (bytes : List ℕ) → joined mark (split mark bytes) ≡ bytes
joined-split mark bytes = let (piece, pieces, cut, same) = pieces_of bytes in ap (joined mark) cut ∙ same
  where
    longer :
        (b : ℕ) (rest piece : List ℕ) (pieces : List (List ℕ)) → split mark rest ≡ piece ∷ pieces → joined mark (piece ∷ pieces) ≡ rest →
        (t : Bool) → eqb b mark ≡ t →
        (first : List ℕ) × (others : List (List ℕ)) × (cut_or t b (split mark rest) ≡ first ∷ others) ×
        (joined mark (first ∷ others) ≡ b ∷ rest)
    longer b rest piece pieces cut same true q =
        ([], piece ∷ pieces, ap (λ (ps : List (List ℕ)). [] ∷ ps) cut, ap₂ (λ (c : ℕ) (s : List ℕ). c ∷ s) (sym (eqb-true b mark q)) same)
    longer b rest piece [] cut same false q = (b ∷ piece, [], ap (cons_first b) cut, ap (λ (s : List ℕ). b ∷ s) same)
    longer b rest piece (next ∷ pieces) cut same false q = (b ∷ piece, next ∷ pieces, ap (cons_first b) cut, ap (λ (s : List ℕ). b ∷ s) same)

    pieces_of :
        (s : List ℕ) → (piece : List ℕ) × (pieces : List (List ℕ)) × (split mark s ≡ piece ∷ pieces) × (joined mark (piece ∷ pieces) ≡ s)
    pieces_of [] = ([], [], refl, refl)
    pieces_of (b ∷ rest) = let (piece, pieces, cut, same) = pieces_of rest in longer b rest piece pieces cut same (eqb b mark) refl

-- pieces in which the mark does not stand, ended by it, are cut into those pieces and an empty one
split-ended : (mark : ℕ) (pieces : List (List ℕ)) → AllFree mark pieces → split mark (ended mark pieces) ≡ pieces ++ ([] ∷ [])
split-ended mark [] free = refl
split-ended mark (piece ∷ pieces) free =
    split-piece mark piece (ended mark pieces) free.0 ∙ ap (λ (ps : List (List ℕ)). piece ∷ ps) (split-ended mark pieces free.1)

-- all but the last of pieces with one behind them are those pieces
all_but_last-append : (pieces : List (List ℕ)) (last : List ℕ) → all_but_last (pieces ++ (last ∷ [])) ≡ pieces
all_but_last-append [] last = refl
all_but_last-append (piece ∷ []) last = refl
all_but_last-append (piece ∷ next ∷ pieces) last = ap (λ (ps : List (List ℕ)). piece ∷ ps) (all_but_last-append (next ∷ pieces) last)

-- the lines of pieces in which the mark does not stand, ended by it, are those pieces
pub lines-ended : (mark : ℕ) (pieces : List (List ℕ)) → AllFree mark pieces → all_but_last (split mark (ended mark pieces)) ≡ pieces
lines-ended mark pieces free = ap all_but_last (split-ended mark pieces free) ∙ all_but_last-append pieces []

-- the last byte stands in what is behind
pub last-append : (s : List ℕ) (b : ℕ) (rest : List ℕ) → last_byte (s ++ (b ∷ rest)) ≡ last_byte (b ∷ rest)
last-append [] b rest = refl
last-append (c ∷ []) b rest = refl
last-append (c ∷ d ∷ s) b rest = last-append (d ∷ s) b rest

-- the lines of bytes whose last is the mark, each ended by it, are those bytes
pub ended-lines : (mark b : ℕ) (bytes : List ℕ) → last_byte (b ∷ bytes) ≡ mark → ended mark (all_but_last (split mark (b ∷ bytes))) ≡ b ∷ bytes
ended-lines mark b [] e =
    ap (λ (t : Bool). ended mark (all_but_last (cut_or t b ([] ∷ [])))) (eq-eqb b mark e) ∙ ap (λ (c : ℕ). c ∷ []) (sym e)
ended-lines mark b (c ∷ bytes) e = longer (split mark (c ∷ bytes)) (eqb b mark) refl (ended-lines mark c bytes e)
  where
    longer :
        (pieces : List (List ℕ)) (t : Bool) → eqb b mark ≡ t → ended mark (all_but_last pieces) ≡ c ∷ bytes →
        ended mark (all_but_last (cut_or t b pieces)) ≡ b ∷ c ∷ bytes
    longer [] t q e = cc
    longer (piece ∷ []) t q e = cc
    longer (piece ∷ next ∷ pieces) true q e = ap₂ (λ (d : ℕ) (s : List ℕ). d ∷ s) (sym (eqb-true b mark q)) e
    longer (piece ∷ next ∷ pieces) false q e = ap (λ (s : List ℕ). b ∷ s) e

-- a name's byte is above the tab and the line feed
high_name : (name : Name) → 10 < name_byte name
high_name Name.J = omega arith
high_name Name.R = omega arith
high_name Name.H = omega arith
high_name Name.A = omega arith
high_name Name.f = omega arith
high_name Name.I = omega arith
high_name Name.B = omega arith
high_name Name.s = omega arith
high_name Name.K = omega arith

-- no tab and no line feed stands in the texts of terms, contexts, types and names
module _ (mark : ℕ) (low : mark ≤ 10) where
  -- in a term's text
  pub free-text : (t : Term) → Free mark (text t)
  free-text Term.J = (omega arith, tt)
  free-text (Term.R t) = (omega arith, free-text t)
  free-text (Term.H r t) = (omega arith, free-append mark (text r) (text t) (free-text r) (free-text t))
  free-text (Term.A s t) = (omega arith, free-append mark (text s) (text t) (free-text s) (free-text t))
  free-text Term.I = (omega arith, tt)
  free-text (Term.B u s) = (omega arith, free-append mark (text u) (text s) (free-text u) (free-text s))
  free-text (Term.app t u) = (omega arith, free-append mark (text t) (text u) (free-text t) (free-text u))
  free-text (Term.bell k) = let high : 10 < byte_in k = ltb-true 10 (byte_in k) (each-bell (ltb 10) refl k) in (omega arith, tt)

  -- in a sign's text
  free-sign : (g : Sign) → Free mark (sign_text g)
  free-sign (Sign.name a) = let from : 97 ≤ a.letter = a.from_a in (omega arith, tt)
  free-sign Sign.arrow = (omega arith, tt)
  free-sign Sign.bind = (omega arith, tt)
  free-sign Sign.empty = (omega arith, tt)

  -- in a context's or type's text
  pub free-written : (signs : List Sign) → Free mark (written signs)
  free-written [] = tt
  free-written (g ∷ signs) = free-append mark (sign_text g) (written signs) (free-sign g) (free-written signs)

  -- in a name
  pub free-name : (name : Name) → Free mark (name_byte name ∷ [])
  free-name name = let high : 10 < name_byte name = high_name name in (omega arith, tt)
