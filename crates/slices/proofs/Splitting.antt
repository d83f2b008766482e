-- Where bytes are cut at a mark: up to the first mark goes the first piece, and bytes in which the mark does not stand make the first
-- piece longer. Assumes nothing.
use Prim.Native.Nat.{ℕ}
use mathlib.Core.Path.{◌≡◌, refl, sym, ◌∙◌, ap, ap₂}
use mathlib.Core.Bool.{Bool, true, false}
use mathlib.Core.List.{List, [], ◌∷◌, ◌++◌, append-nil}
use lib.Dec.{eqb}
use borrow.Author.Tests.{eq-eqb, ne_eqb}
use Rattle.slices.specs.Split.{cut_or, split}

-- the mark does not stand in the bytes
abbrev pub Free : (mark : ℕ) → List ℕ → Type 0
Free mark [] = Unit {0}
Free mark (b ∷ bytes) = (b ≡ mark → ⊥) × Free mark bytes

-- a mark that stands in neither of two texts does not stand in both together
pub free-append : (mark : ℕ) (s t : List ℕ) → Free mark s → Free mark t → Free mark (s ++ t)
free-append mark [] t first second = second
free-append mark (b ∷ s) t first second = (first.0, free-append mark s t first.1 second)

-- the first piece of some bytes, and the others
pub record Pieces (mark : ℕ) (bytes : List ℕ) : Type 0 where
  pub first : List ℕ
  pub others : List (List ℕ)
  pub cut : split mark bytes ≡ first ∷ others

-- there is always a first piece
pub pieces : (mark : ℕ) (bytes : List ℕ) → Pieces mark bytes
pieces mark [] = record { first = []; others = []; cut = refl }
pieces mark (b ∷ bytes) = longer (eqb b mark) refl (pieces mark bytes)
  where
    longer : (t : Bool) → eqb b mark ≡ t → Pieces mark bytes → Pieces mark (b ∷ bytes)
    longer true e p = record { first = []; others = split mark bytes; cut = ap (λ (u : Bool). cut_or u b (split mark bytes)) e }
    longer false e p =
        record {
          first = b ∷ p.first;
          others = p.others;
          cut = ap₂ (λ (u : Bool) (ps : List (List ℕ)). cut_or u b ps) e p.cut;
        }

-- bytes in which the mark does not stand make the first piece longer
pub split-front : (mark : ℕ) (front rest : List ℕ) {piece : List ℕ} {others : List (List ℕ)} → Free mark front
    → split mark rest ≡ piece ∷ others → split mark (front ++ rest) ≡ (front ++ piece) ∷ others
split-front mark [] rest free e = e
split-front mark (b ∷ front) rest free e =
    ap₂ (λ (t : Bool) (ps : List (List ℕ)). cut_or t b ps) (ne_eqb b mark free.0) (split-front mark front rest free.1 e)

-- up to the first mark goes the first piece
pub split-piece : (mark : ℕ) (piece rest : List ℕ) → Free mark piece → split mark (piece ++ (mark ∷ rest)) ≡ piece ∷ split mark rest
split-piece mark piece rest free =
    split-front mark piece (mark ∷ rest) free (ap (λ (t : Bool). cut_or t mark (split mark rest)) (eq-eqb mark mark refl))
    ∙ ap (λ (p : List ℕ). p ∷ split mark rest) (append-nil piece)

-- bytes in which the mark does not stand are one piece
pub split-last : (mark : ℕ) (piece : List ℕ) → Free mark piece → split mark piece ≡ piece ∷ []
split-last mark piece free =
    ap (split mark) (sym (append-nil piece))
    ∙ split-front mark piece [] free refl
    ∙ ap (λ (p : List ℕ). p ∷ []) (append-nil piece)

-- some bytes whose first piece has a property
pub record First (mark : ℕ) (P : List ℕ → Type 0) (bytes : List ℕ) : Type 0 where
  pub first : List ℕ
  pub others : List (List ℕ)
  pub cut : split mark bytes ≡ first ∷ others
  pub holds : P first

-- what follows from the property holds of the first piece too
pub first-map :
    {mark : ℕ} {P : List ℕ → Type 0} {bytes : List ℕ} (Q : List ℕ → Type 0) → ((p : List ℕ) → P p → Q p) → First mark P bytes →
    First mark Q bytes
first-map Q h f = record { first = f.first; others = f.others; cut = f.cut; holds = h f.first f.holds }

-- the first piece of bytes with one more in front: empty, or that byte longer
first_cons :
    (mark : ℕ) (P Q : List ℕ → Type 0) (b : ℕ) (bytes : List ℕ) → Q [] → ((p : List ℕ) → P p → Q (b ∷ p)) → First mark P bytes →
    First mark Q (b ∷ bytes)
first_cons mark P Q b bytes empty more f = go (eqb b mark) refl
  where
    go : (t : Bool) → eqb b mark ≡ t → First mark Q (b ∷ bytes)
    go true e = record { first = []; others = split mark bytes; cut = ap (λ (u : Bool). cut_or u b (split mark bytes)) e; holds = empty }
    go false e =
        record {
          first = b ∷ f.first;
          others = f.others;
          cut = ap₂ (λ (u : Bool) (ps : List (List ℕ)). cut_or u b ps) e f.cut;
          holds = more f.first f.holds;
        }

-- ---- bytes that are cut twice: at an outer mark, and each piece at an inner one

module _ (inner : ℕ) where
  -- a byte other than the mark makes the first piece longer
  longer :
      (b : ℕ) (bytes first : List ℕ) (others : List (List ℕ)) → (b ≡ inner → ⊥) → split inner bytes ≡ first ∷ others →
      split inner (b ∷ bytes) ≡ (b ∷ first) ∷ others
  longer b bytes first others other e = ap₂ (λ (t : Bool) (ps : List (List ℕ)). cut_or t b ps) (ne_eqb b inner other) e

  -- the inner mark does not cut the piece
  abbrev pub Uncut : List ℕ → Type 0
  Uncut p = split inner p ≡ p ∷ []

  -- it does not, or cuts off s first
  pub data Begun (s p : List ℕ) : Type 0 where
    uncut : Uncut p → Begun s p
    begun : (q : List ℕ) → split inner p ≡ s ∷ split inner q → Begun s p

  module _ (outer : ℕ) where
    -- where the inner mark stands nowhere, it does not cut the first piece
    pub first-uncut : (s : List ℕ) → Free inner s → First outer Uncut s
    first-uncut [] free = record { first = []; others = []; cut = refl; holds = refl }
    first-uncut (b ∷ s) free = first_cons outer Uncut Uncut b s refl (λ p e. longer b p p [] free.0 e) (first-uncut s free.1)

    -- where it first stands behind s, the first piece ends within s, or s is cut off first
    pub first-begun : (inner ≡ outer → ⊥) → (s rest : List ℕ) → Free inner s → First outer (Begun s) (s ++ (inner ∷ rest))
    first-begun other [] rest free =
        let p = pieces outer rest in
        record {
          first = inner ∷ p.first;
          others = p.others;
          cut = ap₂ (λ (u : Bool) (ps : List (List ℕ)). cut_or u inner ps) (ne_eqb inner outer other) p.cut;
          holds = Begun.begun p.first (ap (λ (u : Bool). cut_or u inner (split inner p.first)) (eq-eqb inner inner refl));
        }
    first-begun other (b ∷ s) rest free =
        first_cons outer (Begun s) (Begun (b ∷ s)) b (s ++ (inner ∷ rest)) (Begun.uncut refl) more (first-begun other s rest free.1)
      where
        more : (p : List ℕ) → Begun s p → Begun (b ∷ s) (b ∷ p)
        more p (Begun.uncut e) = Begun.uncut (longer b p p [] free.0 e)
        more p (Begun.begun q e) = Begun.begun q (longer b p s (split inner q) free.0 e)
