-- The uses of a piece replaced by a function are replaced in the relation too, where each of its names has something to stand for; and what
-- results say of a name. Assumes nothing.
use Prim.Native.Nat.{ℕ}
use mathlib.Core.Path.{◌≡◌, refl, sym, ◌∙◌, ap}
use mathlib.Core.Bool.{Bool, true, false, cond, true≢false}
use mathlib.Core.List.Memᴰ
use mathlib.Core.List.{
  List,
  [],
  ◌∷◌,
  Memᴰ,
}
use Rattle.calculus.specs.Term.{Term}
use Rattle.slices.specs.Same.{same}
use Rattle.slices.proofs.Same.{same_equal, equal_same}
use Rattle.books.specs.Piece.{Piece, uses, Replaced, replaced}
use Rattle.books.specs.Play.{Result, ResultOf, result_of}

-- ---- pieces

-- a function that gives what each name stands for replaces the uses
replaced_with :
    (Stands : List ℕ → Term → Type 0) (term : List ℕ → Term) (p : Piece) →
    ((name : List ℕ) → Memᴰ name (uses p) → Stands name (term name)) → Replaced Stands p (replaced term p)
replaced_with Stands term Piece.J stands = Replaced.J
replaced_with Stands term (Piece.R p) stands = Replaced.R (replaced_with Stands term p stands)
replaced_with Stands term (Piece.H p q) stands =
    Replaced.H
    (replaced_with Stands term p (λ name m. stands name (Memᴰ.append_left (uses q) m)))
    (replaced_with Stands term q (λ name m. stands name (Memᴰ.append_right (uses p) m)))
replaced_with Stands term (Piece.A p q) stands =
    Replaced.A
    (replaced_with Stands term p (λ name m. stands name (Memᴰ.append_left (uses q) m)))
    (replaced_with Stands term q (λ name m. stands name (Memᴰ.append_right (uses p) m)))
replaced_with Stands term Piece.I stands = Replaced.I
replaced_with Stands term (Piece.B p q) stands =
    Replaced.B
    (replaced_with Stands term p (λ name m. stands name (Memᴰ.append_left (uses q) m)))
    (replaced_with Stands term q (λ name m. stands name (Memᴰ.append_right (uses p) m)))
replaced_with Stands term (Piece.app p q) stands =
    Replaced.app
    (replaced_with Stands term p (λ name m. stands name (Memᴰ.append_left (uses q) m)))
    (replaced_with Stands term q (λ name m. stands name (Memᴰ.append_right (uses p) m)))
replaced_with Stands term (Piece.bell k) stands = Replaced.bell
replaced_with Stands term (Piece.use_of name) stands = Replaced.use_of (stands name (Memᴰ.head refl))

-- where each name stands for something, some term is made of a piece
pub replaced-some :
    (Stands : List ℕ → Term → Type 0) (p : Piece) →
    ((name : List ℕ) → Memᴰ name (uses p) → (t : Term) × Stands name t) → (t : Term) × Replaced Stands p t
replaced-some Stands Piece.J some = (_, Replaced.J)
replaced-some Stands (Piece.R p) some = let (t, r) = replaced-some Stands p some in (_, Replaced.R r)
replaced-some Stands (Piece.H p q) some =
    let (t, r) = replaced-some Stands p (λ name m. some name (Memᴰ.append_left (uses q) m)) in
    let (u, s) = replaced-some Stands q (λ name m. some name (Memᴰ.append_right (uses p) m)) in
    (_, Replaced.H r s)
replaced-some Stands (Piece.A p q) some =
    let (t, r) = replaced-some Stands p (λ name m. some name (Memᴰ.append_left (uses q) m)) in
    let (u, s) = replaced-some Stands q (λ name m. some name (Memᴰ.append_right (uses p) m)) in
    (_, Replaced.A r s)
replaced-some Stands Piece.I some = (_, Replaced.I)
replaced-some Stands (Piece.B p q) some =
    let (t, r) = replaced-some Stands p (λ name m. some name (Memᴰ.append_left (uses q) m)) in
    let (u, s) = replaced-some Stands q (λ name m. some name (Memᴰ.append_right (uses p) m)) in
    (_, Replaced.B r s)
replaced-some Stands (Piece.app p q) some =
    let (t, r) = replaced-some Stands p (λ name m. some name (Memᴰ.append_left (uses q) m)) in
    let (u, s) = replaced-some Stands q (λ name m. some name (Memᴰ.append_right (uses p) m)) in
    (_, Replaced.app r s)
replaced-some Stands (Piece.bell k) some = (_, Replaced.bell)
replaced-some Stands (Piece.use_of name) some = let (t, s) = some name (Memᴰ.head refl) in (t, Replaced.use_of s)

-- ---- results

-- by whether the last result has that name
abbrev by_last : (name : List ℕ) (t : Term) (earlier : List Result) → Bool → Term
by_last name t earlier b = cond b t (result_of earlier name)

-- a name with a result has that which the function finds
result-found : (results : List Result) (name : List ℕ) (t : Term) → ResultOf results name t → ResultOf results name (result_of results name)
result-found [] name t m = absurd (Memᴰ.not-nil m)
result-found (Result.result k u ∷ earlier) name t m = go (same k name) refl m (result-found earlier name t)
  where
    go :
        (b : Bool) → same k name ≡ b → ResultOf (Result.result k u ∷ earlier) name t →
        (ResultOf earlier name t → ResultOf earlier name (result_of earlier name)) →
        ResultOf (Result.result k u ∷ earlier) name (by_last name u earlier b)
    go true e m before = Memᴰ.head (ap (λ (n : List ℕ). Result.result n u) (sym (same_equal k name e)))
    go false e (Memᴰ.head here) before =
        let named : k ≡ name = cc in
        absurd (true≢false (sym (equal_same k name named) ∙ e))
    go false e (Memᴰ.tail m) before = Memᴰ.tail (before m)

-- no two results have one name
abbrev pub OneEach : List Result → Type 0
OneEach results = (name : List ℕ) (t u : Term) → ResultOf results name t → ResultOf results name u → t ≡ u

-- where no two have one name, the function finds the result of each
pub result-one : (results : List Result) (name : List ℕ) (t : Term) → OneEach results → ResultOf results name t → result_of results name ≡ t
result-one results name t one m = one name (result_of results name) t (result-found results name t m) m

-- each name that a piece uses has a result: the function that finds results replaces its uses
pub replaced_by :
    (results : List Result) (p : Piece) →
    ((name : List ℕ) → Memᴰ name (uses p) → (t : Term) × ResultOf results name t) →
    Replaced (ResultOf results) p (replaced (result_of results) p)
replaced_by results p there =
    replaced_with (ResultOf results) (result_of results) p
    (λ name m. let (t, r) = there name m in result-found results name t r)
