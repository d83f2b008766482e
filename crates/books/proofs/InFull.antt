-- A line written out in full is one term, which every line of a book has, and it turns into the line's result, which is normal. Carried by
-- the laws of replacing (`Turned`), by induction on the lines. Assumes nothing.
use Prim.Native.Nat.{ℕ}
use mathlib.Core.Path.{◌≡◌, refl, sym, ◌∙◌, ap, subst}
use mathlib.Core.Logic.{inl, inr}
use mathlib.Core.Bool.{Bool, true, false, true≢false}
use mathlib.Core.List.Memᴰ
use mathlib.Core.List.{List, [], ◌∷◌}
use Rattle.calculus.specs.Term.{Term, Normal}
use Rattle.calculus.specs.Turning.{Turn}
use Rattle.calculus.specs.Run.{run, outcome, reached}
use Rattle.calculus.proofs.Confluence.{turn_trans}
use Rattle.calculus.proofs.Runs.{runs-run, finished-normal as run_normal}
use Rattle.calculus.proofs.Results.{reached-turn}
use Rattle.slices.specs.Same.{same}
use Rattle.slices.proofs.Same.{same_equal, equal_same}
use Rattle.books.specs.Line.{Line, name_in, piece_in}
use Rattle.books.specs.Book.{Given, Book}
use Rattle.books.specs.InFull.{StandsFor, InFull}
use Rattle.books.specs.Play.{Result, ResultOf, LineGives, Finished}
use Rattle.books.proofs.Turned.{replaced-turn, replaced-one}
use Rattle.books.proofs.Replacing.{replaced-some}
use Rattle.books.proofs.Results.{result-given, uses-given, earlier-book}

-- ---- one term

-- a name stands for one term
pub stands_one : (lines : List Line) (name : List ℕ) (t u : Term) → StandsFor lines name t → StandsFor lines name u → t ≡ u
stands_one [] name t u a b = absurd a
stands_one (l ∷ earlier) name t u (inl a) (inl b) = replaced-one (StandsFor earlier) (stands_one earlier) (piece_in l) t u a.1 b.1
stands_one (l ∷ earlier) name t u (inl a) (inr b) = absurd (b.0 a.0)
stands_one (l ∷ earlier) name t u (inr a) (inl b) = absurd (a.0 b.0)
stands_one (l ∷ earlier) name t u (inr a) (inr b) = stands_one earlier name t u a.1 b.1

-- the last line written out in full is one term
pub in_full-one : (lines : List Line) (t u : Term) → InFull lines t → InFull lines u → t ≡ u
in_full-one [] t u a b = absurd a
in_full-one (l ∷ earlier) t u a b = replaced-one (StandsFor earlier) (stands_one earlier) (piece_in l) t u a b

-- ---- which every line of a book has

-- in a book, a name that was given stands for a term
stands-some : {lines : List Line} → Book lines → (name : List ℕ) → Given name lines → (t : Term) × StandsFor lines name t
stands-some Book.empty name m = absurd (Memᴰ.not-nil m)
stands-some (Book.line {l = l} {earlier = earlier} well few new there b) name m =
    go (same (name_in l) name) refl m (stands-some b)
  where
    go :
        (here : Bool) → same (name_in l) name ≡ here → Given name (l ∷ earlier) →
        ((name : List ℕ) → Given name earlier → (t : Term) × StandsFor earlier name t) →
        (t : Term) × StandsFor (l ∷ earlier) name t
    go true e m before =
        let (t, r) = replaced-some (StandsFor earlier) (piece_in l) (λ n k. before n (there n k)) in
        (t, inl (same_equal (name_in l) name e, r))
    go false e (Memᴰ.head is) before = absurd (true≢false (sym (equal_same (name_in l) name (sym is)) ∙ e))
    go false e (Memᴰ.tail k) before =
        let (t, s) = before name k in
        (t, inr (λ is. true≢false (sym (equal_same (name_in l) name is) ∙ e), s))

-- the last line of a book can be written out in full
pub in_full-some : (l : Line) (earlier : List Line) → Book (l ∷ earlier) → (t : Term) × InFull (l ∷ earlier) t
in_full-some l earlier book =
    replaced-some (StandsFor earlier) (piece_in l) (λ name m. stands-some (earlier-book book) name (uses-given book name m))

-- ---- and its result

-- what a line gives is normal
gives_normal : {fuel area : ℕ} {results : List Result} {l : Line} {v : Term} → LineGives fuel area results l v → Normal v
gives_normal {fuel} {area} g =
    let same_way : run fuel area g.start ≡ g.way = runs-run g.runs in
    let reaches = ap (reached g.start) same_way ∙ g.reaches in
    subst Normal reaches (run_normal fuel area g.start (ap outcome same_way ∙ g.ends))

-- what was made of the line turns into what it gives
gives_turn : {fuel area : ℕ} {results : List Result} {l : Line} {v : Term} (g : LineGives fuel area results l v) → Turn g.start v
gives_turn {fuel} {area} g =
    let reaches = ap (reached g.start) (runs-run g.runs) ∙ g.reaches in
    subst (Turn g.start) reaches (reached-turn fuel area g.start)

-- each name's term turns into its result
stands-turn :
    {fuel area : ℕ} {lines : List Line} {results : List Result} → Book lines → Finished fuel area lines results →
    (name : List ℕ) (t v : Term) → StandsFor lines name t → ResultOf results name v → Turn t v
stands-turn Book.empty Finished.none name t v a m = absurd a
stands-turn
    (Book.line {l = l} {earlier = earlier} well few new there b)
    (Finished.line {results = results} {v = w} f g)
    name
    t
    v
    (inl a)
    (Memᴰ.head e) =
    let result : w ≡ v = cc in
    subst (Turn t) result
    (turn_trans
    (replaced-turn (StandsFor earlier) (ResultOf results) (stands-turn b f) (piece_in l) t g.start a.1 g.made)
    (gives_turn g))
stands-turn (Book.line well few new there b) (Finished.line f g) name t v (inl a) (Memᴰ.tail m) =
    absurd (new (Memᴰ.cast a.0 (result-given name v f m)))
stands-turn (Book.line {l = l} well few new there b) (Finished.line f g) name t v (inr a) (Memᴰ.head e) =
    let named : name_in l ≡ name = cc in absurd (a.0 named)
stands-turn (Book.line well few new there b) (Finished.line f g) name t v (inr a) (Memᴰ.tail m) =
    stands-turn b f name t v a.1 m

-- the last line, written out in full, turns into its result
pub finished-turn :
    (fuel area : ℕ) (l : Line) (earlier : List Line) (results : List Result) (name : List ℕ) (v t : Term) → Book (l ∷ earlier) →
    Finished fuel area (l ∷ earlier) (Result.result name v ∷ results) → InFull (l ∷ earlier) t → Turn t v
finished-turn fuel area l earlier results name v t book (Finished.line f g) full =
    turn_trans
    (replaced-turn (StandsFor earlier) (ResultOf results) (stands-turn (earlier-book book) f) (piece_in l) t g.start full g.made)
    (gives_turn g)

-- a result is normal
pub finished-normal :
    (fuel area : ℕ) (lines : List Line) (results : List Result) (name : List ℕ) (v : Term) →
    Finished fuel area lines (Result.result name v ∷ results) → Normal v
finished-normal fuel area lines results name v (Finished.line f g) = gives_normal g
