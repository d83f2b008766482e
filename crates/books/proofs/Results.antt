-- The results of lines that finished, where the lines are a book: each name that was given has one, and none has two. By induction on the
-- lines. Assumes nothing.
use Prim.Native.Nat.{ℕ}
use mathlib.Core.Path.{◌≡◌, ap}
use mathlib.Core.List.Memᴰ
use mathlib.Core.List.{List, ◌∷◌, Memᴰ}
use Rattle.calculus.specs.Term.{Term}
use Rattle.books.specs.Piece.{uses, Replaced, replaced}
use Rattle.books.specs.Line.{Line, name_in, piece_in}
use Rattle.books.specs.Book.{Given, Book}
use Rattle.books.specs.Play.{Result, ResultOf, result_of, Finished}
use Rattle.books.proofs.Turned.{replaced-one}
use Rattle.books.proofs.Replacing.{OneEach, replaced_by}

-- what has a result is a line's name
pub result-given :
    {fuel area : ℕ} {lines : List Line} {results : List Result} (name : List ℕ) (t : Term) → Finished fuel area lines results →
    ResultOf results name t → Given name lines
result-given name t Finished.none m = absurd (Memᴰ.not-nil m)
result-given name t (Finished.line {l = l} f g) (Memᴰ.head e) = let named : name ≡ name_in l = cc in Memᴰ.head named
result-given name t (Finished.line f g) (Memᴰ.tail m) = Memᴰ.tail (result-given name t f m)

-- a line's name has a result
pub given-result :
    {fuel area : ℕ} {lines : List Line} {results : List Result} (name : List ℕ) → Finished fuel area lines results →
    Given name lines → (t : Term) × ResultOf results name t
given-result name Finished.none m = absurd (Memᴰ.not-nil m)
given-result name (Finished.line {v = v} f g) (Memᴰ.head e) = (v, Memᴰ.head (ap (λ (n : List ℕ). Result.result n v) e))
given-result name (Finished.line f g) (Memᴰ.tail m) =
    let (t, r) = given-result name f m in (t, Memᴰ.tail r)

-- no two results have one name
pub finished-one :
    {fuel area : ℕ} {lines : List Line} {results : List Result} → Book lines → Finished fuel area lines results → OneEach results
finished-one Book.empty Finished.none name t u m n = absurd (Memᴰ.not-nil m)
finished-one (Book.line well few new there b) (Finished.line f g) name t u (Memᴰ.head d) (Memᴰ.head e) = cc
finished-one (Book.line well few new there b) (Finished.line f g) name t u (Memᴰ.head d) (Memᴰ.tail n) =
    absurd (new (Memᴰ.cast (cc) (result-given name u f n)))
finished-one (Book.line well few new there b) (Finished.line f g) name t u (Memᴰ.tail m) (Memᴰ.head e) =
    absurd (new (Memᴰ.cast (cc) (result-given name t f m)))
finished-one (Book.line well few new there b) (Finished.line f g) name t u (Memᴰ.tail m) (Memᴰ.tail n) =
    finished-one b f name t u m n

-- the lines earlier than the last are a book
pub earlier-book : {l : Line} {earlier : List Line} → Book (l ∷ earlier) → Book earlier
earlier-book (Book.line well few new there b) = b

-- each name that the last line uses was given
pub uses-given :
    {l : Line} {earlier : List Line} → Book (l ∷ earlier) → (name : List ℕ) → Memᴰ name (uses (piece_in l)) → Given name earlier
uses-given (Book.line well few new there b) = there

module _
    {fuel area : ℕ} {l : Line} {earlier : List Line} {results : List Result} (book : Book (l ∷ earlier))
    (f : Finished fuel area earlier results)
  where
    -- the uses of the next line, replaced as the function does it
    pub line-replaced : Replaced (ResultOf results) (piece_in l) (replaced (result_of results) (piece_in l))
    line-replaced = replaced_by results (piece_in l) (λ name m. given-result name f (uses-given book name m))

    -- there is no other way
    pub line-replaced-one : (t : Term) → Replaced (ResultOf results) (piece_in l) t → replaced (result_of results) (piece_in l) ≡ t
    line-replaced-one t r =
        replaced-one (ResultOf results) (finished-one (earlier-book book) f) (piece_in l) (replaced (result_of results) (piece_in l)) t
        line-replaced
        r
