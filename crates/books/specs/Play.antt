-- What becomes of the lines of a book (REQUIREMENTS, Books), as a function and as a relation; proofs/Plays.antt shows that they agree. Results
-- are written as a list with the last in front, as lines are.
use Rattle.std.specs.Prelude.{ℕ, suc, ◌+◌, ◌<◌, ◌≤◌, ◌≡◌, cond, ltb, length}
use mathlib.Core.List.{List, [], ◌∷◌, Memᴰ}
use Rattle.calculus.specs.Term.{Term, size}
use Rattle.calculus.specs.Run.{Outcome, Run, run, Runs, outcome, reached}
use Rattle.slices.specs.Same.{same}
use Rattle.books.specs.Piece.{Replaced, replaced}
use Rattle.books.specs.Line.{Line, name_in, piece_in}

-- a store's bytes, as many as the letters that all results may have together
abbrev pub store_size : ℕ
store_size = 65536

-- the finished result of the line of that name
pub data Result : Type 0 where
  result : (name : List ℕ) (term : Term) → Result

abbrev pub term_in : Result → Term
term_in (Result.result name t) = t

-- how many letters the results have together
abbrev pub letters : List Result → ℕ
letters [] = 0
letters (r ∷ earlier) = letters earlier + size (term_in r)

-- ---- relations

-- that term is the result of the line of that name
abbrev pub ResultOf : List Result → (name : List ℕ) → Term → Type 0
ResultOf results name t = Memᴰ (Result.result name t) results

-- `LineGives fuel area results l v`: behind those results the line finishes with v, and the store has room for it
pub record LineGives (fuel area : ℕ) (results : List Result) (l : Line) (v : Term) : Type 0 where
  pub start : Term
  pub way : Run
  pub made : Replaced (ResultOf results) (piece_in l) start
  pub fits : size start ≤ area
  pub runs : Runs fuel area 0 start way
  pub ends : outcome way ≡ Outcome.finished
  pub reaches : reached start way ≡ v
  pub room : letters results + size v ≤ store_size

-- `LineStops fuel area results l o`: it does not, and its outcome is o
pub data LineStops (fuel area : ℕ) (results : List Result) (l : Line) : Outcome → Type 0 where
  too_large : {t : Term} → Replaced (ResultOf results) (piece_in l) t → area < size t → LineStops fuel area results l Outcome.no_room
  unfinished :
      {t : Term} {r : Run} → Replaced (ResultOf results) (piece_in l) t → size t ≤ area → Runs fuel area 0 t r →
      (outcome r ≡ Outcome.finished → ⊥) → LineStops fuel area results l (outcome r)
  store-full :
      {t : Term} {r : Run} → Replaced (ResultOf results) (piece_in l) t → size t ≤ area → Runs fuel area 0 t r →
      outcome r ≡ Outcome.finished → store_size < letters results + size (reached t r) → LineStops fuel area results l Outcome.no_room

-- `Finished fuel area lines results`: every line finishes, with those results
pub data Finished (fuel area : ℕ) : List Line → List Result → Type 0 where
  none : Finished fuel area [] []
  line :
      {l : Line} {earlier : List Line} {results : List Result} {v : Term} →
      Finished fuel area earlier results → LineGives fuel area results l v →
      Finished fuel area (l ∷ earlier) (Result.result (name_in l) v ∷ results)

-- `Stopped fuel area lines o n`: line n is the first that does not finish, and its outcome is o
pub data Stopped (fuel area : ℕ) : List Line → Outcome → ℕ → Type 0 where
  here :
      {l : Line} {earlier : List Line} {results : List Result} {o : Outcome} →
      Finished fuel area earlier results → LineStops fuel area results l o → Stopped fuel area (l ∷ earlier) o (suc (length earlier))
  before : {l : Line} {earlier : List Line} {o : Outcome} {n : ℕ} → Stopped fuel area earlier o n → Stopped fuel area (l ∷ earlier) o n

-- ---- functions

-- the result of the line of that name; `J` where there is none, which is no book's case
abbrev pub result_of : List Result → (name : List ℕ) → Term
result_of [] name = Term.J
result_of (Result.result m t ∷ earlier) name = cond (same m name) t (result_of earlier name)

-- the results of all lines, or the outcome and the number of the first line that does not finish
pub data Play : Type 0 where
  finished : (results : List Result) → Play
  stopped : Outcome → (line : ℕ) → Play

-- the result v, where the store has room for it
abbrev pub kept : (name : List ℕ) (v : Term) (results : List Result) → Play
kept name v results =
    cond (ltb store_size (letters results + size v)) (Play.stopped Outcome.no_room (suc (length results)))
    (Play.finished (Result.result name v ∷ results))

-- a line whose run ended so, at that term
abbrev pub ended : Outcome → (name : List ℕ) (v : Term) (results : List Result) → Play
ended Outcome.finished name v results = kept name v results
ended Outcome.spent name v results = Play.stopped Outcome.spent (suc (length results))
ended Outcome.no_room name v results = Play.stopped Outcome.no_room (suc (length results))

-- a line whose uses were replaced
abbrev pub play_term : (fuel area : ℕ) (name : List ℕ) (t : Term) (results : List Result) → Play
play_term fuel area name t results =
    cond (ltb area (size t)) (Play.stopped Outcome.no_room (suc (length results)))
    (ended (outcome (run fuel area t)) name (reached t (run fuel area t)) results)

-- one line more
abbrev pub further : (fuel area : ℕ) → Line → Play → Play
further fuel area l (Play.stopped o n) = Play.stopped o n
further fuel area l (Play.finished results) = play_term fuel area (name_in l) (replaced (result_of results) (piece_in l)) results

abbrev pub play : (fuel area : ℕ) → List Line → Play
play fuel area [] = Play.finished []
play fuel area (l ∷ earlier) = further fuel area l (play fuel area earlier)
