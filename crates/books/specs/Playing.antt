-- What a call with a book answers and leaves in the areas and the store, for any call (REQUIREMENTS, Books).
use Rattle.std.specs.Prelude.{ℕ, suc, ◌||◌, List, [], ◌∷◌, ◌++◌, ltb, length, drop, replicate}
use Rattle.calculus.specs.Limits.{area_limit, fuel_limit}
use Rattle.calculus.specs.Term.{size}
use Rattle.calculus.specs.Run.{Outcome}
use Rattle.reading.specs.Reply.{Reply, refuse_if}
use Rattle.reading.specs.Area.{holding, cleared}
use Rattle.books.specs.Line.{Line}
use Rattle.books.specs.Book.{book_of}
use Rattle.books.specs.Play.{store_size, term_in, Play, play}

-- the outcome, the line, and the size of the result, 0 where there is none
pub data Played : Type 0 where
  played : Outcome → (line size : ℕ) → Played

-- the reply, the two areas and the store at exit
pub data After : Type 0 where
  after : (reply : Reply Played) (area work store : List ℕ) → After

-- zeros, and what stood behind them
unfoldable pub emptied : (store : List ℕ) → List ℕ
emptied store = replicate store_size 0 ++ drop store_size store

-- 1, 2 and 4, else the other reply
abbrev pub refused_call : {X : Type 0} (area work store : List ℕ) (fuel : ℕ) → Reply X → Reply X
refused_call area work store fuel other =
    refuse_if (ltb area_limit (length area)) 1
    (refuse_if (ltb (length work) (length area) || ltb (length store) store_size) 2
    (refuse_if (ltb fuel_limit fuel) 4 other))

-- what the lines came to; no results are no book's case
abbrev pub left_by : Play → (area work store : List ℕ) → After
left_by (Play.stopped o n) area work store = After.after (Reply.answered (Played.played o n 0)) (cleared area) (cleared work) (emptied store)
left_by (Play.finished []) area work store =
    After.after (Reply.answered (Played.played Outcome.finished 0 0)) (cleared area) (cleared work) (emptied store)
left_by (Play.finished (r ∷ earlier)) area work store =
    After.after (Reply.answered (Played.played Outcome.finished (suc (length earlier)) (size (term_in r))))
    (holding (term_in r) area) (cleared work) (emptied store)

-- a refusal leaves everything as it is
abbrev pub play_admitted : Reply (List Line) → (area work store : List ℕ) (fuel : ℕ) → After
play_admitted (Reply.refused number place) area work store fuel = After.after (Reply.refused number place) area work store
play_admitted (Reply.answered lines) area work store fuel = left_by (play fuel (length area) lines) area work store

unfoldable pub playing_of : (book area work store : List ℕ) (fuel : ℕ) → After
playing_of book area work store fuel = play_admitted (refused_call area work store fuel (book_of book)) area work store fuel
