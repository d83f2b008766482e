-- What a call with a book answers and leaves, as a relation (REQUIREMENTS, Books); proofs/Exactly.antt shows that it agrees with the function.
use Rattle.std.specs.Prelude.{ℕ, ◌<◌, ◌≤◌, List, ◌∷◌, length}
use Rattle.calculus.specs.Limits.{area_limit, fuel_limit}
use Rattle.calculus.specs.Term.{Term, size}
use Rattle.calculus.specs.Run.{Outcome}
use Rattle.reading.specs.Reply.{Reply}
use Rattle.reading.specs.Area.{holding, cleared}
use Rattle.books.specs.Line.{Line}
use Rattle.books.specs.Book.{ReadsBook}
use Rattle.books.specs.Play.{store_size, Result, Finished, Stopped}
use Rattle.books.specs.Playing.{Played, emptied}

-- areas, store and fuel are within their limits
pub record Admitted (area work store : List ℕ) (fuel : ℕ) : Type 0 where
  pub short : length area ≤ area_limit
  pub room : length area ≤ length work
  pub stored : store_size ≤ length store
  pub fuelled : fuel ≤ fuel_limit

-- `PlaysAs book area work store fuel reply area' work' store'`
pub data PlaysAs (book area work store : List ℕ) (fuel : ℕ) : Reply Played → (area' work' store' : List ℕ) → Type 0 where
  area_too_long : area_limit < length area → PlaysAs book area work store fuel (Reply.refused 1 0) area work store
  work_too_short :
      length area ≤ area_limit → length work < length area → PlaysAs book area work store fuel (Reply.refused 2 0) area work store
  store_too_short :
      length area ≤ area_limit → length store < store_size → PlaysAs book area work store fuel (Reply.refused 2 0) area work store
  fuel_too_high :
      length area ≤ area_limit → length area ≤ length work → store_size ≤ length store → fuel_limit < fuel →
      PlaysAs book area work store fuel (Reply.refused 4 0) area work store
  unread :
      {number line : ℕ} → Admitted area work store fuel → ReadsBook book (Reply.refused number line) →
      PlaysAs book area work store fuel (Reply.refused number line) area work store
  stopped :
      {lines : List Line} {o : Outcome} {n : ℕ} → Admitted area work store fuel → ReadsBook book (Reply.answered lines) →
      Stopped fuel (length area) lines o n →
      PlaysAs book area work store fuel (Reply.answered (Played.played o n 0)) (cleared area) (cleared work) (emptied store)
  finished :
      {lines : List Line} {results : List Result} {name : List ℕ} {v : Term} → Admitted area work store fuel →
      ReadsBook book (Reply.answered lines) → Finished fuel (length area) lines (Result.result name v ∷ results) →
      PlaysAs book area work store fuel (Reply.answered (Played.played Outcome.finished (length lines) (size v)))
      (holding v area) (cleared work) (emptied store)
