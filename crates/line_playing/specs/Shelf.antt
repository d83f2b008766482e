-- Results on a shelf: held end to end in a store, each under the number of its line's name (REQUIREMENTS, Books); what playing one line asks for,
-- and what it leaves.
use Rattle.std.specs.Prelude.{ℕ, suc, ◌+◌, ◌≤◌, ◌≡◌, length, take}
use mathlib.Core.List.{List, [], ◌∷◌, ◌++◌, map, Memᴰ}
use Rattle.calculus.specs.Limits.{area_limit, fuel_limit}
use Rattle.calculus.specs.Term.{Term, text, size}
use Rattle.calculus.specs.Run as runs
use Rattle.books.specs.Piece.{piece_text, uses}
use Rattle.books.specs.Line.{Line, name_in, piece_in, WellFormed}
use Rattle.books.specs.Book.{Given, Book}
use Rattle.books.specs.Play.{store_size, Result, term_in, letters, Play}
use Rattle.book_names.specs.Key.{keys_of}
use Rattle.line_playing.specs.declared.LineEnd.{LineEnd}
use Rattle.line_playing.specs.declared.LineEnd.TheVariants.{Finished, Spent, NoRoom}

abbrev pub name_of : Result → List ℕ
name_of (Result.result name t) = name

-- the texts of the results, in the order of their lines
abbrev pub texts_of : List Result → List ℕ
texts_of [] = []
texts_of (r ∷ earlier) = texts_of earlier ++ text (term_in r)

-- where the first begins, and where each ends
abbrev pub ends_of : List Result → List ℕ
ends_of [] = 0 ∷ []
ends_of (r ∷ earlier) = ends_of earlier ++ (letters (r ∷ earlier) ∷ [])

-- these lines have those results, and the store holds them
pub record Shelved (keys ends store : List ℕ) (used : ℕ) (earlier : List Line) (results : List Result) : Type 0 where
  pub book : Book earlier
  pub named : map name_in earlier ≡ map name_of results
  pub keyed : keys ≡ keys_of earlier
  pub ended : ends ≡ ends_of results
  pub filled : used ≡ letters results
  pub held : take used store ≡ texts_of results
  pub fits : used ≤ store_size
  pub long : length store ≡ store_size

-- lengths and fuel are within their limits
pub record Lent (area work : List ℕ) (fuel : ℕ) : Type 0 where
  pub short : length area ≤ area_limit
  pub room : length area ≤ length work
  pub fuelled : fuel ≤ fuel_limit

-- the line with that piece may be played behind those lines
pub record Playable (piece : List ℕ) (earlier : List Line) (l : Line) : Type 0 where
  pub well_formed : WellFormed l
  pub spelt : piece ≡ piece_text (piece_in l)
  pub given : (name : List ℕ) → Memᴰ name (uses (piece_in l)) → Given name earlier

-- the line finished: its result stands in the area, and in the store behind those of the lines before it
pub record Gives (came : Play) (l : Line) (results : List Result) (used sized : ℕ) (area' store' : List ℕ) : Type 0 where
  pub result : Term
  pub came_to : came ≡ Play.finished (Result.result (name_in l) result ∷ results)
  pub as_large : sized ≡ size result
  pub in_area : take sized area' ≡ text result
  pub in_store : take (used + sized) store' ≡ texts_of (Result.result (name_in l) result ∷ results)
  pub fits : used + sized ≤ store_size

-- what a line came to
abbrev pub LineLeft : LineEnd → (came : Play) (l : Line) (results : List Result) (used : ℕ) (area' store' : List ℕ) → Type 0
LineLeft (Finished sized) came l results used area' store' = Gives came l results used sized area' store'
LineLeft Spent came l results used area' store' = came ≡ Play.stopped runs.Outcome.spent (suc (length results))
LineLeft NoRoom came l results used area' store' = came ≡ Play.stopped runs.Outcome.no_room (suc (length results))
