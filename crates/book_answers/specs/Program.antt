-- The program that plays a book, as a function on the whole of standard input (REQUIREMENTS, Programs).
use Rattle.std.specs.Prelude.{ℕ, List, replicate}
use Rattle.calculus.specs.Limits.{area_limit, fuel_limit}
use Rattle.books.specs.Play.{store_size}
use Rattle.books.specs.Playing.{playing_of}
use Rattle.book_answers.specs.Shown.{shown_book}

-- what the program prints
unfoldable pub book_program : List ℕ → List ℕ
book_program book = shown_book (playing_of book (replicate area_limit 0) (replicate area_limit 0) (replicate store_size 0) fuel_limit)

-- the same in any area
unfoldable pub shown_in : (book area : List ℕ) → List ℕ
shown_in book area = shown_book (playing_of book area (replicate area_limit 0) (replicate store_size 0) fuel_limit)
