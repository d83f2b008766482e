-- What playing all lines of a book asks for, and what it leaves (REQUIREMENTS, Books).
use Rattle.std.specs.Prelude.{ℕ, suc, ◌≡◌, List, [], ◌∷◌, length, take}
use Rattle.calculus.specs.Term.{text, size}
use Rattle.calculus.specs.Run as runs
use Rattle.reading.specs.Reply.{Reply}
use Rattle.finishing.specs.Answer.{outcome_of}
use Rattle.finishing.specs.declared.Outcome.{Outcome}
use Rattle.books.specs.Line.{Line}
use Rattle.books.specs.Book.{book_of}
use Rattle.books.specs.Play.{store_size, term_in, Play}
use Rattle.books.specs.PlaysAs.{Admitted}
use Rattle.book_reading.specs.Table.{table_of}
use Rattle.line_playing.specs.Shelf.{Lent}

-- the call is not refused, and the numbers of the names of its lines are kept
pub record BookReady (book keys area work store : List ℕ) (fuel : ℕ) : Type 0 where
  pub admitted : Admitted area work store fuel
  pub lines : List Line
  pub read : book_of book ≡ Reply.answered lines
  pub keyed : keys ≡ table_of (Reply.answered lines)

-- its lines may be played
pub record LinesReady (book keys area work store : List ℕ) (fuel : ℕ) : Type 0 where
  pub lent : Lent area work fuel
  pub long : length store ≡ store_size
  pub lines : List Line
  pub read : book_of book ≡ Reply.answered lines
  pub keyed : keys ≡ table_of (Reply.answered lines)

-- what the lines came to: the last result stands in the area
abbrev pub PlayLeft : Play → Outcome → (line sized : ℕ) (area' : List ℕ) → Type 0
PlayLeft (Play.stopped o n) outcome line sized area' = (outcome_of outcome ≡ o) × (line ≡ n) × (sized ≡ 0)
PlayLeft (Play.finished []) outcome line sized area' = ⊥
PlayLeft (Play.finished (r ∷ earlier)) outcome line sized area' =
    (outcome_of outcome ≡ runs.Outcome.finished) × (line ≡ suc (length earlier)) × (sized ≡ size (term_in r)) × (take sized area' ≡ text (term_in r))
