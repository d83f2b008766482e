-- Books, and what is read of any bytes as a book (REQUIREMENTS, Books), as a function and as a relation; proofs/Reading.antt shows that they
-- agree. A book is written as a list with its last line in front, so that the lines earlier than a line are those behind it.
use Rattle.std.specs.Prelude.{ℕ, suc, ◌<◌, ◌≤◌, ◌≡◌, Bool, true, false, cond, not, ◌&&◌, ltb, leb, eqb, length}
use mathlib.Core.List.{List, [], ◌∷◌, ◌++◌, map, Memᴰ}
use Rattle.std.proofs.Math.Option.{Option, none, some}
use Rattle.slices.specs.Same.{same}
use Rattle.slices.specs.Split.{line_feed, lines, last_byte}
use Rattle.reading.specs.Reply.{Reply, refuse_if, onward}
use Rattle.books.specs.Piece.{uses}
use Rattle.books.specs.Line.{Line, name_in, piece_in, line_text, WellFormed, line_of}

-- ---- limits

-- the most bytes
abbrev pub book_limit : ℕ
book_limit = 65536

-- the most lines
abbrev pub line_limit : ℕ
line_limit = 256

-- ---- relations

-- one of the lines has that name
abbrev pub Given : (name : List ℕ) → List Line → Type 0
Given name earlier = Memᴰ name (map name_in earlier)

-- lines that may stand one behind the other: each with a name of its own, and using names that were given earlier
pub data Book : List Line → Type 0 where
  empty : Book []
  line :
      {l : Line} {earlier : List Line} →
      WellFormed l → length earlier < line_limit → (Given (name_in l) earlier → ⊥) →
      ((name : List ℕ) → Memᴰ name (uses (piece_in l)) → Given name earlier) → Book earlier → Book (l ∷ earlier)

-- the texts of the lines, in the order in which they stand in the book
abbrev pub bodies : List Line → List (List ℕ)
bodies [] = []
bodies (l ∷ earlier) = bodies earlier ++ (line_text l ∷ [])

-- the bytes are the text of that line
pub record Spells (body : List ℕ) (l : Line) : Type 0 where
  pub well_formed : WellFormed l
  pub spelt : body ≡ line_text l

-- `BadLine earlier body number`: behind those earlier lines the line is bad, by that number
pub data BadLine (earlier : List Line) (body : List ℕ) : ℕ → Type 0 where
  past_the_last : line_limit ≤ length earlier → BadLine earlier body 25
  malformed : length earlier < line_limit → ((l : Line) → Spells body l → ⊥) → BadLine earlier body 25
  name-given : {l : Line} → length earlier < line_limit → Spells body l → Given (name_in l) earlier → BadLine earlier body 26
  name_unknown :
      {l : Line} {name : List ℕ} → length earlier < line_limit → Spells body l → (Given (name_in l) earlier → ⊥) →
      Memᴰ name (uses (piece_in l)) → (Given name earlier → ⊥) → BadLine earlier body 27

-- the last byte is 10
abbrev pub EndsLine : List ℕ → Type 0
EndsLine bytes = (front : List ℕ) × (bytes ≡ front ++ (line_feed ∷ []))

-- `ReadsBook bytes reply`: the lines of the book, or the first bad line, which stands behind lines that are a book
pub data ReadsBook (bytes : List ℕ) : Reply (List Line) → Type 0 where
  too_long : book_limit < length bytes → ReadsBook bytes (Reply.refused 10 0)
  empty : bytes ≡ [] → ReadsBook bytes (Reply.refused 11 0)
  no_line-end : length bytes ≤ book_limit → (bytes ≡ [] → ⊥) → (EndsLine bytes → ⊥) → ReadsBook bytes (Reply.refused 12 0)
  bad-line :
      {number : ℕ} {earlier : List Line} {body : List ℕ} (rest : List (List ℕ)) →
      length bytes ≤ book_limit → EndsLine bytes → Book earlier → lines bytes ≡ bodies earlier ++ (body ∷ rest) →
      BadLine earlier body number → ReadsBook bytes (Reply.refused number (suc (length earlier)))
  good :
      {book : List Line} → length bytes ≤ book_limit → EndsLine bytes → Book book → lines bytes ≡ bodies book →
      ReadsBook bytes (Reply.answered book)

-- ---- functions

abbrev pub given : (name : List ℕ) → List Line → Bool
given name [] = false
given name (l ∷ earlier) = cond (same (name_in l) name) true (given name earlier)

abbrev pub all_given : List (List ℕ) → List Line → Bool
all_given [] earlier = true
all_given (name ∷ names) earlier = given name earlier && all_given names earlier

-- the line, or its number and which line it is
abbrev pub judged : (earlier : List Line) → Option Line → Reply Line
judged earlier none = Reply.refused 25 (suc (length earlier))
judged earlier (some l) =
    cond (given (name_in l) earlier) (Reply.refused 26 (suc (length earlier)))
    (cond (all_given (uses (piece_in l)) earlier) (Reply.answered l) (Reply.refused 27 (suc (length earlier))))

abbrev pub next_line : (earlier : List Line) (body : List ℕ) → Reply Line
next_line earlier body = cond (leb line_limit (length earlier)) (Reply.refused 25 (suc (length earlier))) (judged earlier (line_of body))

-- the lines that these bodies are, behind earlier ones
abbrev pub book_from : (earlier : List Line) → List (List ℕ) → Reply (List Line)
book_from earlier [] = Reply.answered earlier
book_from earlier (body ∷ rest) = onward (next_line earlier body) (λ l. book_from (l ∷ earlier) rest)

unfoldable pub book_of : List ℕ → Reply (List Line)
book_of bytes =
    refuse_if (ltb book_limit (length bytes)) 10
    (refuse_if (eqb (length bytes) 0) 11
    (refuse_if (not (eqb (last_byte bytes) line_feed)) 12
    (book_from [] (lines bytes))))
