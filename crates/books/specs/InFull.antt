-- Lines written out in full (REQUIREMENTS, Books): each use replaced by the line that it stands for, itself written out in full. The term may be
-- of any size, and no code builds it.
use Rattle.std.specs.Prelude.{ℕ, ◌≡◌, ◌⊎◌, List, [], ◌∷◌}
use Rattle.calculus.specs.Term.{Term}
use Rattle.reading.specs.Reply.{Reply}
use Rattle.books.specs.Piece.{Replaced}
use Rattle.books.specs.Line.{Line, name_in, piece_in}
use Rattle.books.specs.Book.{ReadsBook}

-- `StandsFor lines name t`: t is the line of that name, written out in full
abbrev pub StandsFor : List Line → (name : List ℕ) → Term → Type 0
StandsFor [] name t = ⊥
StandsFor (l ∷ earlier) name t =
    ((name_in l ≡ name) × Replaced (StandsFor earlier) (piece_in l) t) ⊎ (((name_in l ≡ name) → ⊥) × StandsFor earlier name t)

-- `InFull lines t`: t is the last line, written out in full
abbrev pub InFull : List Line → Term → Type 0
InFull [] t = ⊥
InFull (l ∷ earlier) t = Replaced (StandsFor earlier) (piece_in l) t

-- the same of the bytes of a book
pub record BookInFull (bytes : List ℕ) (t : Term) : Type 0 where
  pub lines : List Line
  pub read : ReadsBook bytes (Reply.answered lines)
  pub in_full : InFull lines t
