-- Bytes with what a name stands for in place of each use of it, whatever the bytes are (REQUIREMENTS, Books); of a piece's text that is the text
-- of the piece with its uses replaced, proofs/Spelled.antt.
use Rattle.std.specs.Prelude.{ℕ, suc, cond, List, [], ◌∷◌, ◌++◌, eqb, get_or}
use Rattle.std.proofs.Math.Option.{Option, none, some}
use Rattle.slices.specs.Find.{index_of}
use Rattle.slices.specs.Part.{part}
use Rattle.books.specs.Piece.{open_mark, close_mark}
use Rattle.book_names.specs.Key.{key_of}

-- outside a use, or inside one with its name so far; the end of the bytes ends a use too
abbrev pub spelled_from : (bytes_of : List ℕ → List ℕ) (inside : Option (List ℕ)) → List ℕ → List ℕ
spelled_from bytes_of none [] = []
spelled_from bytes_of none (b ∷ bytes) =
    cond (eqb b open_mark) (spelled_from bytes_of (some []) bytes) (b ∷ spelled_from bytes_of none bytes)
spelled_from bytes_of (some name) [] = bytes_of name
spelled_from bytes_of (some name) (b ∷ bytes) =
    cond (eqb b close_mark) (bytes_of name ++ spelled_from bytes_of none bytes) (spelled_from bytes_of (some (name ++ (b ∷ []))) bytes)

-- what the store holds for the name of that number: number i of the names stands for the bytes from end i up to end i + 1
unfoldable pub held_by : (key : ℕ) (keys ends store : List ℕ) → List ℕ
held_by key keys ends store = part (get_or ends (index_of key keys) 0) (get_or ends (suc (index_of key keys)) 0) store

unfoldable pub spelled_in : (keys ends store piece : List ℕ) → List ℕ
spelled_in keys ends store piece = spelled_from (λ name. held_by (key_of name) keys ends store) none piece
