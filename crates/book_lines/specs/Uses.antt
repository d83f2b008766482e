-- The names that bytes use, from left to right, whatever the bytes are (REQUIREMENTS, Books); of a piece's text they are the piece's own,
-- proofs/Faults.antt.
use Rattle.std.specs.Prelude.{ℕ, Bool, true, cond, ◌&&◌, List, [], ◌∷◌, ◌++◌, eqb}
use Rattle.std.proofs.Math.Option.{Option, none, some}
use Rattle.books.specs.Piece.{open_mark, close_mark}
use Rattle.book_names.specs.Key.{key_of, is_in}

-- outside a use, or inside one with its name so far; the end of the bytes ends a use too
abbrev pub uses_from : (inside : Option (List ℕ)) → List ℕ → List (List ℕ)
uses_from none [] = []
uses_from none (b ∷ bytes) = cond (eqb b open_mark) (uses_from (some []) bytes) (uses_from none bytes)
uses_from (some name) [] = name ∷ []
uses_from (some name) (b ∷ bytes) = cond (eqb b close_mark) (name ∷ uses_from none bytes) (uses_from (some (name ++ (b ∷ []))) bytes)

unfoldable pub uses_in : List ℕ → List (List ℕ)
uses_in bytes = uses_from none bytes

-- the numbers of all names are among these
abbrev pub all_in : List (List ℕ) → (keys : List ℕ) → Bool
all_in [] keys = true
all_in (name ∷ names) keys = is_in (key_of name) keys && all_in names keys
