-- The piece that bytes are the text of, as a function on any bytes (REQUIREMENTS, Books): what `piece_text` undoes; proofs/Spelling.antt shows
-- that it does. It goes from left to right, with a number of pieces still owed, and gives as many pieces as were owed.
use Rattle.std.specs.Prelude.{ℕ, zero, suc, cond, ◌&&◌, List, [], ◌∷◌, ◌++◌, eqb, leb, ltb, length}
use Rattle.std.proofs.Math.Option.{Option, none, some}
use Rattle.calculus.specs.Letter.{Letter, letter_of, owed}
use Rattle.books.specs.Name.{name_limit, is_small}
use Rattle.books.specs.Piece.{Piece, open_mark, close_mark}

-- pieces with one more in front
abbrev pub before : Piece → Option (List Piece) → Option (List Piece)
before p none = none
before p (some ps) = some (p ∷ ps)

-- the first of the pieces becomes part of a node
abbrev pub one : (Piece → Piece) → Option (List Piece) → Option (List Piece)
one node none = none
one node (some []) = none
one node (some (p ∷ ps)) = some (node p ∷ ps)

-- the first two do
abbrev pub two : (Piece → Piece → Piece) → Option (List Piece) → Option (List Piece)
two node none = none
two node (some []) = none
two node (some (p ∷ [])) = none
two node (some (p ∷ q ∷ ps)) = some (node p q ∷ ps)

-- a letter in front of the pieces that it takes, and of others
abbrev pub headed : Letter → Option (List Piece) → Option (List Piece)
headed Letter.J ps = before Piece.J ps
headed Letter.R ps = one Piece.R ps
headed Letter.H ps = two Piece.H ps
headed Letter.A ps = two Piece.A ps
headed Letter.I ps = before Piece.I ps
headed Letter.B ps = two Piece.B ps
headed Letter.stop ps = two Piece.app ps
headed (Letter.bell k) ps = before (Piece.bell k) ps

abbrev pub at_letter : Option Letter → (Letter → Option (List Piece)) → Option (List Piece)
at_letter none onward = none
at_letter (some l) onward = headed l (onward l)

-- the pieces that bytes go on to make, with so many owed; inside a use, the letters of its name so far stand beside them
abbrev pub pieces_from : (owing : ℕ) (inside : Option (List ℕ)) → List ℕ → Option (List Piece)
pieces_from zero none [] = some []
pieces_from zero none (b ∷ bytes) = none
pieces_from (suc k) none [] = none
pieces_from (suc k) none (b ∷ bytes) =
    cond (eqb b open_mark) (pieces_from k (some []) bytes) (at_letter (letter_of b) (λ l. pieces_from (owed l k) none bytes))
pieces_from k (some name) [] = none
pieces_from k (some name) (b ∷ bytes) =
    cond (eqb b close_mark) (cond (leb 1 (length name)) (before (Piece.use_of name) (pieces_from k none bytes)) none)
    (cond (is_small b && ltb (length name) name_limit) (pieces_from k (some (name ++ (b ∷ []))) bytes) none)

abbrev pub single : Option (List Piece) → Option Piece
single none = none
single (some []) = none
single (some (p ∷ [])) = some p
single (some (p ∷ q ∷ ps)) = none

-- the piece whose text these bytes are, if there is one
unfoldable pub piece_of : List ℕ → Option Piece
piece_of bytes = single (pieces_from 1 none bytes)
