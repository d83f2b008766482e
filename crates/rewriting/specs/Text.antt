-- The text that a rewrite makes, in pieces. Assumes nothing.
-- REQUIREMENTS, Rules.
use Rattle.std.specs.Prelude.{ℕ, List, [], ◌∷◌, length, Option, Some, None}
use Rattle.slices.specs.Part.{part}
use Rattle.parts.proofs.Pieces.{flat}
use Rattle.slices.specs.declared.Span.{Span}
use Rattle.rewriting.specs.declared.Rewrite.{Rewrite}

-- a letter, or nothing
abbrev pub letter_text : Option ℕ → List ℕ
letter_text None = []
letter_text (Some b) = b ∷ []

-- the bytes of a part
abbrev pub bytes_of : Span → List ℕ → List ℕ
bytes_of p s = part p.from p.to s

-- the pieces of the text that w makes of s
abbrev pub pieces_of : Rewrite → (s : List ℕ) → List (List ℕ)
pieces_of w s =
    part 0 w.keep s ∷ letter_text w.letter ∷ bytes_of w.first s ∷ bytes_of w.second s ∷ bytes_of w.again s
    ∷ part w.rest (length s) s ∷ []

abbrev pub rewritten : Rewrite → (s : List ℕ) → List ℕ
rewritten w s = flat (pieces_of w s)
