-- The lines of a book, as trees and as text (REQUIREMENTS, Books).
use Rattle.std.specs.Prelude.{ℕ, suc, cond, List, ◌∷◌, ◌++◌, take, drop}
use Rattle.std.proofs.Math.Option.{Option, none, some}
use Rattle.slices.specs.Find.{index_of}
use Rattle.slices.specs.Split.{tab}
use Rattle.books.specs.Name.{IsName, is_name}
use Rattle.books.specs.Piece.{Piece, piece_text, WellNamed}
use Rattle.books.specs.Parse.{piece_of}

pub data Line : Type 0 where
  line : (name : List ℕ) (piece : Piece) → Line

abbrev pub name_in : Line → List ℕ
name_in (Line.line name piece) = name

abbrev pub piece_in : Line → Piece
piece_in (Line.line name piece) = piece

-- a line without its byte 10
abbrev pub line_text : Line → List ℕ
line_text l = name_in l ++ (tab ∷ piece_text (piece_in l))

-- its name and those that it uses are names
pub record WellFormed (l : Line) : Type 0 where
  pub named : IsName (name_in l)
  pub uses-named : WellNamed (piece_in l)

abbrev pub line_with : (name : List ℕ) → Option Piece → Option Line
line_with name none = none
line_with name (some p) = cond (is_name name) (some (Line.line name p)) none

-- the line that these bytes are, if they are one: what stands in front of the first tab is the name
unfoldable pub line_of : List ℕ → Option Line
line_of body = line_with (take (index_of tab body) body) (piece_of (drop (suc (index_of tab body)) body))
