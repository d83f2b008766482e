-- Whether bytes are the text of a piece, as a test (REQUIREMENTS, Books).
use Rattle.std.specs.Prelude.{ℕ, Bool, true, false, List}
use Rattle.std.proofs.Math.Option.{Option, none, some}
use Rattle.books.specs.Piece.{Piece}
use Rattle.books.specs.Parse.{piece_of}

abbrev pub is_some : Option Piece → Bool
is_some none = false
is_some (some p) = true

unfoldable pub is_piece : List ℕ → Bool
is_piece bytes = is_some (piece_of bytes)
