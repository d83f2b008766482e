-- Pieces (REQUIREMENTS, Books): terms with uses of other lines as leaves, beside those that terms have. Their text, which lines they use, and
-- the term that is made of one where each use is replaced by a term.
use Rattle.std.specs.Prelude.{ℕ}
use mathlib.Core.List.{List, [], ◌∷◌, ◌++◌, Memᴰ}
use Rattle.calculus.specs.Bell.{Bell}
use Rattle.calculus.specs.Letter.{Letter, byte}
use Rattle.calculus.specs.Term.{Term}
use Rattle.books.specs.Name.{IsName}

pub data Piece : Type 0 where
  J : Piece
  R : (p : Piece) → Piece
  H : (p q : Piece) → Piece
  A : (p q : Piece) → Piece
  I : Piece
  B : (p q : Piece) → Piece
  app : (p q : Piece) → Piece
  bell : (k : Bell) → Piece
  use_of : (name : List ℕ) → Piece

-- the marks around the name of a use
abbrev pub open_mark : ℕ
open_mark = 40

abbrev pub close_mark : ℕ
close_mark = 41

-- in prefix form, as terms
abbrev pub piece_text : Piece → List ℕ
piece_text Piece.J = byte Letter.J ∷ []
piece_text (Piece.R p) = byte Letter.R ∷ piece_text p
piece_text (Piece.H p q) = byte Letter.H ∷ (piece_text p ++ piece_text q)
piece_text (Piece.A p q) = byte Letter.A ∷ (piece_text p ++ piece_text q)
piece_text Piece.I = byte Letter.I ∷ []
piece_text (Piece.B p q) = byte Letter.B ∷ (piece_text p ++ piece_text q)
piece_text (Piece.app p q) = byte Letter.stop ∷ (piece_text p ++ piece_text q)
piece_text (Piece.bell k) = byte (Letter.bell k) ∷ []
piece_text (Piece.use_of name) = open_mark ∷ (name ++ (close_mark ∷ []))

-- the names that stand in a piece, from left to right
abbrev pub uses : Piece → List (List ℕ)
uses Piece.J = []
uses (Piece.R p) = uses p
uses (Piece.H p q) = uses p ++ uses q
uses (Piece.A p q) = uses p ++ uses q
uses Piece.I = []
uses (Piece.B p q) = uses p ++ uses q
uses (Piece.app p q) = uses p ++ uses q
uses (Piece.bell k) = []
uses (Piece.use_of name) = name ∷ []

-- every use has a name between its marks
abbrev pub WellNamed : Piece → Type 0
WellNamed p = (name : List ℕ) → Memᴰ name (uses p) → IsName name

-- `Replaced Stands p t`: t is p with each use replaced by a term that its name stands for
pub data Replaced (Stands : (name : List ℕ) → Term → Type 0) : Piece → Term → Type 0 where
  J : Replaced Stands Piece.J Term.J
  R : {p : Piece} {t : Term} → Replaced Stands p t → Replaced Stands (Piece.R p) (Term.R t)
  H :
      {p q : Piece} {t u : Term} →
      Replaced Stands p t → Replaced Stands q u → Replaced Stands (Piece.H p q) (Term.H t u)
  A :
      {p q : Piece} {t u : Term} →
      Replaced Stands p t → Replaced Stands q u → Replaced Stands (Piece.A p q) (Term.A t u)
  I : Replaced Stands Piece.I Term.I
  B :
      {p q : Piece} {t u : Term} →
      Replaced Stands p t → Replaced Stands q u → Replaced Stands (Piece.B p q) (Term.B t u)
  app :
      {p q : Piece} {t u : Term} →
      Replaced Stands p t → Replaced Stands q u → Replaced Stands (Piece.app p q) (Term.app t u)
  bell : {k : Bell} → Replaced Stands (Piece.bell k) (Term.bell k)
  use_of : {name : List ℕ} {t : Term} → Stands name t → Replaced Stands (Piece.use_of name) t

-- the same, where a function says what each name stands for
abbrev pub replaced : (term : List ℕ → Term) → Piece → Term
replaced term Piece.J = Term.J
replaced term (Piece.R p) = Term.R (replaced term p)
replaced term (Piece.H p q) = Term.H (replaced term p) (replaced term q)
replaced term (Piece.A p q) = Term.A (replaced term p) (replaced term q)
replaced term Piece.I = Term.I
replaced term (Piece.B p q) = Term.B (replaced term p) (replaced term q)
replaced term (Piece.app p q) = Term.app (replaced term p) (replaced term q)
replaced term (Piece.bell k) = Term.bell k
replaced term (Piece.use_of name) = term name
