-- The join of two terms, as a term and as a text made of their texts, and its size (REQUIREMENTS, Joining).
use Rattle.std.specs.Prelude.{ℕ, ◌+◌, List, ◌∷◌, ◌++◌}
use Rattle.calculus.specs.Letter.{Letter, byte}
use Rattle.calculus.specs.Term.{Term, text}

-- `HRJHRRJJ`, the body: index 1, on what index 2 makes of index 0
abbrev pub in_turn : Term
in_turn = Term.H (Term.R Term.J) (Term.H (Term.R (Term.R Term.J)) Term.J)

-- a closure whose environment has both terms, so that applied it puts its argument at index 0, f at 1 and g at 2
abbrev pub join : (f g : Term) → Term
join f g = Term.A (Term.B f (Term.B g Term.I)) in_turn

-- its text, of the texts of f and g
abbrev pub join_text : (f g : List ℕ) → List ℕ
join_text f g = byte Letter.A ∷ byte Letter.B ∷ (f ++ (byte Letter.B ∷ (g ++ (text Term.I ++ text in_turn))))

-- its size, of the sizes of f and g
abbrev pub join_size : (f g : ℕ) → ℕ
join_size f g = 12 + (f + g)
