-- How many terms the letter of a byte takes, none for a byte that is no letter (REQUIREMENTS, Terms).
use Rattle.std.specs.Prelude.{ℕ, Option, Some, None}
use Rattle.std.proofs.Math.Option.{Option as Found, none, some}
use Rattle.calculus.specs.Letter.{Letter, letter_of, owed}

abbrev pub arity_of_letter : Found Letter → Option ℕ
arity_of_letter none = None
arity_of_letter (some l) = Some (owed l 0)

unfoldable pub arity_of : ℕ → Option ℕ
arity_of b = arity_of_letter (letter_of b)
