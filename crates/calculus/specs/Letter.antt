-- The letters of terms, the byte of each, and how many terms it takes (REQUIREMENTS, Terms, Bells). Every other definition names a letter by `byte`; code
-- names it by its constant in src/letters.rt and its arity by reading's table, each proved against this file.
use Rattle.std.specs.Prelude.{ℕ, suc, Bool, true, false, List, [], ◌∷◌, map, eqb}
use Rattle.std.proofs.Math.Option.{Option, none, some}
use Rattle.calculus.specs.Bell.{Bell, byte_in, rows, bell_letters}

pub data Letter : Type 0 where
  J R H A I B stop : Letter
  bell : Bell → Letter

-- the letter's ASCII code
abbrev pub byte : Letter → ℕ
byte Letter.J = 74
byte Letter.R = 82
byte Letter.H = 72
byte Letter.A = 65
byte Letter.I = 73
byte Letter.B = 66
byte Letter.stop = 46
byte (Letter.bell k) = byte_in k

-- how many terms are owed behind the letter, where k are owed behind the term that it begins
abbrev pub owed : Letter → ℕ → ℕ
owed Letter.J k = k
owed Letter.R k = suc k
owed Letter.H k = suc (suc k)
owed Letter.A k = suc (suc k)
owed Letter.I k = k
owed Letter.B k = suc (suc k)
owed Letter.stop k = suc (suc k)
owed (Letter.bell b) k = k

abbrev pub alphabet : List Letter
alphabet = Letter.J ∷ Letter.R ∷ Letter.H ∷ Letter.A ∷ Letter.I ∷ Letter.B ∷ Letter.stop ∷ map Letter.bell (rows bell_letters)

abbrev pub chosen : Bool → Letter → Option Letter → Option Letter
chosen true l others = some l
chosen false l others = others

-- the letter of the list whose byte is b
abbrev pub find : ℕ → List Letter → Option Letter
find b [] = none
find b (l ∷ ls) = let others = find b ls in chosen (eqb b (byte l)) l others

-- the letter of a byte, if it has one
unfoldable pub letter_of : ℕ → Option Letter
letter_of b = find b alphabet
