-- Chains by the bytes of their text, where code looks at them; proofs/Chains.antt ties them to chains of terms.
use Rattle.std.specs.Prelude.{ℕ, Bool, false, ◌&&◌, List, [], ◌∷◌, eqb}
use Rattle.std.proofs.Math.Option.{Option, none, some}
use Rattle.calculus.specs.Bell.{number_in, is_bell}
use Rattle.calculus.specs.Letter.{Letter, byte, letter_of}

-- the number of a bell, 0 of any other letter
abbrev pub number_of_letter : Option Letter → ℕ
number_of_letter none = 0
number_of_letter (some Letter.J) = 0
number_of_letter (some Letter.R) = 0
number_of_letter (some Letter.H) = 0
number_of_letter (some Letter.A) = 0
number_of_letter (some Letter.I) = 0
number_of_letter (some Letter.B) = 0
number_of_letter (some Letter.stop) = 0
number_of_letter (some (Letter.bell k)) = number_in k

-- of the letter of a byte
unfoldable pub bell_number : ℕ → ℕ
bell_number b = number_of_letter (letter_of b)

-- whether bytes are the text of a chain
abbrev pub is_chain_text : List ℕ → Bool
is_chain_text [] = false
is_chain_text (b ∷ []) = eqb b (byte Letter.I)
is_chain_text (b ∷ c ∷ bytes) = eqb b (byte Letter.B) && (is_bell c && is_chain_text bytes)

-- the numbers of its bells, which are every second byte
abbrev pub bells_in : List ℕ → List ℕ
bells_in [] = []
bells_in (b ∷ []) = []
bells_in (b ∷ c ∷ bytes) = bell_number c ∷ bells_in bytes
