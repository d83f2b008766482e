-- The rules that one function builds alike: those that freeze an application, and those that apply a pair to both parts. Assumes nothing.
use Rattle.std.specs.Prelude.{ℕ}
use Rattle.calculus.specs.Bell.{Bell}
use Rattle.calculus.specs.Letter.{Letter, byte}
use Rattle.calculus.specs.Term.{Term}

-- a letter, and a term behind it that is frozen with its argument
pub data Freezes : ℕ → Term → Type 0 where
  freezes_J : Freezes (byte Letter.J) Term.J
  freezes_R : {t : Term} → Freezes (byte Letter.R) (Term.R t)
  freezes_H : {r t : Term} → Freezes (byte Letter.H) (Term.H r t)
  freezes_bell : {k : Bell} → Freezes (byte (Letter.bell k)) (Term.bell k)

-- the argument's letter, the letter of what is built, and the rule's number
pub data Spreads : ℕ → ℕ → ℕ → Type 0 where
  spreads_H : Spreads (byte Letter.H) (byte Letter.stop) 8
  spreads_B : Spreads (byte Letter.B) (byte Letter.B) 11
