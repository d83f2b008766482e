-- Types and their text (REQUIREMENTS, Types, Bells): simple types are atoms and arrows between simple types, contexts are lists of simple types, and a
-- type is one of the two. `proofs/Parse.antt` of `types` shows that no text is of both.
use Rattle.std.specs.Prelude.{ℕ, ◌≤◌, List, [], ◌∷◌, ◌++◌}
use Rattle.std.proofs.Common.{arith}

-- a letter `a` to `z`
pub record Atom : Type 0 where
  pub letter : ℕ
  pub from_a : 97 ≤ letter
  pub up_to_z : letter ≤ 122

pub data Simple : Type 0 where
  atom : Atom → Simple
  arrow : (U T : Simple) → Simple

-- `b`, the type of bells
abbrev pub bell_atom : Atom
bell_atom = record { letter = 98; from_a = omega arith; up_to_z = omega arith }

abbrev pub bell_type : Simple
bell_type = Simple.atom bell_atom

pub data Context : Type 0 where
  empty : Context
  bind : (U : Simple) (G : Context) → Context

-- a type: simple, or a context
pub data Ty : Type 0 where
  simple : Simple → Ty
  context : Context → Ty

-- what types are written in: atoms, and the marks `>`, `*` and `1`
pub data Sign : Type 0 where
  name : Atom → Sign
  arrow bind empty : Sign

abbrev pub atom_text : Atom → List ℕ
atom_text a = a.letter ∷ []

abbrev pub sign_text : Sign → List ℕ
sign_text (Sign.name a) = atom_text a
sign_text Sign.arrow = 62 ∷ []
sign_text Sign.bind = 42 ∷ []
sign_text Sign.empty = 49 ∷ []

abbrev pub simple_signs : Simple → List Sign
simple_signs (Simple.atom a) = Sign.name a ∷ []
simple_signs (Simple.arrow U T) = Sign.arrow ∷ (simple_signs U ++ simple_signs T)

abbrev pub context_signs : Context → List Sign
context_signs Context.empty = Sign.empty ∷ []
context_signs (Context.bind U G) = Sign.bind ∷ (simple_signs U ++ context_signs G)

abbrev pub ty_signs : Ty → List Sign
ty_signs (Ty.simple T) = simple_signs T
ty_signs (Ty.context G) = context_signs G

-- the bytes of a list of signs
abbrev pub written : List Sign → List ℕ
written [] = []
written (sign ∷ signs) = sign_text sign ++ written signs

abbrev pub simple_text : Simple → List ℕ
simple_text U = written (simple_signs U)

abbrev pub context_text : Context → List ℕ
context_text G = written (context_signs G)

abbrev pub ty_text : Ty → List ℕ
ty_text W = written (ty_signs W)
