-- The first letter of a term, and which kind of term its byte says. Assumes nothing.
use Prim.Native.Nat.{ℕ}
use native.Mathlib.Omega.{arith}
use mathlib.Core.Path.{◌≡◌, refl}
use Rattle.calculus.specs.Letter.{Letter, byte}
use Rattle.calculus.specs.Term.{Term}
use Rattle.calculus.proofs.PrefixCode.{byte_injective}

abbrev pub head_of : Term → Letter
head_of Term.J = Letter.J
head_of (Term.R t) = Letter.R
head_of (Term.H r t) = Letter.H
head_of (Term.A s t) = Letter.A
head_of Term.I = Letter.I
head_of (Term.B u s) = Letter.B
head_of (Term.app t u) = Letter.stop
head_of (Term.bell k) = Letter.bell k

-- a term that begins with a full stop is an application, and one that begins with `B` a pair
pub is-app : (t : Term) → byte (head_of t) ≡ byte Letter.stop → (f : Term) × (a : Term) × (t ≡ Term.app f a)
is-app Term.J e = absurd (omega arith)
is-app (Term.R t) e = absurd (omega arith)
is-app (Term.H r t) e = absurd (omega arith)
is-app (Term.A s t) e = absurd (omega arith)
is-app Term.I e = absurd (omega arith)
is-app (Term.B u s) e = absurd (omega arith)
is-app (Term.app f a) e = (f, a, refl)
is-app (Term.bell k) e = let z : ◌≡◌ {A = ℕ} 0 1 = cc (byte_injective (Letter.bell k) Letter.stop e) in absurd (omega arith)

pub is-pair : (t : Term) → byte (head_of t) ≡ byte Letter.B → (u : Term) × (s : Term) × (t ≡ Term.B u s)
is-pair Term.J e = absurd (omega arith)
is-pair (Term.R t) e = absurd (omega arith)
is-pair (Term.H r t) e = absurd (omega arith)
is-pair (Term.A s t) e = absurd (omega arith)
is-pair Term.I e = absurd (omega arith)
is-pair (Term.B u s) e = (u, s, refl)
is-pair (Term.app f a) e = absurd (omega arith)
is-pair (Term.bell k) e = let z : ◌≡◌ {A = ℕ} 0 1 = cc (byte_injective (Letter.bell k) Letter.B e) in absurd (omega arith)
