-- What `admit` answers, in terms of the definition: by what a call is refused, or the term of one that is not. Assumes nothing.
use Prim.Native.Nat.{ℕ}
use native.Mathlib.Omega.{arith}
use mathlib.Core.Path.{◌≡◌, refl}
use Rattle.calculus.specs.Term.{Term}
use Rattle.reading.specs.Reply.{Reply}
use Rattle.admission.specs.Admission.{admission}

-- a refusal is what the definition refuses
pub admission-refused : (x : Reply Term) {n p : ℕ} → Reply.refused n p ≡ admission x → x ≡ Reply.refused n p
admission-refused (Reply.refused m q) e = cc
admission-refused (Reply.answered t) e = cc

-- else there is a term
pub admission-answered : (x : Reply Term) → Reply.answered tt ≡ admission x → (t : Term) × (x ≡ Reply.answered t)
admission-answered (Reply.refused m q) e = let z : ◌≡◌ {A = ℕ} 0 1 = cc in absurd (omega arith)
admission-answered (Reply.answered t) e = (t, refl)
