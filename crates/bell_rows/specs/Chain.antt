-- Chains of bells, and the numbers of their bells in order (REQUIREMENTS, Rows): as a relation, and as a function, which
-- proofs/Chains.antt shows to be the same.
use Rattle.std.specs.Prelude.{ℕ, List, [], ◌∷◌}
use Rattle.std.proofs.Math.Option.{Option, none, some}
use Rattle.calculus.specs.Bell.{Bell, number_in}
use Rattle.calculus.specs.Term.{Term}

-- `Chain t bells`: t is pairs of a bell and what comes after it, ended by `I`
pub data Chain : Term → List ℕ → Type 0 where
  ended : Chain Term.I []
  linked : (k : Bell) {t : Term} {bells : List ℕ} → Chain t bells → Chain (Term.B (Term.bell k) t) (number_in k ∷ bells)

-- a bell in front of the bells of what comes after it, if that is a chain
abbrev pub before : (k : Bell) → Option (List ℕ) → Option (List ℕ)
before k none = none
before k (some bells) = some (number_in k ∷ bells)

-- a term in front of them
abbrev pub paired : Term → Option (List ℕ) → Option (List ℕ)
paired Term.J rest = none
paired (Term.R t) rest = none
paired (Term.H r t) rest = none
paired (Term.A s t) rest = none
paired Term.I rest = none
paired (Term.B u s) rest = none
paired (Term.app t u) rest = none
paired (Term.bell k) rest = before k rest

-- the numbers of a chain's bells; none of any other term
abbrev pub bells_of : Term → Option (List ℕ)
bells_of Term.J = none
bells_of (Term.R t) = none
bells_of (Term.H r t) = none
bells_of (Term.A s t) = none
bells_of Term.I = some []
bells_of (Term.B u s) = paired u (bells_of s)
bells_of (Term.app t u) = none
bells_of (Term.bell k) = none
