-- One change of one part, where it stands (REQUIREMENTS, Turning): a rule's left side anywhere in a term, also in a closure's body, replaced by
-- its right side.
use Rattle.std.specs.Prelude.{ℕ, List, [], ◌∷◌}
use Rattle.calculus.specs.Term.{Term}
use Rattle.calculus.specs.Rule.{Rule}

-- which of the terms that a letter takes
pub data Side : Type 0 where
  first second : Side

-- where a part stands: the way to it from the whole term
abbrev pub Place : Type 0
Place = List Side

-- `Change n p x y`: the part of x at p is the left side of rule n, and y has its right side there
pub data Change : ℕ → Place → Term → Term → Type 0 where
  here : {n : ℕ} {x y : Term} → Rule n x y → Change n [] x y
  in_R : {n : ℕ} {p : Place} {t t' : Term} → Change n p t t' → Change n (first ∷ p) (Term.R t) (Term.R t')
  in_H₁ : {n : ℕ} {p : Place} {r r' t : Term} → Change n p r r' → Change n (first ∷ p) (Term.H r t) (Term.H r' t)
  in_H₂ : {n : ℕ} {p : Place} {r t t' : Term} → Change n p t t' → Change n (second ∷ p) (Term.H r t) (Term.H r t')
  in_A₁ : {n : ℕ} {p : Place} {s s' t : Term} → Change n p s s' → Change n (first ∷ p) (Term.A s t) (Term.A s' t)
  in_A₂ : {n : ℕ} {p : Place} {s t t' : Term} → Change n p t t' → Change n (second ∷ p) (Term.A s t) (Term.A s t')
  in_B₁ : {n : ℕ} {p : Place} {u u' s : Term} → Change n p u u' → Change n (first ∷ p) (Term.B u s) (Term.B u' s)
  in_B₂ : {n : ℕ} {p : Place} {u s s' : Term} → Change n p s s' → Change n (second ∷ p) (Term.B u s) (Term.B u s')
  in_app₁ : {n : ℕ} {p : Place} {t t' u : Term} → Change n p t t' → Change n (first ∷ p) (Term.app t u) (Term.app t' u)
  in_app₂ : {n : ℕ} {p : Place} {t u u' : Term} → Change n p u u' → Change n (second ∷ p) (Term.app t u) (Term.app t u')
