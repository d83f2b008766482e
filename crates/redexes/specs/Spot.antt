-- The application that makes the next step of a term, by its index in the term's text (REQUIREMENTS, Order). Assumes nothing.
use Rattle.std.specs.Prelude.{ℕ, ◌+◌, ◌≤◌, ◌≡◌, List, ◌++◌, length, get_or}
use Rattle.calculus.specs.Letter.{Letter, byte}
use Rattle.calculus.specs.Term.{Term, text, size}
use Rattle.calculus.specs.Order.{Next, next}
use Rattle.parts.specs.Skip.{end_at}

-- the next step of t is by rule n, and its text is that of v between front and back
pub record StepsTo (t : Term) (n : ℕ) (front : List ℕ) (v : Term) (back : List ℕ) : Type 0 where
  pub reduct : Term
  pub step : next t ≡ Next.step n reduct
  pub spelt : text reduct ≡ front ++ (text v ++ back)

-- an application that stands at index p in the text of t, and whose next step is that of t
pub record Spot (t : Term) (p : ℕ) : Type 0 where
  pub front : List ℕ
  pub function : Term
  pub argument : Term
  pub back : List ℕ
  pub place : p ≡ length front
  pub spelt : text t ≡ front ++ (text (Term.app function argument) ++ back)
  pub steps : (n : ℕ) (v : Term) → next (Term.app function argument) ≡ Next.step n v → StepsTo t n front v back

-- the redex of t in the part that begins at `from`: it makes the next step of t, and neither its function nor the argument of its pair is
-- an application, so that a rule applies to it
pub record Redex (t : Term) (from p : ℕ) : Type 0 where
  pub spot : Spot t p
  pub begins : from ≤ p
  pub ends : p + size (Term.app spot.function spot.argument) ≤ end_at (text t) from
  pub no_function : ¬ (get_or (text t) (p + 1) 0 ≡ byte Letter.stop)
  pub no_argument : get_or (text t) (p + 1) 0 ≡ byte Letter.B → ¬ (get_or (text t) (end_at (text t) (p + 1)) 0 ≡ byte Letter.stop)
