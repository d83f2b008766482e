-- The term in an area (REQUIREMENTS, Replies and areas). Assumes nothing.
use Rattle.std.specs.Prelude.{ℕ, ◌≤◌, ◌≡◌, List, length, take}
use Rattle.calculus.specs.Term.{Term, text}

-- the first len bytes of the area are the text of t
pub record Holds (area : List ℕ) (len : ℕ) (t : Term) : Type 0 where
  pub within : len ≤ length area
  pub written : take len area ≡ text t
