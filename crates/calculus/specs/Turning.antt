-- Turning (REQUIREMENTS, Turning): finitely many changes, each in either direction, through terms of any size.
use Rattle.std.specs.Prelude.{ℕ}
use Rattle.calculus.specs.Term.{Term}
use Rattle.calculus.specs.Change.{Place, Change}

-- `Turn t v`: t and v can be turned into each other
pub data Turn : Term → Term → Type 0 where
  unchanged : {t : Term} → Turn t t
  forwards : {n : ℕ} {p : Place} {t u v : Term} → Change n p t u → Turn u v → Turn t v
  backwards : {n : ℕ} {p : Place} {t u v : Term} → Change n p u t → Turn u v → Turn t v

-- `Reduce t v`: changes forwards alone lead from t to v
pub data Reduce : Term → Term → Type 0 where
  unchanged : {t : Term} → Reduce t t
  forwards : {n : ℕ} {p : Place} {t u v : Term} → Change n p t u → Reduce u v → Reduce t v

-- a common reduct of t and u
pub record Joins (t u : Term) : Type 0 where
  pub meet : Term
  pub left : Reduce t meet
  pub right : Reduce u meet
