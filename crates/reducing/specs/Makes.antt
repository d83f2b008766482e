-- What the rewrite that makes the next step of a term is (REQUIREMENTS, Stepping and Order). Assumes nothing.
use Rattle.std.specs.Prelude.{ℕ, ◌+◌, ◌-◌, ◌≤◌, ◌<◌, ◌≡◌, List, length, Option, Some, None}
use Rattle.calculus.specs.Limits.{area_limit}
use Rattle.calculus.specs.Letter.{Letter, byte}
use Rattle.calculus.specs.Term.{Term, text, size}
use Rattle.calculus.specs.Order.{Next, next}
use Rattle.slices.specs.Find.{index_of}
use Rattle.rewriting.specs.declared.Rewrite.{Rewrite}
use Rattle.rewriting.specs.Text.{rewritten}

-- the rewrite w makes the next step of t; the text grows by the part that is written again and by nothing else
pub record Makes (t : Term) (w : Rewrite) : Type 0 where
  pub reduct : Term
  pub step : next t ≡ Next.step w.rule reduct
  pub spelt : rewritten w (text t) ≡ text reduct
  pub grows : size reduct ≤ size t + (w.again.to - w.again.from)
  pub exact : 0 < w.again.to - w.again.from → size reduct ≡ size t + (w.again.to - w.again.from)

-- there is a rewrite, and it makes the next step of t
abbrev pub MadeBy : (t : Term) → Option Rewrite → Type 0
MadeBy t None = ⊥
MadeBy t (Some w) = Makes t w

-- there is no rewrite where t has no next step, and else one that makes it
abbrev pub NextBy : (t : Term) → Option Rewrite → Type 0
NextBy t None = next t ≡ Next.stop
NextBy t (Some w) = Makes t w

-- where the bytes s are the text of a term within the limit of areas, and `first` is the index of a full stop, the first one, w is a rewrite
-- that makes the term's next step
abbrev pub MakesFrom : (s : List ℕ) (first : ℕ) (w : Option Rewrite) → Type 0
MakesFrom s first w =
    (t : Term) → s ≡ text t → length s ≤ area_limit → first ≡ index_of (byte Letter.stop) s → ¬ (first ≡ length s) → MadeBy t w
