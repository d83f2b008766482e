-- What the order finds, and what it takes to get there (REQUIREMENTS, Results). No limit of a call stands here.
use Rattle.std.specs.Prelude.{ℕ, ◌≤◌, ◌<◌, ◌≡◌}
use Rattle.calculus.specs.Term.{Term}
use Rattle.calculus.specs.Run.{Outcome, Run, run, outcome, count, reached, largest}

-- what the outcome of a run tells of the order's way to a result: that there was fuel and room for it, that it takes more
-- fuel, or that it takes more room
abbrev pub Tells : Outcome → (fuel area : ℕ) (way : Run) → Type 0
Tells Outcome.finished fuel area way = (count way ≤ fuel) × (largest way ≤ area)
Tells Outcome.spent fuel area way = fuel < count way
Tells Outcome.no_room fuel area way = area < largest way

-- `Finds t v`: the order's way from t ends at v, which is normal. From a fuel of its count and an area of its largest term on,
-- the run of t is that way, the same steps and the same count; with less it is not, and its outcome tells what was short
pub record Finds (t v : Term) : Type 0 where
  pub way : Run
  pub ends : outcome way ≡ Outcome.finished
  pub result : reached t way ≡ v
  pub enough : (fuel area : ℕ) → count way ≤ fuel → largest way ≤ area → run fuel area t ≡ way
  pub tells : (fuel area : ℕ) → Tells (outcome (run fuel area t)) fuel area way
