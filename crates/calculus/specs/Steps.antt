-- Steps one after another, each with room in the area (REQUIREMENTS, Finishing): a piece of a run, without its end.
use Rattle.std.specs.Prelude.{ℕ, ◌≤◌, ◌≡◌, List, [], ◌∷◌}
use Rattle.calculus.specs.Term.{Term, size}
use Rattle.calculus.specs.Order.{Next, next}

-- `Steps area t rules u`: from t the next steps are by these rules, each to a term that has room in the area, and the last is u
pub data Steps (area : ℕ) : Term → List ℕ → Term → Type 0 where
  none : {t : Term} → Steps area t [] t
  more :
      {t u v : Term} {rule : ℕ} {rules : List ℕ} →
      next t ≡ Next.step rule u → size u ≤ area → Steps area u rules v → Steps area t (rule ∷ rules) v
