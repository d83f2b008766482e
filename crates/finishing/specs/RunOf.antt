-- A run: what finishing does, alone or inside another operation, with a call that it does not refuse (REQUIREMENTS, Finishing).
use Rattle.std.specs.Prelude.{ℕ, ◌≡◌, List, length}
use Rattle.calculus.specs.Term.{Term}
use Rattle.calculus.specs.Run.{Run, Runs}
use Rattle.reading.specs.Reply.{Reply}
use Rattle.admission.specs.Admission.{admitted}

-- `RunOf area len work fuel t r`: the call is not refused, its first len bytes are the text of t, and r is the run from t
pub record RunOf (area : List ℕ) (len : ℕ) (work : List ℕ) (fuel : ℕ) (t : Term) (r : Run) : Type 0 where
  pub admits : admitted area len work fuel ≡ Reply.answered t
  pub runs : Runs fuel (length area) 0 t r
