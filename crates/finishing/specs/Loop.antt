-- What one pass of finishing's loop asks of the areas, and what it leaves.
-- (REQUIREMENTS, Finishing).
use Rattle.std.specs.Prelude.{ℕ, ◌≤◌, ◌<◌, ◌≡◌, cond, List, length}
use Rattle.calculus.specs.Limits.{area_limit}
use Rattle.calculus.specs.Term.{Term, size}
use Rattle.calculus.specs.Order.{Next, next}
use Rattle.calculus.specs.Run.{Outcome, Run, reached}
use Rattle.reading.specs.Reply.{Reply}
use Rattle.reading.specs.Stop.{has_stop}
use Rattle.stepping.specs.Held.{Holds}
use Rattle.stepping.specs.Stepping.{Stepped}
use Rattle.stepping.specs.Batch.{Advances}
use Rattle.finishing.specs.Finishing.{Ran, record_of}

-- how a run ends that has no fuel left: finished comes before spent
abbrev pub end_without_fuel : List ℕ → Outcome
end_without_fuel bytes = cond (has_stop bytes) Outcome.spent Outcome.finished

-- areas of lengths that are not refused, and a term in the first len bytes
pub record Ready (area : List ℕ) (len : ℕ) (work : List ℕ) : Type 0 where
  pub short : length area ≤ area_limit
  pub room : length area ≤ length work
  pub term : Term
  pub held : Holds area len term

-- `StepsOn area area' t reply`: what comes next after t, where the area goes from the one to the other
pub data StepsOn (area area' : List ℕ) (t : Term) : Reply Stepped → Type 0 where
  normal : next t ≡ Next.stop → Holds area' (size t) t → StepsOn area area' t (Reply.answered (Stepped.normal (size t)))
  no_room :
      {rule : ℕ} {u : Term} → next t ≡ Next.step rule u → length area < size u → Holds area' (size t) t →
      StepsOn area area' t (Reply.answered (Stepped.no_room (size t)))
  stepped :
      {rule : ℕ} {u : Term} → next t ≡ Next.step rule u → size u ≤ length area → Holds area' (size u) u →
      StepsOn area area' t (Reply.answered (Stepped.stepped rule (size u)))

-- `MovesOn area t most made byRule size' area'`: some steps from t on, at most that many; none only where the next term, if any, is larger
-- than the area
pub record MovesOn (area : List ℕ) (t : Term) (most made : ℕ) (byRule : List ℕ) (size' : ℕ) (area' : List ℕ) : Type 0 where
  pub advances : Advances area t most made byRule size' area'
  pub stuck : made ≡ 0 → (rule : ℕ) (u : Term) → next t ≡ Next.step rule u → length area < size u

-- `Reaches t r record area`: the record is that of the run r from t, and the area holds the term reached
pub record Reaches (t : Term) (r : Run) (made : Ran) (area : List ℕ) : Type 0 where
  pub records : made ≡ record_of t r
  pub held : Holds area (size (reached t r)) (reached t r)
