-- What more fuel and more area do to a run (REQUIREMENTS, Results).
use Rattle.std.specs.Prelude.{ℕ, ◌≤◌, ◌≡◌}
use Rattle.calculus.specs.Run.{Outcome, Run}

-- the steps of a run, and then another run
abbrev pub onward : Run → Run → Run
onward (Run.end o) rest = rest
onward (Run.then n u r) rest = Run.then n u (onward r rest)

-- another fuel and area that are of no help to a run with that outcome: more of either to a finished one, more area alone to a
-- spent one, more fuel alone to one with no room
abbrev pub Unhelped : Outcome → (fuel area fuel' area' : ℕ) → Type 0
Unhelped Outcome.finished fuel area fuel' area' = (fuel ≤ fuel') × (area ≤ area')
Unhelped Outcome.spent fuel area fuel' area' = (fuel ≡ fuel') × (area ≤ area')
Unhelped Outcome.no_room fuel area fuel' area' = (fuel ≤ fuel') × (area ≡ area')
