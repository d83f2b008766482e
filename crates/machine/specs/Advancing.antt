-- A batch of steps: what it asks for, and what it leaves (REQUIREMENTS, Finishing). Assumes nothing.
use Rattle.std.specs.Prelude.{ℕ, ◌+◌, ◌-◌, ◌*◌, ◌/◌, ◌≤◌, min, ◌≡◌, List, ◌++◌, length, take}
use Rattle.calculus.specs.Limits.{fuel_limit}
use Rattle.calculus.specs.Term.{Term, text, size}
use Rattle.calculus.specs.Steps.{Steps}
use Rattle.calculus.specs.Counts.{tally}
use Rattle.cells.specs.Cell.{cell_limit}
use Rattle.turning.specs.Turning.{Runs, Turnable}
use Rattle.turning.specs.declared.State.{State}
use Rattle.machine.specs.declared.Made.{Made}

-- the text of a term at the front of the area, and counts by rule that leave room for as many steps more
pub record Runnable (area : List ℕ) (len : ℕ) (counts : List ℕ) (most : ℕ) : Type 0 where
  pub term : Term
  pub used : List ℕ
  pub within : len ≤ length area
  pub written : take len area ≡ text term
  pub tallied : counts ≡ tally used
  pub fuelled : length used + most ≤ fuel_limit

-- an arena that will do for it: room for a term of so many letters, four cells a letter
pub record Usable (cells area : List ℕ) (len room : ℕ) : Type 0 where
  pub few : length cells ≤ cell_limit
  pub many : 256 ≤ length cells
  pub roomy : room ≡ min (length area) (length cells / 4)
  pub fits : len ≤ room

-- from the first term, by at most that many steps, each with room in the area, to the term whose text stands at its front now; each step is
-- counted
pub record Advanced (area : List ℕ) (first : Term) (used : List ℕ) (most : ℕ) (area' counts' : List ℕ) (made : Made) : Type 0 where
  pub term : Term
  pub rules : List ℕ
  pub steps : Steps (length area) first rules term
  pub few : length rules ≤ most
  pub counted : made.steps ≡ length rules
  pub tallied : counts' ≡ tally (used ++ rules)
  pub sized : made.size ≡ size term
  pub written : take made.size area' ≡ text term

-- how many of that many steps were made, and the size of the term reached
abbrev pub made_of : (st : State) (most : ℕ) → Made
made_of st most = record { steps = most - st.steps; size = st.size; left = st.place.left }

-- five of eight cells of the arena may be taken before the machine stops; the rest is for writing the term back
abbrev pub fillable : List ℕ → ℕ
fillable cells = length cells / 8 * 5

-- a state to begin with, in an arena that is not filled
pub record Startable (room : ℕ) (cells area counts : List ℕ) (st : State) : Type 0 where
  pub turnable : Turnable room cells area counts st
  pub many : 256 ≤ length cells
  pub low : st.place.top + 4 ≤ fillable cells

-- the state in which the machine stopped
pub record Stopped (room : ℕ) (first : Term) (used : List ℕ) (most : ℕ) (cells area counts : List ℕ) (st : State) : Type 0 where
  pub runs : Runs room first used most cells area counts st
  pub filled : st.place.top ≤ fillable cells
