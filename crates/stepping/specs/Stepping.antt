-- What stepping answers and leaves in the areas, for any call (REQUIREMENTS, Stepping).
use Rattle.std.specs.Prelude.{ℕ, Bool, true, false, List, leb, length, take}
use Rattle.calculus.specs.Term.{Term, size}
use Rattle.calculus.specs.Order.{Next, next}
use Rattle.reading.specs.Reply.{Reply}
use Rattle.reading.specs.Reading.{term_read}
use Rattle.reading.specs.Area.{holding, cleared}
use Rattle.stepping.specs.Areas.{refused_areas}

-- what stepping answers; the size is that of the term now in the area
pub data Stepped : Type 0 where
  normal : (size : ℕ) → Stepped
  no_room : (size : ℕ) → Stepped
  stepped : (rule size : ℕ) → Stepped

-- the reply, and the two areas at exit
pub data After : Type 0 where
  after : (reply : Reply Stepped) (area work : List ℕ) → After

-- the term to step, or the refusal
abbrev pub admitted : (area : List ℕ) (len : ℕ) (work : List ℕ) → Reply Term
admitted area len work = refused_areas area len work (term_read (take len area))

-- the step from t by that rule to u, if u fits the area
abbrev pub step_to : Bool → (t : Term) (rule : ℕ) (u : Term) (area work : List ℕ) → After
step_to true t rule u area work = After.after (Reply.answered (Stepped.stepped rule (size u))) (holding u area) (cleared work)
step_to false t rule u area work = After.after (Reply.answered (Stepped.no_room (size t))) (holding t area) (cleared work)

-- what comes next after t, made in the areas
abbrev pub step_next : (t : Term) → Next → (area work : List ℕ) → After
step_next t Next.stop area work = After.after (Reply.answered (Stepped.normal (size t))) (holding t area) (cleared work)
step_next t (Next.step rule u) area work = step_to (leb (size u) (length area)) t rule u area work

-- a refusal leaves both areas as they are
abbrev pub step_admitted : Reply Term → (area work : List ℕ) → After
step_admitted (Reply.refused number place) area work = After.after (Reply.refused number place) area work
step_admitted (Reply.answered t) area work = step_next t (next t) area work

unfoldable pub stepping_of : (area : List ℕ) (len : ℕ) (work : List ℕ) → After
stepping_of area len work = step_admitted (admitted area len work) area work
