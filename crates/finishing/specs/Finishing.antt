-- What finishing answers and leaves in the areas, for any call (REQUIREMENTS, Finishing).
use Rattle.std.specs.Prelude.{ℕ, List, length, replicate}
use Rattle.calculus.specs.Term.{Term, size}
use Rattle.calculus.specs.Rule.{rule_numbers}
use Rattle.calculus.specs.Run.{Outcome, Run, run, outcome, count, reached}
use Rattle.calculus.specs.Counts.{uses}
use Rattle.reading.specs.Reply.{Reply}
use Rattle.reading.specs.Area.{holding, cleared}
use Rattle.admission.specs.Admission.{admitted}

-- the record of a run: its outcome, its count, how often it used each rule, and the size of the term reached
pub data Ran : Type 0 where
  ran : Outcome → (count : ℕ) (byRule : List ℕ) (size : ℕ) → Ran

-- whether the call is refused, the record, and the two areas at exit
pub data After : Type 0 where
  after : Reply Unit → Ran → (area work : List ℕ) → After

-- how often each rule was used, by the record
abbrev pub counts_of : Ran → List ℕ
counts_of (Ran.ran o count byRule size) = byRule

abbrev pub record_of : Term → Run → Ran
record_of t r = Ran.ran (outcome r) (count r) (uses r) (size (reached t r))

-- no use of any rule
abbrev pub no_uses : List ℕ
no_uses = replicate (length rule_numbers) 0

-- the record that stands beside a refusal
abbrev pub no_run : Ran
no_run = Ran.ran Outcome.spent 0 no_uses 0

-- the run of t in the areas
abbrev pub ran_from : (t : Term) (r : Run) (area work : List ℕ) → After
ran_from t r area work = After.after (Reply.answered tt) (record_of t r) (holding (reached t r) area) (cleared work)

-- a refusal leaves both areas as they are
abbrev pub finish_admitted : Reply Term → (area work : List ℕ) (fuel : ℕ) → After
finish_admitted (Reply.refused number place) area work fuel = After.after (Reply.refused number place) no_run area work
finish_admitted (Reply.answered t) area work fuel = ran_from t (run fuel (length area) t) area work

unfoldable pub finishing_of : (area : List ℕ) (len : ℕ) (work : List ℕ) (fuel : ℕ) → After
finishing_of area len work fuel = finish_admitted (admitted area len work fuel) area work fuel
