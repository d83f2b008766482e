-- Runs (REQUIREMENTS, Finishing), as a function and as a relation. `proofs/Runs.antt` shows that they agree.
-- Before each step three tests, in this order: normal ends the run as finished, no fuel left as spent, a next term over the area as no room.
use Rattle.std.specs.Prelude.{ℕ, zero, suc, ◌≤◌, ◌<◌, max, ◌≡◌, Bool, true, false, List, [], ◌∷◌, leb, length}
use Rattle.calculus.specs.Term.{Term, size, Normal}
use Rattle.calculus.specs.Order.{Next, next, Step}

pub data Outcome : Type 0 where
  finished spent no_room : Outcome

-- a run from a term that is given beside it: its end, or a step by that rule to that term and the run from there
pub data Run : Type 0 where
  end : Outcome → Run
  then : (rule : ℕ) (term : Term) (rest : Run) → Run

-- with no fuel left: finished where nothing comes next, else spent
abbrev pub halted : Next → Run
halted Next.stop = Run.end Outcome.finished
halted (Next.step n u) = Run.end Outcome.spent

-- a step to u where it fits the area, and the run from there; else no room
abbrev pub stepped : Bool → ℕ → Term → (Term → Run) → Run
stepped true n u onward = Run.then n u (onward u)
stepped false n u onward = Run.end Outcome.no_room

-- with fuel left: finished where nothing comes next, else a step, if there is room
abbrev pub continued : (area : ℕ) → Next → (Term → Run) → Run
continued area Next.stop onward = Run.end Outcome.finished
continued area (Next.step n u) onward = stepped (leb (size u) area) n u onward

-- the run of a term in an area of that many bytes, with that fuel left
abbrev pub run : (fuel area : ℕ) → Term → Run
run zero area t = halted (next t)
run (suc fuel) area t = continued area (next t) (λ u. run fuel area u)

abbrev pub outcome : Run → Outcome
outcome (Run.end o) = o
outcome (Run.then n u r) = outcome r

-- the numbers of the rules used, in order
abbrev pub rules : Run → List ℕ
rules (Run.end o) = []
rules (Run.then n u r) = n ∷ rules r

-- the count of steps made
abbrev pub count : Run → ℕ
count r = length (rules r)

-- the terms of a run that starts from t
abbrev pub terms : Term → Run → List Term
terms t (Run.end o) = t ∷ []
terms t (Run.then n u r) = t ∷ terms u r

-- the term reached by a run that starts from t
abbrev pub reached : Term → Run → Term
reached t (Run.end o) = t
reached t (Run.then n u r) = reached u r

-- the size of the largest term that a run steps to, 0 where it makes no step
abbrev pub largest : Run → ℕ
largest (Run.end o) = 0
largest (Run.then n u r) = max (size u) (largest r)

-- the loop as a relation: `Runs fuel area made t r` says that from t, with that many steps made, r is the rest of the run
pub data Runs (fuel area : ℕ) : (made : ℕ) → Term → Run → Type 0 where
  finished : {made : ℕ} {t : Term} → Normal t → Runs fuel area made t (Run.end Outcome.finished)
  spent : {made : ℕ} {t : Term} → ¬ Normal t → made ≡ fuel → Runs fuel area made t (Run.end Outcome.spent)
  no_room :
      {made n : ℕ} {t u : Term} → ¬ Normal t → ¬ (made ≡ fuel) → Step n t u → area < size u → Runs fuel area made t (Run.end Outcome.no_room)
  one-step :
      {made n : ℕ} {t u : Term} {r : Run} →
      ¬ Normal t → ¬ (made ≡ fuel) → Step n t u → size u ≤ area → Runs fuel area (suc made) u r → Runs fuel area made t (Run.then n u r)
