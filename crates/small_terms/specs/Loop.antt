-- What the runs of small terms ask and leave: one run, and the runs so far (REQUIREMENTS, Small terms).
use Rattle.std.specs.Prelude.{ℕ, Option, Some, None, ◌+◌, ◌*◌, ◌≤◌, ◌<◌, ◌≡◌, cond, List, map, leb, length, take}
use Rattle.calculus.specs.Limits.{fuel_limit}
use Rattle.calculus.specs.Run.{Outcome, run, outcome, count}
use Rattle.small_texts.specs.Texts.{term_at, small_terms}
use Rattle.small_admission.specs.Admission.{Admitted}
use Rattle.small_terms.specs.Sweep.{Swept, swept_of}

-- areas for a call that is not refused
pub record Ready (n fuel : ℕ) (area work : List ℕ) : Type 0 where
  pub asked : Admitted n fuel (length area)
  pub level : length work ≡ length area

-- `Ran n i fuel area o k`: the run of small term i, from 0, ends so and makes that many steps
pub record Ran (n i fuel area : ℕ) (o : Outcome) (k : ℕ) : Type 0 where
  pub ends : o ≡ outcome (run fuel area (term_at n i))
  pub counts : k ≡ count (run fuel area (term_at n i))
  pub bounded : k ≤ fuel_limit

-- what runs come to with one more
abbrev pub with_run : Outcome → ℕ → Swept → Swept
with_run Outcome.finished k (Swept.swept f s n steps) = Swept.swept (f + 1) s n (steps + k)
with_run Outcome.spent k (Swept.swept f s n steps) = Swept.swept f (s + 1) n steps
with_run Outcome.no_room k (Swept.swept f s n steps) = Swept.swept f s (n + 1) steps

-- no size has more small terms
abbrev pub most_terms : ℕ
most_terms = 9202

-- no number is larger than so many runs can make it
abbrev pub Few : ℕ → Swept → Type 0
Few i (Swept.swept f s n steps) = (f ≤ i) × (s ≤ i) × (n ≤ i) × (steps ≤ fuel_limit * i)

-- `Summed n fuel area i w`: the runs of the first i small terms come to w
pub record Summed (n fuel area i : ℕ) (w : Swept) : Type 0 where
  pub sums : w ≡ swept_of (map (run fuel area) (take i (small_terms n)))
  pub few : Few i w

-- ---- the dearest

-- the index of the dearest run so far, and the steps that it makes
pub data Lead : Type 0 where
  lead : (index steps : ℕ) → Lead

-- a run that finished with so many steps, behind the dearest so far, if there is one
abbrev pub overtaken : (i k : ℕ) → Option Lead → Option Lead
overtaken i k None = Some (Lead.lead i k)
overtaken i k (Some (Lead.lead index steps)) = cond (leb k steps) (Some (Lead.lead index steps)) (Some (Lead.lead i k))

-- the dearest of the runs so far and of run i, which ends so and makes k steps
abbrev pub with_later : Outcome → (i k : ℕ) → Option Lead → Option Lead
with_later Outcome.finished i k l = overtaken i k l
with_later Outcome.spent i k l = l
with_later Outcome.no_room i k l = l

-- `FinishesAt n fuel area i k`: the run of small term i finishes, and makes k steps
pub record FinishesAt (n fuel area i k : ℕ) : Type 0 where
  pub ends : outcome (run fuel area (term_at n i)) ≡ Outcome.finished
  pub counts : count (run fuel area (term_at n i)) ≡ k

-- `Leading n fuel area i index k`: of the runs of the first i small terms that one, of k steps, is the dearest
pub record Leading (n fuel area i index k : ℕ) : Type 0 where
  pub inside : index < i
  pub finishes : FinishesAt n fuel area index k
  -- none makes more
  pub none_more : (j : ℕ) → j < i → (m : ℕ) → FinishesAt n fuel area j m → m ≤ k
  -- and no earlier one as many
  pub none-earlier : (j : ℕ) → j < index → (m : ℕ) → FinishesAt n fuel area j m → m < k

-- the dearest of those runs, or that none of them finishes
abbrev pub Leads : (n fuel area i : ℕ) → Option Lead → Type 0
Leads n fuel area i None = (j : ℕ) → j < i → (m : ℕ) → ¬ FinishesAt n fuel area j m
Leads n fuel area i (Some (Lead.lead index k)) = Leading n fuel area i index k
