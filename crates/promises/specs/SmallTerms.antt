-- What a sweep and the dearest term say of small terms (REQUIREMENTS, Small terms), beside the demands: which terms are run, how many they
-- are, what the numbers of any answer are, and which fuel is enough. `small-terms_say` of proofs/SmallTerms.antt is the proof.
use Rattle.std.specs.Prelude.{ℕ, ◌+◌, ◌*◌, ◌≤◌, ◌<◌, ◌≡◌, List, [], ◌∷◌, map, length}
use Rattle.calculus.specs.Term.{Term}
use Rattle.calculus.specs.Run.{Outcome, Run, Runs, outcome}
use Rattle.reading.specs.Reply.{Reply}
use Rattle.repeats.specs.Repeats.{NoRepeats}
use Rattle.small_texts.specs.Small.{Small, EachSmall}
use Rattle.small_texts.specs.Texts.{small_terms}
use Rattle.small_terms.specs.Sweep.{Swept, sweep_of}
use Rattle.small_terms.specs.Dearest.{Finishes, Dearest}

-- `Answers n fuel area f s r k`: the sweep is not refused, and those are its four numbers
abbrev pub Answers : (n fuel area finished spent no_room steps : ℕ) → Type 0
Answers n fuel area finished spent no_room steps = sweep_of n fuel area ≡ Reply.answered (Swept.swept finished spent no_room steps)

pub record SmallTermsSay : Type 0 where
  -- the terms that are run are every small term of the size and nothing else, in byte order
  pub each : (n : ℕ) → EachSmall n (small_terms n)
  -- no other list is that
  pub one_list : (n : ℕ) (ts us : List Term) → EachSmall n ts → EachSmall n us → ts ≡ us
  -- and none stands in it twice
  pub none-twice : (n : ℕ) (ts : List Term) → EachSmall n ts → NoRepeats ts
  -- of 1 to 7 letters there are so many
  pub counts :
      map (λ (n : ℕ). length (small_terms n)) (1 ∷ 2 ∷ 3 ∷ 4 ∷ 5 ∷ 6 ∷ 7 ∷ []) ≡ 2 ∷ 2 ∷ 18 ∷ 50 ∷ 354 ∷ 1442 ∷ 9202 ∷ []
  -- each of them is in one of the three counts
  pub all-counted :
      (n fuel area finished spent no_room steps : ℕ) → Answers n fuel area finished spent no_room steps →
      finished + spent + no_room ≡ length (small_terms n)
  -- some run finishes, so the steps can be divided by how many do
  pub never_none :
      (n fuel area finished spent no_room steps : ℕ) → Answers n fuel area finished spent no_room steps → 1 ≤ finished
  -- where as many finish as there are small terms, the run of each does
  pub all_finished :
      (n fuel area finished spent no_room steps : ℕ) → Answers n fuel area finished spent no_room steps → finished ≡ length (small_terms n) →
      (t : Term) → Small n t → (r : Run) → Runs fuel area 0 t r → outcome r ≡ Outcome.finished
  -- the steps are at most the fuel for each small term
  pub steps-few :
      (n fuel area finished spent no_room steps : ℕ) → Answers n fuel area finished spent no_room steps →
      steps ≤ fuel * length (small_terms n)
  -- of every size from 1 on there is a dearest small term, with any fuel and in any area
  pub some-dearest : (n fuel area : ℕ) → 1 ≤ n → (t : Term) × (k : ℕ) × Dearest n fuel area t k
  -- and only one
  pub one-dearest :
      (n fuel area : ℕ) (t u : Term) (k m : ℕ) → Dearest n fuel area t k → Dearest n fuel area u m → (t ≡ u) × (k ≡ m)
  -- its steps are fuel enough for every small term of that size that finishes, in as many steps as before
  pub fuel-enough :
      (n fuel area : ℕ) (t u : Term) (k m : ℕ) → Dearest n fuel area t k → Small n u → Finishes fuel area u m → Finishes k area u m
  -- and with less fuel it does not finish itself
  pub fuel-needed :
      (n fuel area : ℕ) (t : Term) (k less m : ℕ) → Dearest n fuel area t k → less < k → ¬ Finishes less area t m
