-- Every small term run, and what becomes of the runs (REQUIREMENTS, Small terms): as a function, and as a relation over the loop of
-- finishing. proofs/Sweeps.antt shows that they agree.
use Rattle.std.specs.Prelude.{ℕ, suc, ◌+◌, ◌≡◌, Bool, true, false, cond, List, [], ◌∷◌, map, length}
use Rattle.calculus.specs.Term.{Term}
use Rattle.calculus.specs.Run.{Outcome, Run, Runs, run, outcome, count}
use Rattle.reading.specs.Reply.{Reply}
use Rattle.small_texts.specs.Small.{EachSmall}
use Rattle.small_texts.specs.Texts.{small_terms}
use Rattle.small_admission.specs.Admission.{admitted, if_admitted, Refused, Admitted}

-- how many runs finished, were spent and had no room, and the steps of the finished ones in all
pub data Swept : Type 0 where
  swept : (finished spent no_room steps : ℕ) → Swept

-- ---- as a function

-- whether two outcomes are the same
abbrev pub is_outcome : Outcome → Outcome → Bool
is_outcome Outcome.finished Outcome.finished = true
is_outcome Outcome.finished Outcome.spent = false
is_outcome Outcome.finished Outcome.no_room = false
is_outcome Outcome.spent Outcome.finished = false
is_outcome Outcome.spent Outcome.spent = true
is_outcome Outcome.spent Outcome.no_room = false
is_outcome Outcome.no_room Outcome.finished = false
is_outcome Outcome.no_room Outcome.spent = false
is_outcome Outcome.no_room Outcome.no_room = true

-- the runs that end so
abbrev pub ending : Outcome → List Run → List Run
ending o [] = []
ending o (r ∷ rs) = let rest = ending o rs in cond (is_outcome o (outcome r)) (r ∷ rest) rest

-- the steps of runs in all
abbrev pub steps_of : List Run → ℕ
steps_of [] = 0
steps_of (r ∷ rs) = count r + steps_of rs

abbrev pub swept_of : List Run → Swept
swept_of rs =
    Swept.swept
    (length (ending Outcome.finished rs)) (length (ending Outcome.spent rs)) (length (ending Outcome.no_room rs))
    (steps_of (ending Outcome.finished rs))

-- the answer to any three numbers
unfoldable pub sweep_of : (n fuel area : ℕ) → Reply Swept
sweep_of n fuel area = if_admitted (admitted n fuel area) (swept_of (map (run fuel area) (small_terms n)))

-- ---- as a relation

-- `Sums fuel area ts w`: the runs of these terms come to so much
pub data Sums (fuel area : ℕ) : List Term → Swept → Type 0 where
  nothing : Sums fuel area [] (Swept.swept 0 0 0 0)
  finishes :
      {t : Term} {ts : List Term} {r : Run} {f s n k : ℕ} → Runs fuel area 0 t r → outcome r ≡ Outcome.finished →
      Sums fuel area ts (Swept.swept f s n k) → Sums fuel area (t ∷ ts) (Swept.swept (suc f) s n (count r + k))
  is-spent :
      {t : Term} {ts : List Term} {r : Run} {f s n k : ℕ} → Runs fuel area 0 t r → outcome r ≡ Outcome.spent →
      Sums fuel area ts (Swept.swept f s n k) → Sums fuel area (t ∷ ts) (Swept.swept f (suc s) n k)
  has_no_room :
      {t : Term} {ts : List Term} {r : Run} {f s n k : ℕ} → Runs fuel area 0 t r → outcome r ≡ Outcome.no_room →
      Sums fuel area ts (Swept.swept f s n k) → Sums fuel area (t ∷ ts) (Swept.swept f s (suc n) k)

-- `SweepsAs n fuel area reply`: each reply and when it is given
pub data SweepsAs (n fuel area : ℕ) : Reply Swept → Type 0 where
  refuses : {number : ℕ} → Refused n fuel area number → SweepsAs n fuel area (Reply.refused number 0)
  sweeps :
      {ts : List Term} {w : Swept} → Admitted n fuel area → EachSmall n ts → Sums fuel area ts w → SweepsAs n fuel area (Reply.answered w)
