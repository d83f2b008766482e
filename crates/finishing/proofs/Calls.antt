-- What a call of finishing comes to: a refusal with the areas as they were, or the run. Assumes nothing.
use Prim.Native.Nat.{ℕ}
use mathlib.Core.Path.{◌≡◌, refl}
use mathlib.Core.List.{List}
use lib.ListN.{length}
use Rattle.calculus.specs.Term.{Term}
use Rattle.calculus.specs.Run.{run}
use Rattle.reading.specs.Reply.{Reply}
use Rattle.admission.specs.Admission.{admitted}
use Rattle.admission.proofs.Calls.{Admits, Refused, admitted-held, refused-listed}
use Rattle.finishing.specs.Finishing.{After, no_run, ran_from, finish_admitted, finishing_of}

-- a call of finishing: refused with the areas as they were, or the run of the term that it holds
pub data Call (area : List ℕ) (len : ℕ) (work : List ℕ) (fuel : ℕ) : After → Type 0 where
  refused :
      {number place : ℕ} → Refused len number place →
      Call area len work fuel (After.after (Reply.refused number place) no_run area work)
  made : (t : Term) → Admits area len work fuel t → Call area len work fuel (ran_from t (run fuel (length area) t) area work)

pub call : (area : List ℕ) (len : ℕ) (work : List ℕ) (fuel : ℕ) → Call area len work fuel (finishing_of area len work fuel)
unfolding finishing_of
call area len work fuel = go (admitted area len work fuel) refl
  where
    go : (x : Reply Term) → admitted area len work fuel ≡ x → Call area len work fuel (finish_admitted x area work fuel)
    go (Reply.refused n p) e = Call.refused (refused-listed area len work fuel n p e)
    go (Reply.answered t) e = Call.made t (admitted-held area len work fuel t e)
