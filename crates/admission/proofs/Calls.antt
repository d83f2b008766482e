-- What admission comes to: a refusal by one of its numbers, or the term that the area holds. Assumes nothing.
use Prim.Native.Nat.{ℕ, ◌≤◌, min}
use mathlib.Core.Path.{◌≡◌}
use mathlib.Core.List.{List, [], ◌∷◌}
use borrow.Author.Tests.{ltb-false}
use lib.Dec.{ltb}
use lib.ListN.{take}
use Rattle.calculus.specs.Limits.{area_limit, fuel_limit}
use Rattle.calculus.specs.Term.{Term}
use Rattle.reading.specs.Reply.{Reply, refuse_if, Refuses}
use Rattle.reading.specs.Reading.{term_read}
use Rattle.reading.proofs.Numbers.{term_passed}
use Rattle.reading.proofs.Refusing.{passed, passed_on_lem, refused_by}
use Rattle.stepping.specs.Held.{Holds}
use Rattle.stepping.proofs.Calls.{Areas, areas_passed, areas-refused, within-term}
use Rattle.admission.specs.Admission.{admitted}

-- a call that is not refused: its areas, its fuel and the term that it holds
pub record Admits (area : List ℕ) (len : ℕ) (work : List ℕ) (fuel : ℕ) (t : Term) : Type 0 where
  pub areas : Areas area len work
  pub fuelled : fuel ≤ fuel_limit
  pub held : Holds area len t
  pub admits : admitted area len work fuel ≡ Reply.answered t

pub admitted-held :
    (area : List ℕ) (len : ℕ) (work : List ℕ) (fuel : ℕ) (t : Term) → admitted area len work fuel ≡ Reply.answered t →
    Admits area len work fuel t
admitted-held area len work fuel t e =
    let read = term_read (take len area) in
    let (areas, f) = areas_passed area len work (refuse_if (ltb fuel_limit fuel) 4 read) t e in
    record {
      areas = areas;
      fuelled = ltb-false fuel_limit fuel (passed (ltb fuel_limit fuel) 4 read t f);
      held = record { within = areas.within; written = term_passed (take len area) t (passed_on_lem (ltb fuel_limit fuel) 4 read t f) };
      admits = e;
    }

-- the refusals of finishing: 1 to 4 at place 0, and reading's own
abbrev pub Refused : (len number place : ℕ) → Type 0
Refused len number place = Refuses (1 ∷ 2 ∷ 3 ∷ 4 ∷ []) (5 ∷ 6 ∷ 7 ∷ []) 0 (min len area_limit) number place

pub refused-listed :
    (area : List ℕ) (len : ℕ) (work : List ℕ) (fuel n p : ℕ) → admitted area len work fuel ≡ Reply.refused n p → Refused len n p
refused-listed area len work fuel n p =
    areas-refused area len work (refuse_if (ltb fuel_limit fuel) 4 (term_read (take len area))) (4 ∷ []) (5 ∷ 6 ∷ 7 ∷ []) 0 (min len area_limit) n p
    (λ short. refused_by (ltb fuel_limit fuel) 4 n p (term_read (take len area)) [] (5 ∷ 6 ∷ 7 ∷ []) 0 (min len area_limit) (λ fuelled. within-term area len n p short))
