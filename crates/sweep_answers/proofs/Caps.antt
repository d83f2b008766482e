-- Numbers that are capped, as a line has them, are refused as the numbers are, or are the numbers: every limit is below the cap. Carried by
-- `decided`. Assumes nothing.
use Prim.Native.Nat.{ℕ, min}
use native.Mathlib.Omega.{arith}
use mathlib.Core.Path.{◌≡◌}
use Rattle.reading.specs.Reply.{Reply}
use Rattle.line_states.specs.Fed.{number_cap}
use Rattle.small_admission.specs.Admission.{SmallSize, admitted, Refused}
use Rattle.small_admission.proofs.Admitting.{refused-is, Decided, decided}

abbrev pub cap : ℕ → ℕ
cap n = min n number_cap

-- what the caps do to a call
pub data Capped (n fuel area : ℕ) : Type 0 where
  alike :
      (number : ℕ) → admitted n fuel area ≡ Reply.refused number 0 → admitted (cap n) (cap fuel) (cap area) ≡ Reply.refused number 0 →
      Capped n fuel area
  unchanged : cap n ≡ n → cap fuel ≡ fuel → cap area ≡ area → Capped n fuel area

pub capped : (n fuel area : ℕ) → Capped n fuel area
capped n fuel area = go (decided n fuel area)
  where
    both : {number : ℕ} → Refused n fuel area number → Refused (cap n) (cap fuel) (cap area) number → Capped n fuel area
    both r s = Capped.alike _ (refused-is r) (refused-is s)

    still : SmallSize n → SmallSize (cap n)
    still (low, high) = (omega arith, omega arith)

    go : {reply : Reply Unit} → Decided n fuel area reply → Capped n fuel area
    go (Decided.refuses (Refused.not-small h)) =
        both (Refused.not-small h) (Refused.not-small (λ (low, high). h (omega arith, omega arith)))
    go (Decided.refuses (Refused.fuel_too_high s h)) = both (Refused.fuel_too_high s h) (Refused.fuel_too_high (still s) (omega arith))
    go (Decided.refuses (Refused.area_too_long s f h)) =
        both (Refused.area_too_long s f h) (Refused.area_too_long (still s) (omega arith) (omega arith))
    go (Decided.refuses (Refused.area_too_short s f a h)) = Capped.unchanged (omega arith) (omega arith) (omega arith)
    go (Decided.admits r) =
        Capped.unchanged (omega (arith, r.small)) (omega (arith, r.fuelled)) (omega (arith, r.short))
