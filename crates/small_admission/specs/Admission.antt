-- Which calls for small terms are refused, and with what (REQUIREMENTS, Small terms): as a function, and as a relation.
-- proofs/Admitting.antt shows that they agree.
use Rattle.std.specs.Prelude.{ℕ, ◌≤◌, ◌<◌, Bool, not, ◌&&◌, leb, ltb}
use Rattle.calculus.specs.Limits.{area_limit, fuel_limit}
use Rattle.reading.specs.Reply.{Reply, refuse_if}
use Rattle.small_texts.specs.Texts.{largest_size}

-- the size of the smallest terms that are run; that of the largest is `largest_size`
abbrev pub smallest_size : ℕ
smallest_size = 1

-- ---- as a function

-- whether terms of that size are run
abbrev pub is_small_size : ℕ → Bool
is_small_size n = leb smallest_size n && leb n largest_size

-- whether a call with these three numbers is refused
unfoldable pub admitted : (n fuel area : ℕ) → Reply Unit
admitted n fuel area =
    refuse_if (not (is_small_size n)) 32
    (refuse_if (ltb fuel_limit fuel) 4
    (refuse_if (ltb area_limit area) 1
    (refuse_if (ltb area n) 3
    (Reply.answered tt))))

-- what is answered unless the call is refused
abbrev pub if_admitted : {X : Type 0} → Reply Unit → X → Reply X
if_admitted (Reply.refused number place) x = Reply.refused number place
if_admitted (Reply.answered u) x = Reply.answered x

-- ---- as a relation

-- sizes of terms that are run
abbrev pub SmallSize : ℕ → Type 0
SmallSize n = (smallest_size ≤ n) × (n ≤ largest_size)

-- `Refused n fuel area number`: the call is refused with that number
pub data Refused (n fuel area : ℕ) : (number : ℕ) → Type 0 where
  not-small : ¬ SmallSize n → Refused n fuel area 32
  fuel_too_high : SmallSize n → fuel_limit < fuel → Refused n fuel area 4
  area_too_long : SmallSize n → fuel ≤ fuel_limit → area_limit < area → Refused n fuel area 1
  area_too_short : SmallSize n → fuel ≤ fuel_limit → area ≤ area_limit → area < n → Refused n fuel area 3

-- the numbers of a call that is not refused
pub record Admitted (n fuel area : ℕ) : Type 0 where
  pub small : SmallSize n
  pub fuelled : fuel ≤ fuel_limit
  pub short : area ≤ area_limit
  pub room : n ≤ area
