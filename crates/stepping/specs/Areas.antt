-- The lent areas: what stepping and the operations on it refuse of them (REQUIREMENTS, Stepping, the numbers 1 to 3).
use Rattle.std.specs.Prelude.{ℕ, List, ltb, length}
use Rattle.calculus.specs.Limits.{area_limit}
use Rattle.reading.specs.Reply.{Reply, refuse_if}

-- 1, 2 and 3, else the other reply
abbrev pub refused_areas : {X : Type 0} (area : List ℕ) (len : ℕ) (work : List ℕ) → Reply X → Reply X
refused_areas area len work other =
    refuse_if (ltb area_limit (length area)) 1
    (refuse_if (ltb (length work) (length area)) 2
    (refuse_if (ltb (length area) len) 3 other))
