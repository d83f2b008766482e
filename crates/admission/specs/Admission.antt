-- Which calls of finishing are refused, and the term of one that is not (REQUIREMENTS, Finishing).
use Rattle.std.specs.Prelude.{ℕ, List, ltb, take}
use Rattle.calculus.specs.Limits.{fuel_limit}
use Rattle.calculus.specs.Term.{Term}
use Rattle.reading.specs.Reply.{Reply, refuse_if}
use Rattle.reading.specs.Reading.{term_read}
use Rattle.stepping.specs.Areas.{refused_areas}

-- the term to finish, or the refusal
abbrev pub admitted : (area : List ℕ) (len : ℕ) (work : List ℕ) (fuel : ℕ) → Reply Term
admitted area len work fuel = refused_areas area len work (refuse_if (ltb fuel_limit fuel) 4 (term_read (take len area)))

-- whether the call is refused
abbrev pub admission : Reply Term → Reply Unit
admission (Reply.refused number place) = Reply.refused number place
admission (Reply.answered t) = Reply.answered tt
