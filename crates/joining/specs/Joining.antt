-- What joining answers and leaves in the area, for any call (REQUIREMENTS, Joining).
use Rattle.std.specs.Prelude.{ℕ, List, ltb, length}
use Rattle.calculus.specs.Term.{Term, size}
use Rattle.reading.specs.Reply.{Reply, refuse_if}
use Rattle.reading.specs.Reading.{term_read}
use Rattle.reading.specs.Area.{holding}
use Rattle.joining.specs.Join.{join}

-- the reply, which is the size of the join or a refusal, and the area at exit
pub data After : Type 0 where
  after : (reply : Reply ℕ) (area : List ℕ) → After

-- the refusal of the first, else that of the second, else 31 if their join is larger than the area
abbrev pub admitted : (first second : Reply Term) (area : List ℕ) → Reply Term
admitted (Reply.refused number place) second area = Reply.refused number place
admitted (Reply.answered f) (Reply.refused number place) area = Reply.refused number place
admitted (Reply.answered f) (Reply.answered g) area = refuse_if (ltb (length area) (size (join f g))) 31 (Reply.answered (join f g))

-- the join in the area; a refusal leaves the area as it is
abbrev pub written : Reply Term → (area : List ℕ) → After
written (Reply.refused number place) area = After.after (Reply.refused number place) area
written (Reply.answered t) area = After.after (Reply.answered (size t)) (holding t area)

unfoldable pub joining_of : (f g area : List ℕ) → After
joining_of f g area = written (admitted (term_read f) (term_read g) area) area
