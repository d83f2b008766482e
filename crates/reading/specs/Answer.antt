-- The number and the place of each case that reading refuses, and what it answers (REQUIREMENTS, Reading).
use Rattle.std.specs.Prelude.{ℕ, Result, Ok, Err}
use Rattle.reading.specs.Reply.{Reply, passed_on}
use Rattle.reading.specs.declared.Misread.{Misread}
use Rattle.reading.specs.declared.Misread.TheVariants.{NoLetter, NotWhole, Beyond}

abbrev pub refusal_of : Misread → Reply ⊥
refusal_of (NoLetter place) = Reply.refused 5 place
refusal_of (NotWhole place) = Reply.refused 6 place
refusal_of (Beyond place) = Reply.refused 7 place

abbrev pub answer_of : Result ℕ Misread → Reply ℕ
answer_of (Ok size) = Reply.answered size
answer_of (Err misread) = passed_on (refusal_of misread)
