-- The value of each case of an answer on small terms (REQUIREMENTS, Small terms).
use Rattle.std.specs.Prelude.{ℕ, List, replicate, Option, Some, None, Result, Ok, Err}
use Rattle.reading.specs.Reply.{Reply, passed_on}
use Rattle.reading.specs.Area.{holding}
use Rattle.small_texts.specs.Texts.{largest_size}
use Rattle.small_admission.specs.Answer.{refusal_of}
use Rattle.small_admission.specs.declared.Refused.{Refused}
use Rattle.small_terms.specs.Sweep.{Swept}
use Rattle.small_terms.specs.Dearest.{Dear}
use Rattle.small_terms.specs.Loop.{Lead}
use Rattle.small_terms.specs.declared.Tally.{Tally}
use Rattle.small_terms.specs.declared.Lead.{Lead as Leader}
use Rattle.small_terms.specs.declared.Finding.{Finding}

abbrev pub swept_in : Tally → Swept
swept_in t = Swept.swept t.finished t.spent t.no_room t.steps

abbrev pub answer_of : Result Tally Refused → Reply Swept
answer_of (Ok tally) = Reply.answered (swept_in tally)
answer_of (Err refused) = passed_on (refusal_of refused)

-- ---- the dearest

-- whether the call is refused, the bytes for a text, and the steps
pub data Found : Type 0 where
  found : Reply Unit → (text : List ℕ) (steps : ℕ) → Found

-- no text
abbrev pub no_text : List ℕ
no_text = replicate largest_size 0

-- the text of the term, and zeros behind it; beside a refusal zeros alone
abbrev pub found_as : Reply Dear → Found
found_as (Reply.refused number place) = Found.found (Reply.refused number place) no_text 0
found_as (Reply.answered (Dear.dear t steps)) = Found.found (Reply.answered tt) (holding t no_text) steps

abbrev pub lead_in : Option Leader → Option Lead
lead_in None = None
lead_in (Some l) = Some (Lead.lead l.index l.steps)

abbrev pub found_in : Result Finding Refused → Found
found_in (Ok d) = Found.found (Reply.answered tt) d.text d.steps
found_in (Err refused) = Found.found (passed_on (refusal_of refused)) no_text 0
