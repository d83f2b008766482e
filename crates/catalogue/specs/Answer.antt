-- The number and the place of each case that an entry is refused for, and the value of each that is answered (REQUIREMENTS, Catalogue).
use Rattle.std.specs.Prelude.{Result, Ok, Err}
use Rattle.reading.specs.Reply.{Reply, passed_on}
use Rattle.reading.specs.Answer.{refusal_of as misread_of}
use Rattle.entries.specs.Entering.{Entered}
use Rattle.catalogue.specs.declared.Refused.{Refused}
use Rattle.catalogue.specs.declared.Refused.TheVariants.{StoreTooShort, NoCatalogue, Unread, NotNormal, Full}
use Rattle.catalogue.specs.declared.Entered.{Entered as Declared}
use Rattle.catalogue.specs.declared.Entered.TheVariants.{Known, New}

abbrev pub refusal_of : Refused → Reply ⊥
refusal_of StoreTooShort = Reply.refused 2 0
refusal_of NoCatalogue = Reply.refused 28 0
refusal_of (Unread misread) = misread_of misread
refusal_of NotNormal = Reply.refused 29 0
refusal_of Full = Reply.refused 30 0

abbrev pub entered_of : Declared → Entered
entered_of (Known number) = Entered.known number
entered_of (New number) = Entered.new number

abbrev pub answer_of : Result Declared Refused → Reply Entered
answer_of (Ok entered) = Reply.answered (entered_of entered)
answer_of (Err refused) = passed_on (refusal_of refused)
