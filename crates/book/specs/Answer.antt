-- The number and the line of each case that playing refuses, and what it answers (REQUIREMENTS, Books). What is refused of the book stands
-- beside its reading.
use Rattle.std.specs.Prelude.{Result, Ok, Err}
use Rattle.reading.specs.Reply.{Reply, passed_on}
use Rattle.finishing.specs.Answer.{outcome_of}
use Rattle.books.specs.Playing as playing
use Rattle.book_reading.specs.Answer.{refusal_of as unread_of}
use Rattle.book.specs.declared.Played.{Played}
use Rattle.book.specs.declared.Refused.{Refused}
use Rattle.book.specs.declared.Refused.TheVariants.{AreaTooLong, WorkTooShort, StoreTooShort, FuelTooHigh, Unread}

abbrev pub refusal_of : Refused → Reply ⊥
refusal_of AreaTooLong = Reply.refused 1 0
refusal_of WorkTooShort = Reply.refused 2 0
refusal_of StoreTooShort = Reply.refused 2 0
refusal_of FuelTooHigh = Reply.refused 4 0
refusal_of (Unread unread) = unread_of unread

abbrev pub played_of : Played → playing.Played
played_of played = playing.Played.played (outcome_of played.outcome) played.line played.size

abbrev pub answer_of : Result Played Refused → Reply playing.Played
answer_of (Ok played) = Reply.answered (played_of played)
answer_of (Err refused) = passed_on (refusal_of refused)
