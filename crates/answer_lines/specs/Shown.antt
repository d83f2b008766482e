-- The line that is printed of an answer (REQUIREMENTS, Programs).
use Rattle.std.specs.Prelude.{ℕ, List, take}
use Rattle.calculus.specs.Run.{Outcome}
use Rattle.calculus.specs.Ascii.{ascii}
use Rattle.reading.specs.Reply.{Reply, number_in, place_in}
use Rattle.finishing.specs.Finishing.{Ran, After}
use Rattle.printing.specs.Printed.{line_of, numbers_of, count_of}

abbrev pub word : Outcome → List ℕ
word Outcome.finished = ascii "finished"
word Outcome.spent = ascii "spent"
word Outcome.no_room = ascii "no room"

-- a refusal's number and its place or line
abbrev pub refused_line : (number place : ℕ) → List ℕ
refused_line number place = numbers_of (ascii "refused") number place

-- the line of a refusal alone
abbrev pub refusal_line : {X : Type 0} → Reply X → List ℕ
refusal_line reply = refused_line (number_in reply) (place_in reply)

-- a run's outcome and count, and the term now in the area
abbrev pub ran_line : Ran → (area : List ℕ) → List ℕ
ran_line (Ran.ran o count byRule size) area = line_of (word o) count (take size area)

abbrev pub reply_line : Reply Unit → Ran → (area : List ℕ) → List ℕ
reply_line (Reply.refused number place) r area = refused_line number place
reply_line (Reply.answered done) r area = ran_line r area

-- the line of finishing's answer
abbrev pub shown_run : After → List ℕ
shown_run (After.after reply r area work) = reply_line reply r area

-- the line of checking's answer
abbrev pub shown_check : Reply ℕ → List ℕ
shown_check (Reply.refused number line) = refused_line number line
shown_check (Reply.answered lines) = count_of (ascii "accepted") lines
