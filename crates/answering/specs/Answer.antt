-- What `answer_run` prints, and what it leaves in the two buffers (REQUIREMENTS, Programs).
use Rattle.std.specs.Prelude.{ℕ, List, ◌++◌, take, drop, Option, None, Some}
use Rattle.reading.specs.Reply.{Reply}
use Rattle.finishing.specs.Finishing.{Ran, After, counts_of, finishing_of}
use Rattle.finish_line.specs.declared.Request.{Request}
use Rattle.answer_lines.specs.Shown.{shown_run}
use Rattle.answering.specs.Program.{shape_line}

-- finishing in the first `area` bytes of both buffers, or in the whole of one that is shorter
abbrev pub finished_in : (fuel area length : ℕ) (term work : List ℕ) → After
finished_in fuel area length term work = finishing_of (take area term) length (take area work) fuel

-- what is made of a call: of a line of another shape, or of finishing's answer
abbrev pub made : {X : Type 0} → X → (After → X) → Option Request → (term work : List ℕ) → X
made other answered None term work = other
made other answered (Some r) term work = answered (finished_in r.fuel r.area r.length term work)

-- the printed line
abbrev pub printed_run : Option Request → (term work : List ℕ) → List ℕ
printed_run asked term work = made shape_line shown_run asked term work

-- how often a run used each rule, by the record, where there was one
abbrev pub used_with : Reply Unit → Ran → Option (List ℕ)
used_with (Reply.refused number place) r = None
used_with (Reply.answered done) r = Some (counts_of r)

abbrev pub used_in : After → Option (List ℕ)
used_in (After.after reply r area work) = used_with reply r

abbrev pub used_of : Option Request → (term work : List ℕ) → Option (List ℕ)
used_of asked term work = made None used_in asked term work

abbrev pub area_in : After → List ℕ
area_in (After.after reply r area work) = area

abbrev pub work_in : After → List ℕ
work_in (After.after reply r area work) = work

-- the buffer of the term behind the call
abbrev pub term_after : Option Request → (term work : List ℕ) → List ℕ
term_after None term work = term
term_after (Some r) term work = area_in (finished_in r.fuel r.area r.length term work) ++ drop r.area term

-- the work buffer behind the call
abbrev pub work_after : Option Request → (term work : List ℕ) → List ℕ
work_after None term work = work
work_after (Some r) term work = work_in (finished_in r.fuel r.area r.length term work) ++ drop r.area work
