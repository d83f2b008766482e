-- What the program for the mix of rules prints: the finishing program's line and, unless it refuses, a line for each rule (REQUIREMENTS,
-- Programs).
use Rattle.std.specs.Prelude.{ℕ, Bool, true, false, List, [], ◌∷◌, Option, Result, Ok, Err}
use Rattle.reading.specs.Reply.{Reply}
use Rattle.finishing.specs.Finishing.{After, counts_of}
use Rattle.answer_lines.specs.Shown.{shown_run}
use Rattle.finish_line.specs.Request.{request_of}
use Rattle.finish_line.specs.declared.Request.{Request}
use Rattle.answering.specs.Program.{shape_line, requested}
use Rattle.answering.specs.Answer.{made}
use Rattle.mix_lines.specs.Mix.{mix_rows}
use Rattle.mix_lines.specs.PutAll.{joined}

-- the lines of finishing's answer
abbrev pub mix_lines : After → List (List ℕ)
mix_lines (After.after (Reply.refused number place) r area work) = shown_run (After.after (Reply.refused number place) r area work) ∷ []
mix_lines (After.after (Reply.answered done) r area work) = shown_run (After.after (Reply.answered done) r area work) ∷ mix_rows (counts_of r)

-- the lines that `answer_mix` puts into its buffer
abbrev pub printed_mix : Option Request → (term work : List ℕ) → List (List ℕ)
printed_mix asked term work = made (shape_line ∷ []) mix_lines asked term work

-- what the program prints, as a function on the whole of standard input
unfoldable pub mix_program : List ℕ → List ℕ
mix_program input = joined (requested (shape_line ∷ []) mix_lines (request_of input))

-- what goes to standard output: nothing where standard input could not be read
abbrev pub none_failed : Bool → List (List ℕ) → List (List ℕ)
none_failed true lines = []
none_failed false lines = lines

-- the same by what was read: the lines of it, and none of an error
abbrev pub none_error : {X E : Type 0} → Result X E → (X → List (List ℕ)) → List (List ℕ)
none_error (Ok x) lines = none_failed false (lines x)
none_error (Err e) lines = none_failed true []
