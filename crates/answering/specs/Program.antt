-- The finishing and the checking program, as functions on the whole of standard input (REQUIREMENTS, Programs): input of another shape
-- than the finishing program's line is refused ahead of finishing's own refusals.
use Rattle.std.specs.Prelude.{ℕ, ◌-◌, Bool, true, false, List, [], ◌++◌, length, take, replicate, Result, Ok, Err}
use Rattle.std.proofs.Math.Option.{Option, none, some}
use Rattle.finish_line.specs.Request.{Request, request_of}
use Rattle.finish_line.specs.Answer.{shape_refusal}
use Rattle.finishing.specs.Finishing.{After, finishing_of}
use Rattle.derivation_files.specs.Checking.{checking_of}
use Rattle.answer_lines.specs.Shown.{refusal_line, shown_run, shown_check}

-- input of another shape
abbrev pub shape_line : List ℕ
shape_line = refusal_line shape_refusal

-- an area of that many bytes: at its front the bytes, as many as fit, and zeros behind them
abbrev pub area_with : (area : ℕ) → List ℕ → List ℕ
area_with area bytes = take area bytes ++ replicate (area - length bytes) 0

-- what is made of a line: of one of another shape, or of finishing's answer to what it asks for
abbrev pub requested : {X : Type 0} → X → (After → X) → Option Request → X
requested other answered none = other
requested other answered (some (Request.request fuel area term)) =
    answered (finishing_of (area_with area term) (length term) (replicate area 0) fuel)

abbrev pub request_line : Option Request → List ℕ
request_line asks = requested shape_line shown_run asks

-- what the finishing program prints
unfoldable pub finish_program : List ℕ → List ℕ
finish_program input = request_line (request_of input)

-- what the checking program prints
unfoldable pub check_program : List ℕ → List ℕ
check_program file = shown_check (checking_of file)

-- what goes to standard output: nothing where standard input could not be read
abbrev pub unless_failed : Bool → List ℕ → List ℕ
unless_failed true line = []
unless_failed false line = line

-- the same by what was read: the line of it, and nothing of an error
abbrev pub unless_error : {X E : Type 0} → Result X E → (X → List ℕ) → List ℕ
unless_error (Ok x) line = unless_failed false (line x)
unless_error (Err e) line = unless_failed true []
