-- What a line that has been fed its input asks for, and what refuses input that asks for nothing (REQUIREMENTS, Programs).
use Rattle.std.specs.Prelude.{ℕ, Bool, true, false, Option, None, Some}
use Rattle.line_states.specs.declared.Line.{Line}
use Rattle.line_states.specs.declared.Line.TheVariants.{InFirst, InSecond, InThird, Ended, Other}
use Rattle.reading.specs.Reply.{Reply}
use Rattle.finish_line.specs.Request.{is_area_size}
use Rattle.finish_line.specs.declared.Request.{Request}

-- a request where the area size is in range
abbrev pub asked_if : (sized : Bool) → (fuel area length : ℕ) → Option Request
asked_if true fuel area length = Some (record { fuel = fuel; area = area; length = length })
asked_if false fuel area length = None

abbrev pub asked_with : (fuel area length : ℕ) → Option Request
asked_with fuel area length = asked_if (is_area_size area) fuel area length

-- and only where the line has ended and nothing came behind it
abbrev pub asked_of : Line → Option Request
asked_of (InFirst number) = None
asked_of (InSecond first number) = None
asked_of (InThird first second number length) = None
asked_of (Ended first second third length) = asked_with first second length
asked_of Other = None

-- what refuses input of another shape
abbrev pub shape_refusal : Reply ⊥
shape_refusal = Reply.refused 19 0
