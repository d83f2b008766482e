-- What a line that has been fed its input asks for (REQUIREMENTS, Small terms).
use Rattle.std.specs.Prelude.{ℕ, Option, None, Some}
use Rattle.decimals.specs.Parsed as decimals
use Rattle.line_states.specs.declared.Line.{Line}
use Rattle.line_states.specs.declared.Line.TheVariants.{InFirst, InSecond, InThird, Ended, Other}
use Rattle.sweep_line.specs.declared.Request.{Request}

-- a request where the third field is a number
abbrev pub asked_with : (size fuel : ℕ) → Option ℕ → Option Request
asked_with size fuel (Some area) = Some (record { size = size; fuel = fuel; area = area })
asked_with size fuel None = None

-- and only where the line has ended and nothing came behind it
abbrev pub asked_of : Line → Option Request
asked_of (InFirst number) = None
asked_of (InSecond first number) = None
asked_of (InThird first second number length) = None
asked_of (Ended first second third length) = asked_with first second (decimals.parsed_of third)
asked_of Other = None
