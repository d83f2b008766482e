-- A line that is fed the whole input, in chunks cut anywhere, asks for what `numbers_of` says of the input. Carried by what the line says of
-- its parts (`line-says`). Assumes nothing.
use Prim.Native.Nat.{ℕ, min}
use mathlib.Core.Path.{◌≡◌, refl, ◌∙◌, ap}
use mathlib.Core.Option.{Option as Maybe, none, some}
use Rattle.std.specs.Prelude.{Option, Some, None}
use mathlib.Core.List.{List}
use Rattle.slices.specs.Numeral.{decimal_of}
use Rattle.decimals.specs.Parsed as decimals
use Rattle.decimals.proofs.Parsing.{state-number}
use Rattle.line_states.specs.declared.Line.{Line}
use Rattle.line_states.specs.declared.Line.TheVariants.{InFirst, InSecond, InThird, Ended, Other}
use Rattle.line_states.specs.Parts.{Parts, parts_of}
use Rattle.line_states.specs.Fed.{number_cap}
use Rattle.line_states.specs.End.{end_of}
use Rattle.line_chunks.proofs.Says.{Says, input_of, after, line-says}
use Rattle.sweep_line.specs.declared.Request.{Request}
use Rattle.sweep_line.specs.Numbers.{Numbers, numbers_if, numbers_with, numbers_of}
use Rattle.sweep_line.specs.Answer.{asked_with, asked_of}

-- what an input that asks for so much leaves in the answer
abbrev pub asked_by : Maybe Numbers → Option Request
asked_by none = None
asked_by (some (Numbers.numbers size fuel area)) =
    Some (record { size = min size number_cap; fuel = min fuel number_cap; area = min area number_cap })

-- a line that has not ended asks for nothing
unended : (line : Line) → end_of line ≡ none → asked_of line ≡ None
unended (InFirst number) e = refl
unended (InSecond first number) e = refl
unended (InThird first second number length) e = refl
unended (Ended first second third length) e = cc
unended Other e = refl

-- a third number up to the cap is asked for, and nothing where there is none
third-asked : (size fuel : ℕ) (o : Maybe ℕ)
    → asked_with (min size number_cap) (min fuel number_cap) (decimals.up_to number_cap o) ≡ asked_by (numbers_if size fuel o)
third-asked size fuel none = refl
third-asked size fuel (some area) = refl

-- what the parts say is what is asked
parts-asked : (d buffer : List ℕ) (line : Line) (o : Maybe Parts) → Says d o line buffer → asked_of line ≡ asked_by (numbers_with o)
parts-asked d buffer line none e = unended line e
parts-asked d buffer line (some (Parts.parts first second third)) (e, kept) =
    ap asked_of e
    ∙ ap (asked_with (min first number_cap) (min second number_cap)) (state-number number_cap third)
    ∙ third-asked first second (decimal_of third)

-- for every input, in chunks cut anywhere, the line asks for its numbers up to their caps
pub line-asks : (buffer : List ℕ) (chunks : List (List ℕ)) → asked_of (after buffer chunks).line ≡ asked_by (numbers_of (input_of chunks))
unfolding numbers_of
line-asks buffer chunks =
    let s = after buffer chunks in
    parts-asked buffer s.buffer s.line (parts_of (input_of chunks)) (line-says buffer chunks)
