-- The line that is printed of a sweep (REQUIREMENTS, Small terms).
use Rattle.std.specs.Prelude.{ℕ, ◌/◌, ◌%◌, List, [], ◌∷◌, Option, None, Some}
use Rattle.slices.specs.Numeral.{decimal}
use Rattle.reading.specs.Reply.{Reply}
use Rattle.printing.specs.Printed.{row_of}
use Rattle.answer_lines.specs.Shown.{refused_line, refusal_line}
use Rattle.small_terms.specs.Sweep.{Swept, sweep_of}
use Rattle.small_admission.specs.Answer.{refusal_of}
use Rattle.small_admission.specs.declared.Refused.TheVariants.{NotSmall}
use Rattle.sweep_line.specs.declared.Request.{Request}

-- the size, how many runs finished, were spent and had no room, the steps of the finished ones, those steps divided by the finished runs,
-- and the remainder
abbrev pub swept_line : (size : ℕ) → Swept → List ℕ
swept_line size (Swept.swept finished spent no_room steps) =
    row_of
    (decimal size ∷ decimal finished ∷ decimal spent ∷ decimal no_room ∷ decimal steps
    ∷ decimal (steps / finished) ∷ decimal (steps % finished) ∷ [])

-- the line of any answer
abbrev pub shown_sweep : (size : ℕ) → Reply Swept → List ℕ
shown_sweep size (Reply.refused number place) = refused_line number place
shown_sweep size (Reply.answered w) = swept_line size w

-- input of another shape is refused as a size out of range is
abbrev pub shape_line : List ℕ
shape_line = refusal_line (refusal_of NotSmall)

-- the line that `answer_sweep` puts into its buffer
abbrev pub printed_sweep : Option Request → List ℕ
printed_sweep None = shape_line
printed_sweep (Some r) = shown_sweep r.size (sweep_of r.size r.fuel r.area)
