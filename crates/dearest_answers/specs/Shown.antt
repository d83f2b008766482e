-- The line that is printed of the dearest small term (REQUIREMENTS, Programs).
use Rattle.std.specs.Prelude.{ℕ, List, Option, None, Some}
use Rattle.calculus.specs.Term.{text}
use Rattle.reading.specs.Reply.{Reply}
use Rattle.printing.specs.Printed.{count_of}
use Rattle.answer_lines.specs.Shown.{refused_line}
use Rattle.small_terms.specs.Dearest.{Dear, dearest_of}
use Rattle.sweep_line.specs.declared.Request.{Request}
use Rattle.sweep_answers.specs.Shown.{shape_line}

-- the text of the term and the steps of its run, or a refusal's number and place
abbrev pub shown_dearest : Reply Dear → List ℕ
shown_dearest (Reply.refused number place) = refused_line number place
shown_dearest (Reply.answered (Dear.dear t steps)) = count_of (text t) steps

-- the line that `answer_dearest` puts into its buffer
abbrev pub printed_dearest : Option Request → List ℕ
printed_dearest None = shape_line
printed_dearest (Some r) = shown_dearest (dearest_of r.size r.fuel r.area)
