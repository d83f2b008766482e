-- The claim of a derivation file: the context, the term and the type of its last line, as texts (REQUIREMENTS, Matching).
use Rattle.std.specs.Prelude.{ℕ, List}
use Rattle.slices.specs.Split.{lines, fields}
use Rattle.derivation_files.specs.Claim.{last_line, field_behind}
use Rattle.fields.specs.Fields.{Texts}

-- the first three fields
abbrev pub first_three : List (List ℕ) → Texts
first_three fs = record { context = field_behind 0 fs; term = field_behind 1 fs; type = field_behind 2 fs }

-- the first three fields of the last line
abbrev pub claim_of : List ℕ → Texts
claim_of file = first_three (fields (last_line (lines file)))
