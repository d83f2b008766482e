-- Whether the claims of two files match (REQUIREMENTS, Matching): what checking refuses of the first, else of the second; else whether the
-- contexts and the types of their last lines are the same bytes.
use Rattle.std.specs.Prelude.{ℕ, Bool, ◌&&◌, List}
use Rattle.reading.specs.Reply.{Reply}
use Rattle.slices.specs.Same.{same}
use Rattle.slices.specs.Split.{lines, fields}
use Rattle.derivation_files.specs.Checking.{checking_of}
use Rattle.derivation_files.specs.Claim.{last_line, field_behind}
use Rattle.fields.specs.Fields.{Texts}

-- the first field of a line
abbrev pub context_field : List ℕ → List ℕ
context_field line = field_behind 0 (fields line)

-- the third field of a line
abbrev pub type_field : List ℕ → List ℕ
type_field line = field_behind 2 (fields line)

-- the contexts and the types of two lines are equal byte for byte
abbrev pub same_claim : (first second : List ℕ) → Bool
same_claim first second = same (context_field first) (context_field second) && same (type_field first) (type_field second)

-- the same of the texts of two claims
abbrev pub same_texts : (first second : Texts) → Bool
same_texts first second = same first.context second.context && same first.type second.type

-- the refusal of the first, else that of the second, else the verdict
abbrev pub after_both : (first second : Reply ℕ) → Bool → Reply Bool
after_both (Reply.refused number line) second verdict = Reply.refused number line
after_both (Reply.answered n) (Reply.refused number line) verdict = Reply.refused number line
after_both (Reply.answered n) (Reply.answered m) verdict = Reply.answered verdict

-- whether the claims match, or the refusal with its line
unfoldable pub matching_of : (first second : List ℕ) → Reply Bool
matching_of first second = after_both (checking_of first) (checking_of second) (same_claim (last_line (lines first)) (last_line (lines second)))
