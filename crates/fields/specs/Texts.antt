-- Texts in a file, by where they stand.
-- REQUIREMENTS, Derivation files.
use Rattle.std.specs.Prelude.{ℕ, List}
use Rattle.slices.specs.Part.{part}
use Rattle.slices.specs.declared.Span.{Span}

-- the text that stands there in the file
abbrev pub text_at : Span → List ℕ → List ℕ
text_at span file = part span.from span.to file
