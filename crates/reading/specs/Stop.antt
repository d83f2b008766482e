-- Whether a full stop stands among bytes: a term is normal where none stands in its text (REQUIREMENTS, Terms). Assumes nothing.
use Rattle.std.specs.Prelude.{ℕ, Bool, List, ltb, length}
use Rattle.calculus.specs.Letter.{Letter, byte}
use Rattle.slices.specs.Find.{index_of}

abbrev pub has_stop : List ℕ → Bool
has_stop bytes = ltb (index_of (byte Letter.stop) bytes) (length bytes)
