-- The line and the lent buffer together, fed byte by byte (REQUIREMENTS, Programs).
use Rattle.std.specs.Prelude.{ℕ, List, [], ◌∷◌}
use Rattle.line_states.specs.Fed.{fed_line}
use Rattle.line_states.specs.Kept.{kept_byte}
use Rattle.line_states.specs.declared.Line.{Line}

-- the line, and the lent buffer as it stands
pub record State : Type 0 where
  pub line : Line
  pub buffer : List ℕ

abbrev pub state : Line → List ℕ → State
state l buffer = record { line = l; buffer = buffer }

abbrev pub fed_byte : State → ℕ → State
fed_byte s b = state (fed_line s.line b) (kept_byte s.line b s.buffer)

-- all bytes of a chunk, one after the other
abbrev pub fed : State → List ℕ → State
fed s [] = s
fed s (b ∷ bytes) = fed (fed_byte s b) bytes
