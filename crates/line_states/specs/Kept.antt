-- The lent buffer that keeps the third field's bytes: what one byte changes in it, and what it is once a field is kept in it
-- (REQUIREMENTS, Programs).
use Rattle.std.specs.Prelude.{ℕ, Bool, true, false, cond, List, ◌++◌, ltb, eqb, length, take, drop, set}
use Rattle.slices.specs.Split.{tab, line_feed}
use Rattle.line_states.specs.Fed.{length_cap}
use Rattle.line_states.specs.declared.Line.{Line}
use Rattle.line_states.specs.declared.Line.TheVariants.{InFirst, InSecond, InThird, Ended, Other}

-- whether a byte behind the second tab is kept: tab and line feed are none of the field's, and the cap's worth of bytes is enough
abbrev pub is_kept_if : (ends tabbed room : Bool) → Bool
is_kept_if true tabbed room = false
is_kept_if false true room = false
is_kept_if false false room = room

abbrev pub is_kept : (length b : ℕ) → Bool
is_kept length b = is_kept_if (eqb b line_feed) (eqb b tab) (ltb length length_cap)

-- the buffer with that byte behind the ones that it holds, as it is where the byte is none of the field's or has no room
abbrev pub kept_at : (length b : ℕ) → List ℕ → List ℕ
kept_at length b buffer = cond (is_kept length b) (set buffer length b) buffer

abbrev pub kept_byte : Line → ℕ → List ℕ → List ℕ
kept_byte (InFirst number) b buffer = buffer
kept_byte (InSecond first number) b buffer = buffer
kept_byte (InThird first second number length) b buffer = kept_at length b buffer
kept_byte (Ended first second third length) b buffer = buffer
kept_byte Other b buffer = buffer

-- the buffer once a field is kept in it: as many of the field's first bytes as fit, and behind them what stood there
abbrev pub kept_in : (buffer field : List ℕ) → List ℕ
kept_in buffer field = take (length buffer) field ++ drop (length field) buffer
