-- What a premise field names, by where the earlier lines begin.
-- REQUIREMENTS, Derivation files.
use Rattle.std.specs.Prelude.{ℕ, zero, suc, ◌-◌, Bool, true, false, ◌&&◌, cond, List, leb, ltb, get_or, Some, None}
use Rattle.std.specs.Prelude as std
use Rattle.std.proofs.Math.Option.{Option, none, some}
use Rattle.derivation_files.specs.Line.{Premise}
use Rattle.premises.specs.declared.Cited.{Cited}
use Rattle.premises.specs.declared.Cited.TheVariants.{Dash, Line, Nothing}

-- the number, where there is one and it is from 1 up to the limit
abbrev pub within : ℕ → Option ℕ → std.Option ℕ
within limit none = None
within limit (some n) = cond (ltb 0 n && leb n limit) (Some n) None

abbrev pub line_if : Bool → ℕ → Cited
line_if true start = Line start
line_if false start = Nothing

-- the line that a premise names, where n lines went before and begin at those indices; lines count from 1
abbrev pub cited_of : (starts : List ℕ) (n : ℕ) → Option Premise → Cited
cited_of starts n none = Nothing
cited_of starts n (some Premise.dash) = Dash
cited_of starts n (some (Premise.line m)) = line_if (ltb 0 m && leb m n) (get_or starts (m - 1) 0)

abbrev pub is_dashed : Cited → Bool
is_dashed Dash = true
is_dashed (Line start) = false
is_dashed Nothing = false

abbrev pub is_line : Cited → Bool
is_line Dash = false
is_line (Line start) = true
is_line Nothing = false

-- each field names what a rule with that many premises has there
abbrev pub cited_fit : (count : ℕ) (first second : Cited) → Bool
cited_fit zero first second = is_dashed first && is_dashed second
cited_fit (suc zero) first second = is_line first && is_dashed second
cited_fit (suc (suc n)) first second = is_line first && is_line second
