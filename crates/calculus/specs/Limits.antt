-- The limits (REQUIREMENTS, Limits). Each has its constant in src/lib.rt, and stands nowhere else as a number.
use Rattle.std.specs.Prelude.{ℕ}

-- the most bytes that a term area has
abbrev pub area_limit : ℕ
area_limit = 16384

-- the most fuel that a run is given
abbrev pub fuel_limit : ℕ
fuel_limit = 1000000

-- the most bytes that a derivation file has
abbrev pub file_limit : ℕ
file_limit = 65536

-- the most lines that a derivation file has
abbrev pub line_limit : ℕ
line_limit = 1024
