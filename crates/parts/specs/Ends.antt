-- A table of ends: under the index where a part begins stands the index behind it (REQUIREMENTS, Stepping). Assumes nothing.
use Rattle.std.specs.Prelude.{ℕ, ◌≤◌, ◌<◌, ◌≡◌, List, length, get_or}
use Rattle.parts.specs.Skip.{end_at}

-- the entry of a table under an index, 0 past its end
abbrev pub listed : (ends : List ℕ) → ℕ → ℕ
listed ends at = get_or ends at 0

-- `Ends end_of s from to`: under each index from one up to another, end_of has the end of the part of s that begins there
abbrev pub Ends : (end_of : ℕ → ℕ) (s : List ℕ) (from to : ℕ) → Type 0
Ends end_of s from to = (i : ℕ) → from ≤ i → i < to → end_of i ≡ end_at s i

-- the table ends' has these ends and else what the table ends has, and is as long
pub record Stored (s : List ℕ) (from to : ℕ) (ends ends' : List ℕ) : Type 0 where
  pub long : length ends' ≡ length ends
  pub inside : Ends (listed ends') s from to
  pub before : (i : ℕ) → i < from → listed ends' i ≡ listed ends i
  pub behind : (i : ℕ) → to ≤ i → listed ends' i ≡ listed ends i
