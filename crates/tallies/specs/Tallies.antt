-- Counts by rule: one use more, and two lists of counts together (REQUIREMENTS, Counts). Assumes nothing.
use Rattle.std.specs.Prelude.{ℕ, ◌+◌, ◌-◌, ◌≤◌, ◌<◌, ◌≡◌, List, length, get_or, set}
use Rattle.calculus.specs.Limits.{fuel_limit}
use Rattle.calculus.specs.Rule.{rule_numbers}
use Rattle.calculus.specs.Counts.{tally}

-- counts by rule of which that rule's can take one more
pub record Countable (counts : List ℕ) (rule : ℕ) : Type 0 where
  pub long : length counts ≡ length rule_numbers
  pub first : 1 ≤ rule
  pub last : rule ≤ length rule_numbers
  pub few : get_or counts (rule - 1) 0 < fuel_limit

-- the counts with one more in that rule's
abbrev pub bumped : (counts : List ℕ) (rule : ℕ) → List ℕ
bumped counts rule = set counts (rule - 1) (get_or counts (rule - 1) 0 + 1)

-- the counts of two lists of rules that together are no longer than a run
pub record Addable (counts more : List ℕ) : Type 0 where
  pub used : List ℕ
  pub later : List ℕ
  pub first : counts ≡ tally used
  pub second : more ≡ tally later
  pub few : length used + length later ≤ fuel_limit
