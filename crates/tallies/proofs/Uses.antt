-- One use more of a rule: the counts of a list of rules can take it, and become those of the list with it at the end. Assumes nothing.
use Prim.Native.Nat.{ℕ, ◌-◌, ◌<◌}
use native.Mathlib.Numerals.{add-one}
use native.Mathlib.Omega.{arith}
use mathlib.Core.Path.{◌≡◌, sym, ◌∙◌, ap}
use mathlib.Core.List.{List, [], ◌∷◌, ◌++◌, Memᴰ}
use lib.ListN.{length, get_or, set}
use Rattle.calculus.specs.Limits.{fuel_limit}
use Rattle.calculus.specs.Rule.{rule_numbers}
use Rattle.calculus.specs.Counts.{tally}
use Rattle.calculus.proofs.Ranges.{listed_range}
use Rattle.calculus.proofs.Counts.{occurrences-few, tally-at, tally-more}
use Rattle.tallies.specs.Tallies.{Countable, bumped}

module _ (used : List ℕ) {counts : List ℕ} (tallied : counts ≡ tally used) {rule : ℕ} (listed : Memᴰ rule rule_numbers) where
  -- the counts of a list that is shorter than a run can take one use more
  pub use-counted : length used < fuel_limit → Countable counts rule
  use-counted short =
      let (first, last) = listed_range listed in
      let so_far = ap (λ (l : List ℕ). get_or l (rule - 1) 0) tallied ∙ tally-at used listed in
      record {
        long = ap length tallied;
        first = first;
        last = last;
        few = omega (arith, so_far, occurrences-few rule used);
      }

  -- one use more is the tally of the list with that rule at its end
  pub use-tallied : bumped counts rule ≡ tally (used ++ (rule ∷ []))
  use-tallied =
      ap (λ (l : List ℕ). bumped l rule) tallied
      ∙ ap (set (tally used) (rule - 1)) (add-one (get_or (tally used) (rule - 1) 0))
      ∙ sym (tally-more used listed)
