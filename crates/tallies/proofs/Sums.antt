-- Counts added one by one: the tallies of two lists of rules become the tally of both lists together. Assumes nothing.
use Prim.Native.Nat.{ℕ, zero, suc, ◌+◌, ◌≤◌, ◌<◌}
use native.Mathlib.Numerals.{add-one}
use native.Mathlib.Omega.{arith}
use mathlib.Core.Path.{◌≡◌, refl, sym, ◌∙◌, ap, ap₂}
use mathlib.Core.List.{List, [], ◌∷◌, ◌++◌, map}
use lib.ListN.{length, get_or, set}
use Rattle.calculus.specs.Limits.{fuel_limit}
use Rattle.calculus.specs.Rule.{rule_numbers}
use Rattle.calculus.specs.Counts.{occurrences, tally}
use Rattle.calculus.proofs.Counts.{occurrences-append, occurrences-few}
use Rattle.tallies.specs.Tallies.{Addable}

-- the counts, the first k of them with the others' added
abbrev first_added : ℕ → List ℕ → List ℕ → List ℕ
first_added zero counts more = counts
first_added (suc k) [] more = []
first_added (suc k) (n ∷ counts) [] = n ∷ counts
first_added (suc k) (n ∷ counts) (m ∷ more) = (n + m) ∷ first_added k counts more

-- the counts stay as many
added-length : (k : ℕ) (counts more : List ℕ) → length (first_added k counts more) ≡ length counts
added-length zero counts more = refl
added-length (suc k) [] more = refl
added-length (suc k) (n ∷ counts) [] = refl
added-length (suc k) (n ∷ counts) (m ∷ more) = ap suc (added-length k counts more)

-- the count behind those is as it was
added-behind : (k : ℕ) (counts more : List ℕ) → get_or (first_added k counts more) k 0 ≡ get_or counts k 0
added-behind zero counts more = refl
added-behind (suc k) [] more = refl
added-behind (suc k) (n ∷ counts) [] = refl
added-behind (suc k) (n ∷ counts) (m ∷ more) = added-behind k counts more

-- one count more
added_next :
    (k : ℕ) (counts more : List ℕ) → k < length counts → k < length more →
    set (first_added k counts more) k (get_or (first_added k counts more) k 0 + get_or more k 0) ≡ first_added (suc k) counts more
added_next k [] more h i = absurd (omega arith)
added_next k (n ∷ counts) [] h i = absurd (omega arith)
added_next zero (n ∷ counts) (m ∷ more) h i = refl
added_next (suc k) (n ∷ counts) (m ∷ more) h i = ap (λ (l : List ℕ). (n + m) ∷ l) (added_next k counts more (omega arith) (omega arith))

-- all of them: each number occurs in both lists together as often as in the one and in the other
added-all :
    (used later numbers : List ℕ) →
    first_added (length numbers) (map (λ (n : ℕ). occurrences n used) numbers) (map (λ (n : ℕ). occurrences n later) numbers)
    ≡ map (λ (n : ℕ). occurrences n (used ++ later)) numbers
added-all used later [] = refl
added-all used later (n ∷ numbers) =
    ap₂ (λ (k : ℕ) (l : List ℕ). k ∷ l) (sym (occurrences-append n used later)) (added-all used later numbers)

-- no count is larger than the list is long
count-few : (used numbers : List ℕ) (k : ℕ) → get_or (map (λ (n : ℕ). occurrences n used) numbers) k 0 ≤ length used
count-few used [] k = omega arith
count-few used (n ∷ numbers) zero = occurrences-few n used
count-few used (n ∷ numbers) (suc k) = count-few used numbers k

-- `Adds counts more sum place`: so many counts are added, and the others are to come
pub record Adds (counts more sum : List ℕ) (place : ℕ) : Type 0 where
  pub so_far : sum ≡ first_added place counts more

module _ {counts more sum : List ℕ} {place : ℕ} (adds : Adds counts more sum place) where
  -- the next sum is within a run's fuel
  pub adds-few : Addable counts more → get_or sum place 0 + get_or more place 0 ≤ fuel_limit
  adds-few both =
      let here : get_or sum place 0 ≡ get_or counts place 0 =
      ap (λ (l : List ℕ). get_or l place 0) adds.so_far ∙ added-behind place counts more in
      let one : get_or counts place 0 ≡ get_or (tally both.used) place 0 = ap (λ (l : List ℕ). get_or l place 0) both.first in
      let other : get_or more place 0 ≡ get_or (tally both.later) place 0 = ap (λ (l : List ℕ). get_or l place 0) both.second in
      omega (arith, here, one, other, count-few both.used rule_numbers place, count-few both.later rule_numbers place, both.few)

  -- one more is added
  pub adds-next :
      Addable counts more → place < length rule_numbers → Adds counts more (set sum place (get_or sum place 0 + get_or more place 0)) (place + 1)
  adds-next both h =
      let long : length counts ≡ length rule_numbers = ap length both.first in
      let wide : length more ≡ length rule_numbers = ap length both.second in
      record {
        so_far =
            ap (λ (l : List ℕ). set l place (get_or l place 0 + get_or more place 0)) adds.so_far
            ∙ added_next place counts more (omega arith) (omega arith)
            ∙ ap (λ (k : ℕ). first_added k counts more) (sym (add-one place));
      }

  -- all are added
  pub adds-all : place ≡ length rule_numbers → (used later : List ℕ) → counts ≡ tally used → more ≡ tally later → sum ≡ tally (used ++ later)
  adds-all end used later e f =
      adds.so_far
      ∙ ap (λ (k : ℕ). first_added k counts more) end
      ∙ ap₂ (first_added (length rule_numbers)) e f
      ∙ added-all used later rule_numbers
