-- Small terms: those of a size in the seven letters that are no bells; and what it is for a list to hold each of them, in byte order
-- (REQUIREMENTS, Small terms).
use Rattle.std.specs.Prelude.{ℕ, ◌<◌, ◌≡◌}
use mathlib.Core.List.{List, [], ◌∷◌, map, Memᴰ}
use Rattle.calculus.specs.Term.{Term, text, size}
use Rattle.calculus.specs.BellFree.{BellFree}

pub record Small (n : ℕ) (t : Term) : Type 0 where
  pub sized : size t ≡ n
  pub free : BellFree t

-- `Before s u`: in byte order s comes before u
pub data Before : List ℕ → List ℕ → Type 0 where
  ended : {b : ℕ} {u : List ℕ} → Before [] (b ∷ u)
  less : {a b : ℕ} {s u : List ℕ} → a < b → Before (a ∷ s) (b ∷ u)
  later : {a b : ℕ} {s u : List ℕ} → a ≡ b → Before s u → Before (a ∷ s) (b ∷ u)

-- each comes before all that stand behind it
pub data Increasing : List (List ℕ) → Type 0 where
  empty : Increasing []
  first : {s : List ℕ} {others : List (List ℕ)} → ((u : List ℕ) → Memᴰ u others → Before s u) → Increasing others
      → Increasing (s ∷ others)

-- `EachSmall n ts`: the list holds every small term of that size and nothing else, their texts in byte order, so none stands twice
pub record EachSmall (n : ℕ) (ts : List Term) : Type 0 where
  pub complete : (t : Term) → Small n t → Memᴰ t ts
  pub nothing_else : (t : Term) → Memᴰ t ts → Small n t
  pub in_order : Increasing (map text ts)
