-- What the test of a store answers (REQUIREMENTS, Catalogue).
use Rattle.std.specs.Prelude.{ℕ, ◌≤◌, ◌≡◌, List, length, Option, Some, None}
use Rattle.calculus.specs.Term.{Term}
use Rattle.entries.specs.Catalogue.{letters}
use Rattle.entries.specs.Store.{store_size}
use Rattle.entries.specs.EntersAs.{Keeps}
use Rattle.stores.specs.declared.Kept.{Kept}

-- the store keeps a catalogue of so many results with so many letters
pub record KeepsSome (store : List ℕ) (count used : ℕ) : Type 0 where
  pub long : store_size ≤ length store
  pub results : List Term
  pub keeps : Keeps store results
  pub counted : length results ≡ count
  pub lettered : letters results ≡ used

-- that, or none
abbrev pub KeptAs : (store : List ℕ) → Option Kept → Type 0
KeptAs store (Some kept) = KeepsSome store kept.count kept.used
KeptAs store None = (results : List Term) → Keeps store results → ⊥
