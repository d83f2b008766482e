-- What the functions below `enter` need of the term and of the store (REQUIREMENTS, Catalogue).
use Rattle.std.specs.Prelude.{ℕ, ◌+◌, ◌≤◌, ◌<◌, ◌≡◌, false, List, length}
use Rattle.calculus.specs.Term.{Term, text}
use Rattle.reading.specs.Stop.{has_stop}
use Rattle.entries.specs.Catalogue.{entry_limit, letter_limit}
use Rattle.entries.specs.Store.{store_size}
use Rattle.stores.specs.Kept.{KeepsSome}

-- the bytes are the text of a normal term, and the store keeps so many results with so many letters
pub record Ready (bytes store : List ℕ) (count used : ℕ) : Type 0 where
  pub term : Term
  pub spelt : bytes ≡ text term
  pub normal : has_stop bytes ≡ false
  pub kept : KeepsSome store count used

-- a store with room for one more entry and for the text behind the others
pub record Writable (bytes store : List ℕ) (count used : ℕ) : Type 0 where
  pub long : store_size ≤ length store
  pub entry : count < entry_limit
  pub letters : used + length bytes ≤ letter_limit
