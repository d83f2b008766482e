-- What an entry answers and leaves, as a relation (REQUIREMENTS, Catalogue); proofs/Exactly.antt shows that it agrees with the function.
use Rattle.std.specs.Prelude.{ℕ, suc, ◌<◌, ◌≤◌, ◌≡◌, length, take, drop}
use mathlib.Core.List.{List, ◌∷◌, ◌++◌, Memᴰ}
use Rattle.calculus.specs.Term.{Term, text, Normal}
use Rattle.reading.specs.Reply.{Reply}
use Rattle.reading.specs.Reading.{ReadsAs}
use Rattle.entries.specs.Catalogue.{Room, Catalogue, Numbered}
use Rattle.entries.specs.Store.{store_size, store_of}
use Rattle.entries.specs.Entering.{Entered}

-- `Keeps store results`: the first bytes are the store of that catalogue
pub record Keeps (store : List ℕ) (results : List Term) : Type 0 where
  pub catalogue : Catalogue results
  pub stored : take store_size store ≡ store_of results

-- `EntersAs bytes store reply store'`
pub data EntersAs (bytes store : List ℕ) : Reply Entered → List ℕ → Type 0 where
  short : length store < store_size → EntersAs bytes store (Reply.refused 2 0) store
  no_catalogue :
      store_size ≤ length store → ((results : List Term) → Keeps store results → ⊥) → EntersAs bytes store (Reply.refused 28 0) store
  unread :
      {results : List Term} {number place : ℕ} → store_size ≤ length store → Keeps store results →
      ReadsAs bytes (Reply.refused number place) → EntersAs bytes store (Reply.refused number place) store
  not-normal :
      {results : List Term} (t : Term) → store_size ≤ length store → Keeps store results → bytes ≡ text t → (Normal t → ⊥) →
      EntersAs bytes store (Reply.refused 29 0) store
  full :
      {results : List Term} (t : Term) → store_size ≤ length store → Keeps store results → bytes ≡ text t → Normal t →
      (Memᴰ t results → ⊥) → (Room t results → ⊥) → EntersAs bytes store (Reply.refused 30 0) store
  known :
      {results : List Term} {n : ℕ} (t : Term) → store_size ≤ length store → Keeps store results → bytes ≡ text t → Normal t →
      Numbered t n results → EntersAs bytes store (Reply.answered (Entered.known n)) store
  new :
      {results : List Term} (t : Term) → store_size ≤ length store → Keeps store results → bytes ≡ text t → Normal t →
      (Memᴰ t results → ⊥) → Room t results →
      EntersAs bytes store (Reply.answered (Entered.new (suc (length results)))) (store_of (t ∷ results) ++ drop store_size store)
