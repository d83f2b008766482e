-- What the catalogue says (REQUIREMENTS, Catalogue), beside the demands: which stores it takes, what a number is the number of and for how
-- long, and where a caller in C finds a result by its number. `catalogue-says` of proofs/CatalogueSays.antt is the proof.
use Rattle.std.specs.Prelude.{ℕ, zero, suc, ◌+◌, ◌*◌, ◌-◌, ◌≤◌, ◌≡◌, ◌↔◌, length, drop}
use mathlib.Core.List.{List, Memᴰ}
use Rattle.calculus.specs.Term.{Term}
use Rattle.slices.specs.Part.{part}
use Rattle.words.specs.Word.{word_at}
use Rattle.fingerprints.specs.Print.{print_of}
use Rattle.reading.specs.Reply.{Reply}
use Rattle.entries.specs.Catalogue.{entry_limit}
use Rattle.entries.specs.Store.{entry_size, texts_at, store_size}
use Rattle.entries.specs.Entering.{Entered, entered_number, After, entering_of}
use Rattle.entries.specs.EntersAs.{Keeps}
use Rattle.entries.specs.Calls.{Call, Calls, Left}

-- where the text of a result begins: behind those of the results with smaller numbers, so many, whose sizes stand in front
abbrev pub start_in : (earlier : ℕ) (store : List ℕ) → ℕ
start_in zero store = texts_at
start_in (suc earlier) store = start_in earlier store + word_at (entry_size * earlier + 4) store

-- `Filed store n bytes`: the result with that number has these bytes, and its fingerprint and size stand in its entry
pub record Filed (store : List ℕ) (n : ℕ) (bytes : List ℕ) : Type 0 where
  pub print : word_at (entry_size * (n - 1)) store ≡ print_of bytes
  pub sized : word_at (entry_size * (n - 1) + 4) store ≡ length bytes
  pub spelt : part (start_in (n - 1) store) (start_in (n - 1) store + length bytes) store ≡ bytes

pub record CatalogueSays : Type 0 where
  -- the stores that 28 does not refuse are those that entries leave of zeros
  pub left_exactly :
      (bytes store : List ℕ) → store_size ≤ length store →
      ((store' : List ℕ) → entering_of bytes store ≡ After.after (Reply.refused 28 0) store' → ⊥) ↔ Left store
  -- any two answered calls on one store: one number exactly for the same bytes
  pub number-bytes :
      (store store' bytes₁ bytes₂ : List ℕ) (calls : List Call) (e₁ e₂ : Entered) → Calls store calls store' →
      Memᴰ (Call.made bytes₁ (Reply.answered e₁)) calls → Memᴰ (Call.made bytes₂ (Reply.answered e₂)) calls →
      (entered_number e₁ ≡ entered_number e₂) ↔ (bytes₁ ≡ bytes₂)
  -- a number stays: entered again after any calls, the result is known by it, and the store is left as it is
  pub again :
      (store store' bytes : List ℕ) (calls : List Call) (e : Entered) → Calls store calls store' →
      Memᴰ (Call.made bytes (Reply.answered e)) calls →
      entering_of bytes store' ≡ After.after (Reply.answered (Entered.known (entered_number e))) store'
  -- numbers are from 1 to 256
  pub in_range :
      (bytes store store' : List ℕ) (e : Entered) → entering_of bytes store ≡ After.after (Reply.answered e) store' →
      (1 ≤ entered_number e) × (entered_number e ≤ entry_limit)
  -- a new result has the number behind the last: how many results the catalogue then has
  pub next-number :
      (bytes store store' : List ℕ) (n : ℕ) → entering_of bytes store ≡ After.after (Reply.answered (Entered.new n)) store' →
      (results : List Term) × Keeps store' results × (length results ≡ n)
  -- every call leaves the store as long as it was, and what stands behind its 67,584 bytes
  pub behind :
      (bytes store store' : List ℕ) (reply : Reply Entered) → entering_of bytes store ≡ After.after reply store' →
      (length store' ≡ length store) × (drop store_size store' ≡ drop store_size store)
  -- where a caller in C finds a result by its number
  pub filed :
      (bytes store store' : List ℕ) (e : Entered) → entering_of bytes store ≡ After.after (Reply.answered e) store' →
      Filed store' (entered_number e) bytes
