-- Entries one after the other, on one store (REQUIREMENTS, Catalogue): any calls, answered and refused ones.
use Rattle.std.specs.Prelude.{ℕ, ◌≡◌, List, [], ◌∷◌, ◌++◌, drop, replicate}
use Rattle.reading.specs.Reply.{Reply}
use Rattle.entries.specs.Store.{store_size}
use Rattle.entries.specs.Entering.{Entered, After, entering_of}

-- a call, by the bytes that were to be entered, and what it was answered
pub data Call : Type 0 where
  made : (bytes : List ℕ) (reply : Reply Entered) → Call

-- `Calls store calls store'`: these calls, in this order, lead from the one store to the other
pub data Calls : List ℕ → List Call → List ℕ → Type 0 where
  done : {store : List ℕ} → Calls store [] store
  then :
      {store store₁ store₂ bytes : List ℕ} {reply : Reply Entered} {calls : List Call} →
      entering_of bytes store ≡ After.after reply store₁ → Calls store₁ calls store₂ → Calls store (Call.made bytes reply ∷ calls) store₂

-- some calls leave it of a store of zeros; what stands behind the store's bytes may be anything
pub record Left (store : List ℕ) : Type 0 where
  pub calls : List Call
  pub led : Calls (replicate store_size 0 ++ drop store_size store) calls store
