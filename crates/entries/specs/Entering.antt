-- What an entry answers and leaves in the store, for any call (REQUIREMENTS, Catalogue).
use Rattle.std.specs.Prelude.{ℕ, suc, cond, not, List, ◌∷◌, ◌++◌, ltb, eqb, length, take, drop}
use Rattle.std.proofs.Math.Option.{Option, none, some}
use Rattle.calculus.specs.Term.{Term, text}
use Rattle.reading.specs.Reply.{Reply, refuse_if, onward}
use Rattle.reading.specs.Reading.{term_read}
use Rattle.reading.specs.Stop.{has_stop}
use Rattle.entries.specs.Catalogue.{number_of, has_room}
use Rattle.entries.specs.Store.{store_size, store_of, catalogue_in}

-- the number of a result that was there, or of one that is new
pub data Entered : Type 0 where
  known : (number : ℕ) → Entered
  new : (number : ℕ) → Entered

abbrev pub entered_number : Entered → ℕ
entered_number (Entered.known number) = number
entered_number (Entered.new number) = number

-- the reply, and the store at exit
pub data After : Type 0 where
  after : (reply : Reply Entered) (store : List ℕ) → After

-- an entry into a catalogue: what it answers, and the catalogue then
pub data Entry : Type 0 where
  entry : Entered → (results : List Term) → Entry

-- 28 if the bytes are the store of no catalogue
abbrev pub catalogued : Option (List Term) → Reply (List Term)
catalogued none = Reply.refused 28 0
catalogued (some results) = Reply.answered results

-- 2 if the store is too short; of a longer one the first bytes count
abbrev pub catalogue_for : (store : List ℕ) → Reply (List Term)
catalogue_for store = refuse_if (ltb (length store) store_size) 2 (catalogued (catalogue_in (take store_size store)))

-- 29 if the term is not normal
abbrev pub if_normal : Term → Reply Term
if_normal t = refuse_if (has_stop (text t)) 29 (Reply.answered t)

-- the number of a result that is there; 30 if it is not and there is no room; else it is put to the others, with the next number
abbrev pub entry_in : Term → (results : List Term) → Reply Entry
entry_in t results =
    cond (eqb (number_of t results) 0)
    (refuse_if (not (has_room t results)) 30 (Reply.answered (Entry.entry (Entered.new (suc (length results))) (t ∷ results))))
    (Reply.answered (Entry.entry (Entered.known (number_of t results)) results))

-- a refusal leaves the store as it is, and what stands behind the store's bytes always stays
abbrev pub left : Reply Entry → (store : List ℕ) → After
left (Reply.refused number place) store = After.after (Reply.refused number place) store
left (Reply.answered (Entry.entry e results)) store = After.after (Reply.answered e) (store_of results ++ drop store_size store)

unfoldable pub entering_of : (bytes store : List ℕ) → After
entering_of bytes store =
    left (onward (catalogue_for store) (λ results. onward (onward (term_read bytes) if_normal) (λ t. entry_in t results))) store
