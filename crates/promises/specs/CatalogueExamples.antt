-- The proved examples of the catalogue (REQUIREMENTS, Catalogue), as rows of one table: fingerprints, and entries into the empty catalogue one
-- after the other, on trees, as the definition of the operation makes them between the store that it reads and the one that it leaves. (On the
-- 67,584 bytes themselves the rows are tested: the checker takes most of a minute to compute them.)
-- proofs/CatalogueExamples.antt has the proof that covers the table. Every expected reply was written by hand from the paper.
use Rattle.std.specs.Prelude.{ℕ, List, [], ◌∷◌}
use Prim.Native.String.{String}
use Rattle.calculus.specs.Ascii.{ascii}
use Rattle.calculus.specs.Term.{Term}
use Rattle.fingerprints.specs.Print.{print_of}
use Rattle.reading.specs.Reply.{Reply, onward}
use Rattle.reading.specs.Reading.{term_read}
use Rattle.entries.specs.Store.{entries_of, texts_of}
use Rattle.entries.specs.Entering.{Entered, Entry, if_normal, entry_in}

-- the fingerprint of bytes; the entries and texts that stand in the store after these; their replies
pub data Row : Type 0 where
  prints : (bytes : String) (value : ℕ) → Row
  leaves : (terms : List String) (entries texts : List ℕ) → Row
  enters : (terms : List String) (replies : List (Reply Entered)) → Row

abbrev pub new : (number : ℕ) → Reply Entered
new number = Reply.answered (Entered.new number)

abbrev pub known : (number : ℕ) → Reply Entered
known number = Reply.answered (Entered.known number)

abbrev pub rows : List Row
rows =
    Row.prints "A0T" 64037 ∷
    Row.prints "A15" 64037 ∷
    Row.prints "BARJIAJJ" 3332700047 ∷
    Row.prints "ARJRRRHII" 3332700047 ∷
    Row.leaves ("J" ∷ []) (74 ∷ 0 ∷ 0 ∷ 0 ∷ 1 ∷ 0 ∷ 0 ∷ 0 ∷ []) (ascii "J") ∷
    Row.leaves ("J" ∷ "RJ" ∷ "J" ∷ []) (74 ∷ 0 ∷ 0 ∷ 0 ∷ 1 ∷ 0 ∷ 0 ∷ 0 ∷ 56 ∷ 10 ∷ 0 ∷ 0 ∷ 2 ∷ 0 ∷ 0 ∷ 0 ∷ []) (ascii "JRJ") ∷
    Row.enters ("J" ∷ "I" ∷ "J" ∷ []) (new 1 ∷ new 2 ∷ known 1 ∷ []) ∷
    Row.enters ("A0T" ∷ "A15" ∷ []) (new 1 ∷ new 2 ∷ []) ∷
    Row.enters ("BARJIAJJ" ∷ "ARJRRRHII" ∷ []) (new 1 ∷ new 2 ∷ []) ∷
    Row.enters (".II" ∷ "I" ∷ []) (Reply.refused 29 0 ∷ new 1 ∷ []) ∷
    Row.enters ("Jx" ∷ []) (Reply.refused 7 1 ∷ []) ∷
    []

-- one entry
abbrev pub entry_of : (term : String) (results : List Term) → Reply Entry
entry_of term results = onward (onward (term_read (ascii term)) if_normal) (λ t. entry_in t results)

abbrev pub reply_in : Reply Entry → Reply Entered
reply_in (Reply.refused number place) = Reply.refused number place
reply_in (Reply.answered (Entry.entry e results)) = Reply.answered e

abbrev pub results_in : Reply Entry → (before : List Term) → List Term
results_in (Reply.refused number place) before = before
results_in (Reply.answered (Entry.entry e results)) before = results

-- the replies of entries one after the other, and the results then
abbrev pub replies_of : (terms : List String) (results : List Term) → List (Reply Entered)
replies_of [] results = []
replies_of (term ∷ terms) results = reply_in (entry_of term results) ∷ replies_of terms (results_in (entry_of term results) results)

abbrev pub results_of : (terms : List String) (results : List Term) → List Term
results_of [] results = results
results_of (term ∷ terms) results = results_of terms (results_in (entry_of term results) results)

-- the row with what the definitions answer in the place of what is expected
unfoldable pub made : Row → Row
made (Row.prints bytes value) = Row.prints bytes (print_of (ascii bytes))
made (Row.leaves terms entries texts) = Row.leaves terms (entries_of (results_of terms [])) (texts_of (results_of terms []))
made (Row.enters terms expected) = Row.enters terms (replies_of terms [])
