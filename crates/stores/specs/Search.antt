-- What is looked up in a store, on its bytes (REQUIREMENTS, Catalogue); on the store of a catalogue these are the notions of trees, by
-- proofs/Searching.antt and proofs/Replaying.antt.
use Rattle.std.specs.Prelude.{ℕ, zero, suc, ◌+◌, ◌*◌, ◌-◌, Bool, false, cond, not, ◌&&◌, List, ltb, leb, eqb}
use Rattle.std.specs.Prelude as std
use Rattle.std.proofs.Math.Option.{Option, none, some}
use Rattle.calculus.specs.Term.{Term, text}
use Rattle.calculus.specs.Parse.{term_of}
use Rattle.slices.specs.Part.{part}
use Rattle.slices.specs.Same.{same}
use Rattle.words.specs.Word.{word_at}
use Rattle.fingerprints.specs.Print.{print_of}
use Rattle.reading.specs.Stop.{has_stop}
use Rattle.entries.specs.Catalogue.{entry_limit, letter_limit}
use Rattle.entries.specs.Store.{entry_size, texts_at}

-- the size that an entry says, entries being counted from 0; 0 where there is none
unfoldable pub size_at : (entry : ℕ) (store : List ℕ) → ℕ
size_at entry store = cond (ltb entry entry_limit) (word_at (entry_size * entry + 4) store) 0

-- whether the result of that entry, with its text between these two places, has this fingerprint and these bytes
abbrev pub is_at : (entry start end : ℕ) (store result : List ℕ) (print : ℕ) → Bool
is_at entry start end store result print =
    eqb (word_at (entry_size * entry) store) print && same (part (texts_at + start) (texts_at + end) store) result

-- the number of these bytes among the first so many results, whose texts end at that place; 0 where they are not there
abbrev pub found_in : (left end : ℕ) (store result : List ℕ) (print : ℕ) → ℕ
found_in zero end store result print = 0
found_in (suc left) end store result print =
    let start = end - size_at left store in
    cond (is_at left start end store result print) (suc left) (found_in left start store result print)

-- the same, where that is within the limits
unfoldable pub number_in : (count used : ℕ) (store result : List ℕ) (print : ℕ) → ℕ
number_in count used store result print = cond (leb count entry_limit && leb used letter_limit) (found_in count used store result print) 0

-- a number that is there; none for 0
abbrev pub numbered : ℕ → std.Option ℕ
numbered zero = std.None
numbered (suc n) = std.Some (suc n)

-- whether bytes are the text of a normal term
abbrev pub is_normal : Option Term → Bool
is_normal none = false
is_normal (some t) = not (has_stop (text t))

unfoldable pub is_result : List ℕ → Bool
is_result bytes = is_normal (term_of bytes)

-- whether an entry with that size could have been made behind so many results with so many letters
unfoldable pub follows : (count used size : ℕ) (store : List ℕ) → Bool
follows count used size store =
    let result = part (texts_at + used) (texts_at + used + size) store in
    leb (used + size) letter_limit && is_result result && eqb (word_at (entry_size * count) store) (print_of result)
    && eqb (number_in count used store result (print_of result)) 0
