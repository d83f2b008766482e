-- The store of a catalogue: its bytes, and the catalogue that bytes are the store of (REQUIREMENTS, Catalogue).
use Rattle.std.specs.Prelude.{ℕ, zero, suc, ◌*◌, ◌-◌, cond, ◌&&◌, List, [], ◌∷◌, ◌++◌, length, take, drop, replicate}
use Rattle.std.proofs.Math.Option.{Option, none, some}
use Rattle.calculus.specs.Term.{Term, text, size}
use Rattle.calculus.specs.Parse.{term_of}
use Rattle.slices.specs.Same.{same}
use Rattle.words.specs.Word.{word_of, word_in}
use Rattle.fingerprints.specs.Print.{print_of}
use Rattle.entries.specs.Catalogue.{entry_limit, letter_limit, letters, is_catalogue}

-- ---- from results to bytes

-- the bytes that each result has in front
abbrev pub entry_size : ℕ
entry_size = 8

-- where the texts begin
abbrev pub texts_at : ℕ
texts_at = 2048

abbrev pub store_size : ℕ
store_size = 67584

-- fingerprint and size, four bytes each, low byte first
abbrev pub entry_of : Term → List ℕ
entry_of t = word_of (print_of (text t)) ++ word_of (size t)

abbrev pub entries_of : List Term → List ℕ
entries_of [] = []
entries_of (t ∷ earlier) = entries_of earlier ++ entry_of t

abbrev pub texts_of : List Term → List ℕ
texts_of [] = []
texts_of (t ∷ earlier) = texts_of earlier ++ text t

-- entries, texts, and zeros where nothing is held
unfoldable pub store_of : List Term → List ℕ
store_of results =
    entries_of results ++ replicate (texts_at - entry_size * length results) 0
    ++ texts_of results ++ replicate (letter_limit - letters results) 0

-- ---- from bytes to results

abbrev pub or_end : Option Term → (results : List Term) → (Term → List Term) → List Term
or_end none results onward = results
or_end (some t) results onward = onward t

-- the results that so many entries say, behind those that are there, as far as they are terms
abbrev pub results_from : (left : ℕ) (entries texts : List ℕ) (results : List Term) → List Term
results_from zero entries texts results = results
results_from (suc left) entries texts results =
    or_end (term_of (take (word_in (drop 4 entries)) texts)) results
    (λ t. results_from left (drop entry_size entries) (drop (word_in (drop 4 entries)) texts) (t ∷ results))

abbrev pub results_in : (store : List ℕ) → List Term
results_in store = results_from entry_limit store (drop texts_at store) []

-- the catalogue whose store these bytes are, if there is one: whatever was made of them must give the same bytes again
unfoldable pub catalogue_in : List ℕ → Option (List Term)
catalogue_in store =
    cond (is_catalogue (results_in store) && same (store_of (results_in store)) store) (some (results_in store)) none
