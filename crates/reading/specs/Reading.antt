-- What reading answers of any bytes, as a function and as a relation (REQUIREMENTS, Reading); proofs/Whole.antt shows that they agree.
use Rattle.std.specs.Prelude.{ℕ, zero, suc, ◌≡◌, length}
use mathlib.Core.List.{List, [], ◌∷◌, ◌++◌, Memᴰ}
use Rattle.std.proofs.Math.Option.{Option, none, some}
use Rattle.calculus.specs.Letter.{Letter, letter_of, owed}
use Rattle.calculus.specs.Term.{Term, text, size}
use Rattle.calculus.specs.Parse.{term_of}
use Rattle.reading.specs.Reply.{Reply, passed_on}

-- 5 at that place if the byte there is no letter
abbrev pub at_letter : Option Letter → ℕ → (Letter → Reply ℕ) → Reply ℕ
at_letter none place onward = Reply.refused 5 place
at_letter (some l) place onward = onward l

-- reading goes on at a place, with that many terms still owed
abbrev pub reading_from : (owing place : ℕ) → List ℕ → Reply ℕ
reading_from zero place [] = Reply.answered place
reading_from zero place (b ∷ bytes) = Reply.refused 7 place
reading_from (suc k) place [] = Reply.refused 6 place
reading_from (suc k) place (b ∷ bytes) = at_letter (letter_of b) place (λ l. reading_from (owed l k) (suc place) bytes)

-- the size of the term, or the refusal
unfoldable pub reading_of : List ℕ → Reply ℕ
reading_of bytes = reading_from 1 0 bytes

-- the bytes are letters
abbrev pub Lettered : List ℕ → Type 0
Lettered bytes = (b : ℕ) → Memᴰ b bytes → letter_of b ≡ none → ⊥

-- the bytes do not begin with a whole term
abbrev pub Unwhole : List ℕ → Type 0
Unwhole bytes = (t : Term) (rest : List ℕ) → bytes ≡ text t ++ rest → ⊥

-- `ReadsAs bytes reply`: by which terms the bytes begin with, and which of them are letters
pub data ReadsAs (bytes : List ℕ) : Reply ℕ → Type 0 where
  whole : (t : Term) → bytes ≡ text t → ReadsAs bytes (Reply.answered (size t))
  already_whole : (t : Term) (b : ℕ) (rest : List ℕ) → bytes ≡ text t ++ (b ∷ rest) → ReadsAs bytes (Reply.refused 7 (size t))
  no_letter :
      (front : List ℕ) (b : ℕ) (rest : List ℕ) →
      bytes ≡ front ++ (b ∷ rest) → Lettered front → Unwhole front → letter_of b ≡ none → ReadsAs bytes (Reply.refused 5 (length front))
  not_yet_whole : Lettered bytes → Unwhole bytes → ReadsAs bytes (Reply.refused 6 (length bytes))

abbrev pub or_refusal : Option Term → Reply ℕ → Reply Term
or_refusal (some t) reading = Reply.answered t
or_refusal none reading = passed_on reading

-- the term whose text the bytes are, or reading's refusal: what an operation on a term starts from
unfoldable pub term_read : List ℕ → Reply Term
term_read bytes = or_refusal (term_of bytes) (reading_of bytes)
