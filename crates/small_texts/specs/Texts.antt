-- The texts of small terms as a list, by the first letter and then by what follows it, and how many they are (REQUIREMENTS, Small terms).
-- proofs/Each.antt shows that the list is the one that `EachSmall` describes.
use Rattle.std.specs.Prelude.{ℕ, zero, suc, ◌+◌, ◌*◌, List, [], ◌∷◌, ◌++◌, map, get_or}
use Rattle.std.proofs.Math.Option.{Option, none, some}
use Rattle.calculus.specs.Letter.{Letter, byte, owed}
use Rattle.calculus.specs.Term.{Term}
use Rattle.calculus.specs.Parse.{term_of}

-- the size of the largest small terms
abbrev pub largest_size : ℕ
largest_size = 7

-- the letters that are no bells, in the order of their bytes
abbrev pub letters : List Letter
letters = Letter.stop ∷ Letter.A ∷ Letter.B ∷ Letter.H ∷ Letter.I ∷ Letter.J ∷ Letter.R ∷ []

-- the texts that begin with one of these letters and go on as it allows
abbrev pub led : List Letter → (Letter → List (List ℕ)) → List (List ℕ)
led [] onward = []
led (l ∷ ls) onward = map (λ s. byte l ∷ s) (onward l) ++ led ls onward

-- the texts of k terms, one behind the other, with n letters in all
abbrev pub texts : (k n : ℕ) → List (List ℕ)
texts zero zero = [] ∷ []
texts zero (suc n) = []
texts (suc k) zero = []
texts (suc k) (suc n) = led letters (λ l. texts (owed l k) n)

-- the term of a text, `J` where it is of none
abbrev pub or_J : Option Term → Term
or_J none = Term.J
or_J (some t) = t

abbrev pub term_in : List ℕ → Term
term_in s = or_J (term_of s)

-- the small terms of that size, in byte order
unfoldable pub small_terms : ℕ → List Term
small_terms n = map term_in (texts 1 n)

-- the text with that index, from 0, and its term
abbrev pub text_at : (n i : ℕ) → List ℕ
text_at n i = get_or (texts 1 n) i []

abbrev pub term_at : (n i : ℕ) → Term
term_at n i = term_in (text_at n i)

-- ---- how many

-- how many texts of k terms have n letters: the first letter is one of four that take two terms, one of two that take none, or the one
-- that takes one
abbrev pub ways : (k n : ℕ) → ℕ
ways zero zero = 1
ways zero (suc n) = 0
ways (suc k) zero = 0
ways (suc k) (suc n) =
    let two = ways (suc (suc k)) n in
    let none = ways k n in
    let one = ways (suc k) n in
    4 * two + 2 * none + one
