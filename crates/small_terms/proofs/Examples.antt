-- There are as many small terms as the table says, and each call is answered as it says, by one computation each; the first goes by the law
-- that counts them. Assumes nothing.
use Prim.Native.Nat.{ℕ}
use mathlib.Core.Path.{◌≡◌, refl, ap₂}
use mathlib.Core.List.{List, [], ◌∷◌, map}
use lib.ListN.{length}
use Rattle.calculus.specs.Letter.{letter_of}
use Rattle.calculus.specs.Parse.{term_of}
use Rattle.small_texts.specs.Texts.{small_terms, ways}
use Rattle.small_admission.specs.Admission.{admitted}
use Rattle.small_terms.specs.Sweep.{sweep_of}
use Rattle.small_terms.specs.Examples.{Many, counts, Call, calls}
use Rattle.small_texts.proofs.Indexed.{length-small}

counted : (ms : List Many) → map (λ (m : Many). length (small_terms m.letters)) ms ≡ map (λ (m : Many). ways 1 m.letters) ms
counted [] = refl
counted (m ∷ ms) = ap₂ (λ (n : ℕ) (ns : List ℕ). n ∷ ns) (length-small m.letters) (counted ms)

-- there are as many small terms of each size as the table says
pub counts_hold : map (λ (m : Many). length (small_terms m.letters)) counts ≡ map (λ (m : Many). m.terms) counts
counts_hold = counted counts

-- each call is answered as the table says
pub calls_hold : map (λ (c : Call). sweep_of c.n c.fuel c.area) calls ≡ map (λ (c : Call). c.answer) calls
unfolding sweep_of admitted small_terms term_of letter_of
calls_hold = refl
