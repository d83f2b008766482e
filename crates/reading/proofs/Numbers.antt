-- What reading refuses: its numbers are 5, 6 and 7, and its place is within the bytes. Assumes nothing.
use Prim.Native.Nat.{ℕ, zero, suc, ◌+◌, ◌≤◌}
use native.Mathlib.Omega.{arith}
use mathlib.Core.Path.{◌≡◌, refl, sym, ◌∙◌, ap}
use mathlib.Core.List.Memᴰ
use mathlib.Core.List.{List, [], ◌∷◌}
use mathlib.Core.Option.{Option, none, some}
use lib.ListN.{length}
use Rattle.calculus.specs.Term.{Term, text}
use Rattle.calculus.specs.Letter.{Letter, letter_of, owed}
use Rattle.calculus.specs.Parse.{term_of}
use Rattle.calculus.proofs.PrefixCode.{text-term_of, term_of-text}
use Rattle.reading.specs.Reply.{Reply, Refuses, passed_on}
use Rattle.reading.specs.Reading.{at_letter, reading_from, reading_of, or_refusal, term_read}
use Rattle.reading.proofs.Whole.{whole-term}

-- 5, 6 or 7 at a place of the bytes
abbrev pub Unread : (most number place : ℕ) → Type 0
Unread most number place = Refuses [] (5 ∷ 6 ∷ 7 ∷ []) 0 most number place

-- a refusal within a range is one within a wider range
pub widened :
    {plain placed : List ℕ} {least most least' most' number place : ℕ} →
    least' ≤ least → most ≤ most' → Refuses plain placed least most number place → Refuses plain placed least' most' number place
widened low high (Refuses.at_zero m e) = Refuses.at_zero m e
widened low high (Refuses.at_place m l h) = Refuses.at_place m (omega arith) (omega arith)

refused-from :
    (owing place : ℕ) (bytes : List ℕ) (n p : ℕ) →
    reading_from owing place bytes ≡ Reply.refused n p → Refuses [] (5 ∷ 6 ∷ 7 ∷ []) place (place + length bytes) n p
refused-from zero place [] n p e = let z : ◌≡◌ {A = ℕ} 0 1 = cc in absurd (omega arith)
refused-from zero place (b ∷ bytes) n p e =
    let seven : n ≡ 7 = cc in
    let here : p ≡ place = cc in
    Refuses.at_place (Memᴰ.tail (Memᴰ.tail (Memᴰ.head seven))) (omega arith) (omega arith)
refused-from (suc k) place [] n p e =
    let six : n ≡ 6 = cc in
    let here : p ≡ place = cc in
    Refuses.at_place (Memᴰ.tail (Memᴰ.head six)) (omega arith) (omega arith)
refused-from (suc k) place (b ∷ bytes) n p e = go (letter_of b) (λ l. refused-from (owed l k) (suc place) bytes n p) e
  where
    go :
        (o : Option Letter) →
        ((l : Letter) → reading_from (owed l k) (suc place) bytes ≡ Reply.refused n p → Refuses [] (5 ∷ 6 ∷ 7 ∷ []) (suc place) (suc place + length bytes) n p) →
        at_letter o place (λ l. reading_from (owed l k) (suc place) bytes) ≡ Reply.refused n p → Refuses [] (5 ∷ 6 ∷ 7 ∷ []) place (place + suc (length bytes)) n p
    go none rest e =
        let five : n ≡ 5 = cc in
        let here : p ≡ place = cc in
        Refuses.at_place (Memᴰ.head five) (omega arith) (omega arith)
    go (some l) rest e = widened (omega arith) (omega arith) (rest l e)

-- what reading refuses of bytes is listed
pub reading_refused : (bytes : List ℕ) (n p : ℕ) → reading_of bytes ≡ Reply.refused n p → Unread (length bytes) n p
unfolding reading_of
reading_refused bytes n p e =
    widened (omega arith) (omega arith) (refused-from 1 0 bytes n p e)

-- the bytes that pass are the text of the term
pub term_passed : (bytes : List ℕ) (t : Term) → term_read bytes ≡ Reply.answered t → bytes ≡ text t
unfolding term_read
term_passed bytes t e = go (term_of bytes) refl e
  where
    never : (r : Reply ℕ) → passed_on {Y = Term} r ≡ Reply.answered t → ⊥
    never (Reply.refused n p) e = let z : ◌≡◌ {A = ℕ} 0 1 = cc in omega arith
    never (Reply.answered n) e = let z : ◌≡◌ {A = ℕ} 0 1 = cc in omega arith

    go : (o : Option Term) → term_of bytes ≡ o → or_refusal o (reading_of bytes) ≡ Reply.answered t → bytes ≡ text t
    go none f e = absurd (never (reading_of bytes) e)
    go (some u) f e = sym (text-term_of bytes t (f ∙ cc))

-- what is refused of a term is what reading refuses
pub term-refused : (bytes : List ℕ) (n p : ℕ) → term_read bytes ≡ Reply.refused n p → Unread (length bytes) n p
unfolding term_read
term-refused bytes n p e = go (term_of bytes) refl e
  where
    number : (r : Reply ℕ) → reading_of bytes ≡ r → term_of bytes ≡ none → passed_on {Y = Term} r ≡ Reply.refused n p → Unread (length bytes) n p
    number (Reply.refused m q) f missing e = reading_refused bytes n p (f ∙ cc)
    number (Reply.answered m) f missing e =
        let (t, same, sized) = whole-term bytes m f in
        let z : ◌≡◌ {A = ℕ} 0 1 = cc (ap term_of same, term_of-text t) in
        absurd (omega arith)

    go : (o : Option Term) → term_of bytes ≡ o → or_refusal o (reading_of bytes) ≡ Reply.refused n p → Unread (length bytes) n p
    go none f e = number (reading_of bytes) refl f e
    go (some u) f e = let z : ◌≡◌ {A = ℕ} 0 1 = cc in absurd (omega arith)
