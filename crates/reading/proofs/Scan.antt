-- What reading does at one byte, as laws over plain variables: these carry the loop of `read` and the tests of `arity`.
-- Assumes nothing.
use Prim.Native.Nat.{ℕ, zero, suc, ◌+◌, ◌-◌, ◌<◌, ◌≤◌}
use native.Mathlib.Nat.{add-zero}
use native.Mathlib.Numerals.{add-one, add-two}
use native.Mathlib.Omega.{arith}
use mathlib.Core.Path.{◌≡◌, refl, sym, ◌∙◌, ap}
use mathlib.Core.Bool.{Bool, true, false, false≢true}
use mathlib.Core.List.{List, [], ◌∷◌}
use mathlib.Core.Option.{Option, none, some}
use Rattle.std.specs.Prelude.{Some, None}
use borrow.Author.Tests.{ne_eqb}
use lib.ListN.{length, get_or, drop, drop_of_length-le}
use lib.Seq.{drop-cons}
use Rattle.calculus.specs.Bell.{is_bell}
use Rattle.calculus.specs.Letter.{Letter, byte, owed, alphabet, chosen, find, letter_of}
use Rattle.calculus.proofs.Bells.{bell-letter, letter-bell}
use Rattle.calculus.proofs.PrefixCode.{letter_of-byte}
use Rattle.reading.specs.Reply.{Reply}
use Rattle.reading.specs.Reading.{at_letter, reading_from, reading_of}
use Rattle.reading.specs.Arity.{arity_of_letter, arity_of}

Some≢None : {n : ℕ} → Some n ≡ None → ⊥
Some≢None e = let z : ◌≡◌ {A = ℕ} 0 1 = cc in omega arith

-- the terms owed behind a letter are those owed before and those that it takes
pub owed_sum : (l : Letter) (k : ℕ) → owed l k ≡ k + owed l 0
owed_sum Letter.J k = sym (add-zero k)
owed_sum Letter.R k = sym (add-one k)
owed_sum Letter.H k = sym (add-two k)
owed_sum Letter.A k = sym (add-two k)
owed_sum Letter.I k = sym (add-zero k)
owed_sum Letter.B k = sym (add-two k)
owed_sum Letter.stop k = sym (add-two k)
owed_sum (Letter.bell b) k = sym (add-zero k)

few : (l : Letter) → owed l 0 < 3
few Letter.J = omega arith
few Letter.R = omega arith
few Letter.H = omega arith
few Letter.A = omega arith
few Letter.I = omega arith
few Letter.B = omega arith
few Letter.stop = omega arith
few (Letter.bell b) = omega arith

-- the byte at a place, where a term is owed
at_byte :
    (k at : ℕ) (s : List ℕ) →
    at < length s →
    reading_from (suc k) at (drop at s) ≡ at_letter (letter_of (get_or s at 0)) at (λ l. reading_from (owed l k) (suc at) (drop (suc at) s))
at_byte k at s h = ap (reading_from (suc k) at) (drop-cons s at 0 h)

-- 5 at a byte that is no letter
pub no_letter :
    (owing at : ℕ) (s : List ℕ) →
    at < length s → (owing ≡ 0 → ⊥) → None ≡ arity_of (get_or s at 0) → reading_from owing at (drop at s) ≡ Reply.refused 5 at
unfolding arity_of
no_letter zero at s h owes p = absurd (owes refl)
no_letter (suc k) at s h owes p = at_byte k at s h ∙ go (letter_of (get_or s at 0)) p
  where
    go :
        (o : Option Letter) → None ≡ arity_of_letter o →
        at_letter o at (λ l. reading_from (owed l k) (suc at) (drop (suc at) s)) ≡ Reply.refused 5 at
    go none e = refl
    go (some l) e = absurd (Some≢None (sym e))

-- reading goes on behind a letter
pub letter :
    (owing at parts : ℕ) (s : List ℕ) →
    at < length s →
    (owing ≡ 0 → ⊥) →
    Some parts ≡ arity_of (get_or s at 0) →
    reading_from (owing - 1 + parts) (at + 1) (drop (at + 1) s) ≡ reading_from owing at (drop at s)
unfolding arity_of
letter zero at parts s h owes p = absurd (owes refl)
letter (suc k) at parts s h owes p =
    rw add-one (sym (at_byte k at s h ∙ go (letter_of (get_or s at 0)) p))
  where
    go :
        (o : Option Letter) →
        Some parts ≡ arity_of_letter o →
        at_letter o at (λ l. reading_from (owed l k) (suc at) (drop (suc at) s)) ≡ reading_from (suc k - 1 + parts) (suc at) (drop (suc at) s)
    go none e = absurd (Some≢None e)
    go (some l) e =
        let takes : parts ≡ owed l 0 = cc in
        let sum : owed l k ≡ suc k - 1 + parts = omega (arith, owed_sum l k, takes) in
        ap (λ (n : ℕ). reading_from n (suc at) (drop (suc at) s)) sum

-- 7 where a byte follows a whole term
pub already_whole : (owing at : ℕ) (s : List ℕ) → at < length s → owing ≡ 0 → reading_from owing at (drop at s) ≡ Reply.refused 7 at
already_whole owing at s h e = rw (e, drop-cons s at 0)

-- at the end, the size
pub whole : (owing at : ℕ) (s : List ℕ) → length s ≤ at → owing ≡ 0 → reading_from owing at (drop at s) ≡ Reply.answered at
whole owing at s h e = rw (e, drop_of_length-le s h)

-- at the end, 6 where a term is still owed
pub not_yet_whole : (owing at : ℕ) (s : List ℕ) → length s ≤ at → (owing ≡ 0 → ⊥) → reading_from owing at (drop at s) ≡ Reply.refused 6 at
not_yet_whole zero at s h owes = absurd (owes refl)
not_yet_whole (suc k) at s h owes = rw (drop_of_length-le s h)

-- the count of a letter's byte
pub arity-byte : (l : Letter) (b : ℕ) → b ≡ byte l → Some (owed l 0) ≡ arity_of b
unfolding arity_of
arity-byte l b e = sym (ap arity_of e ∙ ap arity_of_letter (letter_of-byte l))

-- the count of a bell's letter
pub arity-bell : (b : ℕ) → is_bell b ≡ true → Some 0 ≡ arity_of b
arity-bell b e = let (k, same) = letter-bell b e in arity-byte (Letter.bell k) b same

-- a byte that is none of the letters' has no count
pub arity-none : (b : ℕ) → ((l : Letter) → b ≡ byte l → ⊥) → None ≡ arity_of b
unfolding arity_of letter_of
arity-none b other = sym (ap arity_of_letter (missing alphabet))
  where
    missing : (ls : List Letter) → find b ls ≡ none
    missing [] = refl
    missing (l ∷ ls) = ap (λ (t : Bool). chosen t l (find b ls)) (ne_eqb b (byte l) (other l)) ∙ missing ls

-- no letter takes more than two terms
pub arity-few : (b parts : ℕ) → Some parts ≡ arity_of b → parts < 3
unfolding arity_of
arity-few b parts = go (letter_of b)
  where
    go : (o : Option Letter) → Some parts ≡ arity_of_letter o → parts < 3
    go none e = absurd (Some≢None e)
    go (some l) e = let takes : parts ≡ owed l 0 = cc in omega (arith, few l, takes)

-- an invariant that holds at the start
pub start : (s : List ℕ) → reading_from 1 0 (drop 0 s) ≡ reading_of s
unfolding reading_of
start s = refl

-- a byte that is no bell's and none of the others, letter by letter
pub other :
    (b : ℕ) →
    (b ≡ 74 → ⊥) → (b ≡ 73 → ⊥) → (b ≡ 82 → ⊥) → (b ≡ 72 → ⊥) → (b ≡ 65 → ⊥) → (b ≡ 66 → ⊥) → (b ≡ 46 → ⊥) → is_bell b ≡ false →
    (l : Letter) → b ≡ byte l → ⊥
other b j i r h a p s n Letter.J e = j e
other b j i r h a p s n Letter.R e = r e
other b j i r h a p s n Letter.H e = h e
other b j i r h a p s n Letter.A e = a e
other b j i r h a p s n Letter.I e = i e
other b j i r h a p s n Letter.B e = p e
other b j i r h a p s n Letter.stop e = s e
other b j i r h a p s n (Letter.bell k) e = false≢true (sym n ∙ ap is_bell e ∙ bell-letter k)
