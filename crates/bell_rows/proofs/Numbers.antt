-- The number of a bell by its letter, by comparisons of bytes: these carry the tests of `bell_number`. Assumes nothing.
use Prim.Native.Nat.{ℕ, ◌-◌, ◌≤◌, ◌<◌}
use native.Mathlib.Omega.{arith}
use mathlib.Core.Path.{◌≡◌, refl, sym, ◌∙◌, ap}
use mathlib.Core.Bool.{Bool, true, false, ◌||◌, false≢true}
use mathlib.Core.List.{List}
use mathlib.Core.Option.{Option, none, some}
use borrow.Author.Tests.{lt-leb, eqb-true}
use lib.Dec.{leb, eqb}
use lib.ListN.{length}
use Rattle.calculus.specs.Bell.{Bell, Row, byte_in, number_in, bell_letters, is_bell}
use Rattle.calculus.specs.Letter.{Letter, letter_of}
use Rattle.calculus.proofs.Bells.{all, each-bell, bell-letter, letter-bell}
use Rattle.calculus.proofs.PrefixCode.{letter_of-byte, byte-letter_of}
use Rattle.reading.proofs.BellBytes.{digit_bell}
use Rattle.bell_rows.specs.Bytes.{number_of_letter, bell_number}

-- a bell's letter has the bell's number
pub number-bell : (k : Bell) → bell_number (byte_in k) ≡ number_in k
unfolding bell_number
number-bell k = ap number_of_letter (letter_of-byte (Letter.bell k))

-- a byte that is no bell's letter has 0
pub number-none : (b : ℕ) → is_bell b ≡ false → 0 ≡ bell_number b
unfolding bell_number
number-none b e = sym (go (letter_of b) refl)
  where
    go : (o : Option Letter) → letter_of b ≡ o → number_of_letter o ≡ 0
    go none q = refl
    go (some Letter.J) q = refl
    go (some Letter.R) q = refl
    go (some Letter.H) q = refl
    go (some Letter.A) q = refl
    go (some Letter.I) q = refl
    go (some Letter.B) q = refl
    go (some Letter.stop) q = refl
    go (some (Letter.bell k)) q =
        absurd (false≢true (sym e ∙ ap is_bell (sym (byte-letter_of b (Letter.bell k) q)) ∙ bell-letter k))

-- ---- the letters, each by its test

pub number_eleven : (b : ℕ) → b ≡ 69 → 11 ≡ bell_number b
unfolding bell_number letter_of
number_eleven b e = sym (ap bell_number e)

pub number_twelve : (b : ℕ) → b ≡ 84 → 12 ≡ bell_number b
unfolding bell_number letter_of
number_twelve b e = sym (ap bell_number e)

pub number_ten : (b : ℕ) → b ≡ 48 → 10 ≡ bell_number b
unfolding bell_number letter_of
number_ten b e = sym (ap bell_number e)

-- the digits from 1 on are their own numbers
abbrev own_number : ℕ → Bool
own_number b = leb 58 b || (leb b 48 || eqb (bell_number b) (b - 48))

own_numbers : all own_number bell_letters ≡ true
unfolding bell_number letter_of
own_numbers = refl

pub number_digit : (b : ℕ) → 48 < b → b ≤ 57 → b - 48 ≡ bell_number b
number_digit b low high =
    let (k, same) = letter-bell b (sym (digit_bell b (omega arith) high)) in
    let tested : own_number b ≡ true = ap own_number same ∙ each-bell own_number own_numbers k in
    let above : leb 58 b ≡ false = lt-leb 58 b (omega arith) in
    let below : leb b 48 ≡ false = lt-leb b 48 low in
    sym
    (eqb-true (bell_number b) (b - 48)
    (ap (λ (t : Bool). t || eqb (bell_number b) (b - 48)) (sym below)
    ∙ ap (λ (t : Bool). t || (leb b 48 || eqb (bell_number b) (b - 48))) (sym above)
    ∙ tested))

-- ---- how large they are

row_number : {bs : List ℕ} (r : Row bs) → number_in r ≤ length bs
row_number Row.first = omega arith
row_number (Row.later r) = let smaller = row_number r in omega arith

-- no number is above twelve
pub number_small : (b : ℕ) → bell_number b ≤ 12
unfolding bell_number
number_small b = go (letter_of b)
  where
    go : (o : Option Letter) → number_of_letter o ≤ 12
    go none = omega arith
    go (some Letter.J) = omega arith
    go (some Letter.R) = omega arith
    go (some Letter.H) = omega arith
    go (some Letter.A) = omega arith
    go (some Letter.I) = omega arith
    go (some Letter.B) = omega arith
    go (some Letter.stop) = omega arith
    go (some (Letter.bell k)) = row_number k
