-- The table of bells: its twelve rows by their letters and numbers, and that a byte is a bell's letter exactly where it stands in the table.
-- Assumes nothing.
use Prim.Native.Nat.{ℕ}
use mathlib.Core.Path.{◌≡◌, refl, ◌∙◌, ap}
use mathlib.Core.Bool.{Bool, true, false, ◌&&◌, ◌||◌, or-true, false≢true}
use mathlib.Core.List.Memᴰ
use mathlib.Core.List.{List, [], ◌∷◌, map, Memᴰ}
use lib.Dec.{eqb}
use borrow.Author.Tests.{eqb-true, eq-eqb}
use Rattle.calculus.specs.Bell.{Row, byte_in, number_in, rows, bell_letters, Bell, stands, is_bell}

-- a bell's letter and its number
pub record Numbered : Type 0 where
  pub letter : ℕ
  pub number : ℕ

abbrev numbered : (letter number : ℕ) → Numbered
numbered letter number = record { letter = letter; number = number }

-- the bells from one to twelve, written by hand: the digits from 1 on, 0 for ten, E for eleven, T for twelve
pub twelve :
    map (λ (k : Bell). numbered (byte_in k) (number_in k)) (rows bell_letters) ≡
    numbered 49 1
    ∷ numbered 50 2
    ∷ numbered 51 3
    ∷ numbered 52 4
    ∷ numbered 53 5
    ∷ numbered 54 6
    ∷ numbered 55 7
    ∷ numbered 56 8
    ∷ numbered 57 9
    ∷ numbered 48 10
    ∷ numbered 69 11
    ∷ numbered 84 12
    ∷ []
twelve = refl

-- both of two tests that hold together hold
pub and_both : (s t : Bool) → (s && t) ≡ true → (s ≡ true) × (t ≡ true)
and_both true true e = (refl, refl)
and_both true false e = absurd (false≢true e)
and_both false t e = absurd (false≢true e)

-- each row is among the rows
pub row_listed : {bs : List ℕ} (r : Row bs) → Memᴰ r (rows bs)
row_listed Row.first = Memᴰ.head refl
row_listed (Row.later r) = Memᴰ.tail (Memᴰ.map Row.later (row_listed r))

-- the byte of a row is among the bytes
row-byte : {bs : List ℕ} (r : Row bs) → Memᴰ (byte_in r) bs
row-byte Row.first = Memᴰ.head refl
row-byte (Row.later r) = Memᴰ.tail (row-byte r)

-- the test holds of all bytes
abbrev pub all : (ℕ → Bool) → List ℕ → Bool
all test [] = true
all test (b ∷ bs) = test b && all test bs

-- a test that holds of all letters of bells holds of each bell's
pub each-bell : (test : ℕ → Bool) → all test bell_letters ≡ true → (k : Bell) → test (byte_in k) ≡ true
each-bell test e k = each k e
  where
    each : {bs : List ℕ} (r : Row bs) → all test bs ≡ true → test (byte_in r) ≡ true
    each {bs = b ∷ bs} Row.first e = (and_both (test b) (all test bs) e).0
    each {bs = b ∷ bs} (Row.later r) e = each r (and_both (test b) (all test bs) e).1
    each {bs = []} r e = elim r [ ]

-- a byte that is among others stands there
pub listed-stands : {b : ℕ} {bs : List ℕ} → Memᴰ b bs → stands b bs ≡ true
listed-stands {b} {bs = c ∷ bs} (Memᴰ.head e) = ap (λ (t : Bool). t || stands b bs) (eq-eqb b c e)
listed-stands {b} {bs = c ∷ bs} (Memᴰ.tail m) = ap (λ (t : Bool). eqb b c || t) (listed-stands m) ∙ or-true (eqb b c)
listed-stands {bs = []} x = elim x [ ]

-- a byte that stands in the table is that of a row
stands-row : (b : ℕ) (bs : List ℕ) → stands b bs ≡ true → (r : Row bs) × (b ≡ byte_in r)
stands-row b [] e = absurd (false≢true e)
stands-row b (c ∷ bs) e = go (eqb b c) refl (stands-row b bs) e
  where
    go :
        (t : Bool) → eqb b c ≡ t → (stands b bs ≡ true → (r : Row bs) × (b ≡ byte_in r)) → (t || stands b bs) ≡ true →
        (r : Row (c ∷ bs)) × (b ≡ byte_in r)
    go true q later e = (Row.first, eqb-true b c q)
    go false q later e = let (r, same) = later e in (Row.later r, same)

-- the letter of a bell is a bell's
pub bell-letter : (k : Bell) → is_bell (byte_in k) ≡ true
unfolding is_bell
bell-letter k = listed-stands (row-byte k)

-- a bell's letter is the letter of some bell
pub letter-bell : (b : ℕ) → is_bell b ≡ true → (k : Bell) × (b ≡ byte_in k)
unfolding is_bell
letter-bell b e = stands-row b bell_letters e
