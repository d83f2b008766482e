-- Decimal numbers: written, a number is its tenth and its last digit; read, a text is the number of its digits, and none where it has a
-- leading zero. Assumes nothing.
use Prim.Native.Nat.{ℕ, zero, suc, ◌+◌, ◌*◌, ◌-◌, ◌/◌, ◌%◌, ◌^◌, ◌≤◌, ◌<◌}
use native.Mathlib.Nat.{pow-suc}
use native.Mathlib.Decide.{dec_lt}
use mathlib.Core.Path.{◌≡◌, refl, sym, ◌∙◌, ap, subst}
use mathlib.Core.Bool.{Bool, true, false, ◌&&◌, false≢true}
use mathlib.Core.Option.{Option, none, some}
use mathlib.Core.List.{List, [], ◌∷◌, ◌++◌}
use lib.Dec.{leb, ltb, eqb}
use lib.ListN.{length, length-append}
use borrow.Author.Tests.{leb-true, ltb-true, lt-ltb, eqb-true, eqb-false, ne_eqb}
use native.Mathlib.Omega.{arith}
use Rattle.slices.specs.Numeral.{digit0, digit9, is_digit, all_digits, value_from, some_if, number_of, zero_or, is_zero, decimal_of}
use Rattle.slices.specs.Numeral.{digits, numeral, decimal}
use Rattle.slices.proofs.Splitting.{Free}

-- both parts of a test that held
pub and_both : (s t : Bool) → (s && t) ≡ true → (s ≡ true) × (t ≡ true)
and_both true t e = (refl, e)
and_both false t e = absurd (false≢true e)

and-true : (t : Bool) → (t && true) ≡ t
and-true true = refl
and-true false = refl

and-false : (t : Bool) → (t && false) ≡ false
and-false true = refl
and-false false = refl

-- a byte that passes the test is a digit
pub digit_range : (b : ℕ) → is_digit b ≡ true → (digit0 ≤ b) × (b ≤ digit9)
digit_range b e = let (low, high) = and_both (leb digit0 b) (leb b digit9) e in (leb-true digit0 b low, leb-true b digit9 high)

-- no mark below `0` is a digit
digit_free : (mark b : ℕ) → mark < digit0 → is_digit b ≡ true → b ≡ mark → ⊥
digit_free mark b below e q = let (low, high) = digit_range b e in omega arith

-- ---- written

-- places enough for a number are as good as any more
pub digits-enough : (p q n : ℕ) → n ≤ p → n ≤ q → digits p n ≡ digits q n
digits-enough zero zero n low high = refl
digits-enough zero (suc q) zero low high = refl
digits-enough zero (suc q) (suc n) low high = absurd (omega arith)
digits-enough (suc p) zero zero low high = refl
digits-enough (suc p) zero (suc n) low high = absurd (omega arith)
digits-enough (suc p) (suc q) zero low high = refl
digits-enough (suc p) (suc q) (suc n) low high =
    ap (λ (s : List ℕ). s ++ ((digit0 + suc n % 10) ∷ [])) (digits-enough p q (suc n / 10) (omega arith) (omega arith))

-- a number is written as its tenth and its last digit
pub numeral_tenth : (n : ℕ) → 1 ≤ n → numeral n ≡ numeral (n / 10) ++ ((digit0 + n % 10) ∷ [])
unfolding numeral
numeral_tenth zero positive = absurd (omega arith)
numeral_tenth (suc n) positive =
    ap (λ (s : List ℕ). s ++ ((digit0 + suc n % 10) ∷ [])) (digits-enough n (suc n / 10) (suc n / 10) (omega arith) (omega arith))

decimal-numeral : (n : ℕ) → 1 ≤ n → decimal n ≡ numeral n
unfolding decimal
decimal-numeral zero positive = absurd (omega arith)
decimal-numeral (suc n) positive = refl

-- so from ten upwards, with `0` for nought
pub decimal_tenth : (n : ℕ) → 10 ≤ n → decimal n ≡ decimal (n / 10) ++ ((digit0 + n % 10) ∷ [])
decimal_tenth n ten =
    decimal-numeral n (omega arith)
    ∙ numeral_tenth n (omega arith)
    ∙ ap (λ (s : List ℕ). s ++ ((digit0 + n % 10) ∷ [])) (sym (decimal-numeral (n / 10) (omega arith)))

-- below ten a number is one digit
pub decimal_digit : (n : ℕ) → n < 10 → decimal n ≡ (digit0 + n % 10) ∷ []
unfolding decimal numeral
decimal_digit zero small = refl
decimal_digit (suc n) small =
    let tenth : suc n / 10 ≡ 0 = omega arith in
    numeral_tenth (suc n) (omega arith) ∙ ap (λ (m : ℕ). numeral m ++ ((digit0 + suc n % 10) ∷ [])) tenth

-- ---- read

-- a digit behind digits
pub value-append : (m : ℕ) (s : List ℕ) (b : ℕ) → value_from m (s ++ (b ∷ [])) ≡ value_from m s * 10 + (b - digit0)
value-append m [] b = refl
value-append m (c ∷ s) b = value-append (m * 10 + (c - digit0)) s b

-- further digits make no number less
value-least : (m : ℕ) (s : List ℕ) → m ≤ value_from m s
value-least m [] = omega arith
value-least m (b ∷ s) = let rest = value-least (m * 10 + (b - digit0)) s in omega arith

pub some_if_lem : (t : Bool) (m n : ℕ) → some_if t m ≡ some n → (t ≡ true) × (m ≡ n)
some_if_lem true m n e = (refl, cc)
some_if_lem false m n e = (cc, cc)

none-some : (n : ℕ) → ◌≡◌ {A = Option ℕ} none (some n) → ⊥
none-some n e = let z : ◌≡◌ {A = ℕ} 0 1 = cc in omega arith

none_if : (t : Bool) (n : ℕ) → t ≡ false → some_if t n ≡ none
none_if t n e = ap (λ (u : Bool). some_if u n) e

-- nothing at all is no number
pub decimal-empty : decimal_of [] ≡ none
unfolding decimal_of number_of
decimal-empty = refl

pub decimal-zero : decimal_of (digit0 ∷ []) ≡ some 0
unfolding decimal_of
decimal-zero = refl

-- nor is what has a leading zero
number_leading_zero : (bytes : List ℕ) → number_of (digit0 ∷ bytes) ≡ none
unfolding number_of
number_leading_zero bytes = none_if _ _ (and-false (all_digits (digit0 ∷ bytes)))

pub decimal_leading_zero : (b : ℕ) (rest : List ℕ) → decimal_of (digit0 ∷ b ∷ rest) ≡ none
unfolding decimal_of
decimal_leading_zero b rest = number_leading_zero (b ∷ rest)

-- with another first byte than `0`, it is the number of the digits, and one from 1 upwards
module _ (b : ℕ) (bytes : List ℕ) (other : b ≡ digit0 → ⊥) where
  decimal-number : decimal_of (b ∷ bytes) ≡ number_of (b ∷ bytes)
  unfolding decimal_of
  decimal-number = ap (λ (t : Bool). zero_or t (number_of (b ∷ bytes))) (no_zero bytes)
    where
      no_zero : (s : List ℕ) → is_zero (b ∷ s) ≡ false
      no_zero [] = ne_eqb b digit0 other
      no_zero (c ∷ s) = refl

  pub decimal-digits : decimal_of (b ∷ bytes) ≡ some_if (all_digits (b ∷ bytes)) (value_from 0 (b ∷ bytes))
  unfolding number_of
  decimal-digits = decimal-number ∙ ap (λ (t : Bool). some_if t (value_from 0 (b ∷ bytes))) (go (is_digit b) refl)
    where
      go : (t : Bool) → is_digit b ≡ t → ((t && all_digits bytes) && ltb digit0 b) ≡ (t && all_digits bytes)
      go false e = refl
      go true e =
          let (low, high) = digit_range b e in
          let above : ltb digit0 b ≡ true = lt-ltb digit0 b (omega arith) in
          ap (λ (t : Bool). all_digits bytes && t) above ∙ and-true (all_digits bytes)

-- a number other than 0
abbrev pub from_one : Option ℕ → Option ℕ
from_one none = none
from_one (some zero) = none
from_one (some (suc n)) = some (suc n)

-- the numbers from 1 upwards are those from 0 upwards but 0
pub number-decimal : (bytes : List ℕ) → number_of bytes ≡ from_one (decimal_of bytes)
unfolding number_of
number-decimal [] = ap from_one (sym decimal-empty)
number-decimal (b ∷ bytes) = go (eqb b digit0) refl
  where
    zeros : (s : List ℕ) → number_of (digit0 ∷ s) ≡ from_one (decimal_of (digit0 ∷ s))
    zeros [] = number_leading_zero [] ∙ ap from_one (sym decimal-zero)
    zeros (c ∷ s) = number_leading_zero (c ∷ s) ∙ ap from_one (sym (decimal_leading_zero c s))

    from_one_lem : (n : ℕ) → 1 ≤ n → some n ≡ from_one (some n)
    from_one_lem zero h = absurd (omega arith)
    from_one_lem (suc n) h = refl

    positive : (all lead : Bool) → ltb digit0 b ≡ lead →
        some_if (all && lead) (value_from 0 (b ∷ bytes)) ≡ from_one (some_if (all && lead) (value_from 0 (b ∷ bytes)))
    positive true true e =
        from_one_lem (value_from 0 (b ∷ bytes)) (omega (arith, value-least (0 * 10 + (b - digit0)) bytes, ltb-true digit0 b e))
    positive true false e = refl
    positive false lead e = refl

    go : (t : Bool) → eqb b digit0 ≡ t → number_of (b ∷ bytes) ≡ from_one (decimal_of (b ∷ bytes))
    go true e = ap (λ (c : ℕ). number_of (c ∷ bytes)) (eqb-true b digit0 e)
        ∙ zeros bytes ∙ ap (λ (c : ℕ). from_one (decimal_of (c ∷ bytes))) (sym (eqb-true b digit0 e))
    go false e =
        positive (all_digits (b ∷ bytes)) (ltb digit0 b) refl ∙ ap from_one (sym (decimal-number b bytes (eqb-false b digit0 e)))

-- no mark below `0` stands in a number
pub free-digits : (mark : ℕ) (s : List ℕ) → mark < digit0 → all_digits s ≡ true → Free mark s
free-digits mark [] below all = tt
free-digits mark (b ∷ s) below all =
    let (first, others) = and_both (is_digit b) (all_digits s) all in
    (digit_free mark b below first, free-digits mark s below others)

pub decimal-free : (mark : ℕ) (bytes : List ℕ) (n : ℕ) → mark < digit0 → decimal_of bytes ≡ some n → Free mark bytes
decimal-free mark [] n below e = tt
decimal-free mark (b ∷ bytes) n below e = go (eqb b digit0) refl
  where
    zeros : (s : List ℕ) → decimal_of (digit0 ∷ s) ≡ some n → Free mark (digit0 ∷ s)
    zeros [] q = (omega arith, tt)
    zeros (c ∷ s) q = let z = decimal_leading_zero c s in absurd (none-some n (sym z ∙ q))

    go : (t : Bool) → eqb b digit0 ≡ t → Free mark (b ∷ bytes)
    go true q =
        let here = eqb-true b digit0 q in
        subst (λ (c : ℕ). Free mark (c ∷ bytes)) (sym here) (zeros bytes (ap (λ (c : ℕ). decimal_of (c ∷ bytes)) (sym here) ∙ e))
    go false q =
        free-digits mark (b ∷ bytes) below
        (some_if_lem (all_digits (b ∷ bytes)) (value_from 0 (b ∷ bytes)) n (sym (decimal-digits b bytes (eqb-false b digit0 q)) ∙ e)).0

-- ---- how many digits

-- a number below a power of ten has at most so many digits
pub decimal-length : (k n : ℕ) → n < 10 ^ suc k → length (decimal n) ≤ suc k
decimal-length zero n below = omega (arith, ap length (decimal_digit n (omega arith)))
decimal-length (suc k) n below =
    let tenth : n / 10 < 10 ^ suc k = omega (arith, pow-suc 10 (suc k)) in
    go (dec_lt n 10) (decimal-length k (n / 10) tenth)
  where
    go : Dec (n < 10) → length (decimal (n / 10)) ≤ suc k → length (decimal n) ≤ suc (suc k)
    go (yes small) fewer = omega (arith, ap length (decimal_digit n small))
    go (no large) fewer =
        omega (arith, ap length (decimal_tenth n (omega arith)), length-append (decimal (n / 10)) ((digit0 + n % 10) ∷ []))
