-- Decimal numbers and premise fields are read back as they were written, and only what is written so is read. Carried by one law of
-- `numeral`: one digit more behind a number is ten times the number and that digit. Assumes nothing.
use Prim.Native.Nat.{ℕ, zero, suc, ◌+◌, ◌*◌, ◌-◌, ◌/◌, ◌%◌, ◌≤◌, ◌<◌}
use mathlib.Core.Path.{◌≡◌, refl, sym, ◌∙◌, ap, ap₂}
use mathlib.Core.Bool.{Bool, true, false, ◌&&◌, false≢true}
use mathlib.Core.Option.{Option, none, some}
use mathlib.Core.List.{List, [], ◌∷◌, ◌++◌, append-nil, append_assoc}
use lib.Dec.{ltb}
use borrow.Author.Tests.{le-leb, ltb-true, lt-ltb, eqb-true, ne_eqb}
use native.Mathlib.Omega.{arith}
use Rattle.slices.specs.Numeral.{is_digit, all_digits, value_from, some_if, number_of, digits, numeral}
use Rattle.derivation_files.specs.Line.{Premise, premise_text, premise_or, is_dash, premise_of}
use Rattle.slices.proofs.Splitting.{Free}
use Rattle.slices.proofs.Decimal.{and_both, numeral_tenth, digit_range, value-append, some_if_lem, free-digits}

-- one digit more behind a number is ten times the number and that digit
numeral_digit : (m b : ℕ) → 48 ≤ b → b ≤ 57 → 1 ≤ m * 10 + (b - 48) → numeral (m * 10 + (b - 48)) ≡ numeral m ++ (b ∷ [])
numeral_digit m b low high some-n =
    let tenth : (m * 10 + (b - 48)) / 10 ≡ m = omega arith in
    let last : 48 + (m * 10 + (b - 48)) % 10 ≡ b = omega arith in
    numeral_tenth (m * 10 + (b - 48)) some-n ∙ ap₂ (λ (n c : ℕ). numeral n ++ (c ∷ [])) tenth last

-- the value of a number as it is written is that number
value-digits : (p n : ℕ) → n ≤ p → value_from 0 (digits p n) ≡ n
value-digits zero n enough = omega arith
value-digits (suc p) zero enough = refl
value-digits (suc p) (suc n) enough =
    let before : value_from 0 (digits p (suc n / 10)) ≡ suc n / 10 = value-digits p (suc n / 10) (omega arith) in
    value-append 0 (digits p (suc n / 10)) (48 + suc n % 10) ∙ omega arith

-- a digit behind digits leaves them digits
all_append : (s : List ℕ) (b : ℕ) → all_digits s ≡ true → 48 ≤ b → b ≤ 57 → all_digits (s ++ (b ∷ [])) ≡ true
all_append [] b all low high = rw (le-leb 48 b low, le-leb b 57 high)
all_append (c ∷ s) b all low high =
    let (first, others) = and_both (is_digit c) (all_digits s) all in
    ap₂ ◌&&◌ first (all_append s b others low high)

-- a number is written in digits
pub numeral-digits : (n : ℕ) → all_digits (numeral n) ≡ true
unfolding numeral
numeral-digits n = go n n
  where
    go : (p m : ℕ) → all_digits (digits p m) ≡ true
    go zero m = refl
    go (suc p) zero = refl
    go (suc p) (suc m) = all_append (digits p (suc m / 10)) (48 + suc m % 10) (go p (suc m / 10)) (omega arith) (omega arith)

-- the bytes begin with a byte above `0`
abbrev Leads : List ℕ → Type 0
Leads [] = ⊥
Leads (b ∷ bytes) = 48 < b

-- what begins so still does with more behind it
leads-append : (s t : List ℕ) → Leads s → Leads (s ++ t)
leads-append [] t leads = absurd leads
leads-append (b ∷ s) t leads = leads

-- nought has no digits
digits-none : (p : ℕ) → digits p 0 ≡ []
digits-none zero = refl
digits-none (suc p) = refl

-- a number from 1 upwards is written without a leading `0`
leads-digits : (p n : ℕ) → 1 ≤ n → n ≤ p → Leads (digits p n)
leads-digits zero n some-n enough = absurd (omega arith)
leads-digits (suc p) zero some-n enough = absurd (omega arith)
leads-digits (suc p) (suc n) some-n enough = go (suc n / 10) refl (leads-digits p (suc n / 10))
  where
    go :
        (tenth : ℕ) → suc n / 10 ≡ tenth → (1 ≤ tenth → tenth ≤ p → Leads (digits p tenth)) →
        Leads (digits p tenth ++ ((48 + suc n % 10) ∷ []))
    go zero e later = rw (digits-none p) (omega arith)
    go (suc m) e later = leads-append (digits p (suc m)) ((48 + suc n % 10) ∷ []) (later (omega arith) (omega arith))

-- a number from 1 upwards is read back as it was written
pub number-numeral : (n : ℕ) → 1 ≤ n → number_of (numeral n) ≡ some n
unfolding number_of numeral
number-numeral n some-n = go (numeral n) (numeral-digits n) (leads-digits n n some-n (omega arith)) (value-digits n n (omega arith))
  where
    go : (bytes : List ℕ) → all_digits bytes ≡ true → Leads bytes → value_from 0 bytes ≡ n → number_of bytes ≡ some n
    go [] all leads value = absurd leads
    go (b ∷ bytes) all leads value = ap₂ some_if (ap₂ ◌&&◌ all (lt-ltb 48 b leads)) value

-- numbers that are written alike are equal
pub numeral_injective : (m n : ℕ) → numeral m ≡ numeral n → m ≡ n
unfolding numeral
numeral_injective m n e = sym (value-digits m m (omega arith)) ∙ ap (value_from 0) e ∙ value-digits n n (omega arith)

-- digits behind a number that is written go on to write what they make of it
numeral-from : (m : ℕ) (s : List ℕ) → 1 ≤ m → all_digits s ≡ true → (numeral (value_from m s) ≡ numeral m ++ s) × (1 ≤ value_from m s)
numeral-from m [] some-m all = (sym (append-nil (numeral m)), some-m)
numeral-from m (b ∷ s) some-m all =
    let (first, others) = and_both (is_digit b) (all_digits s) all in
    let (low, high) = digit_range b first in
    let (spelt, some-n) = numeral-from (m * 10 + (b - 48)) s (omega arith) others in
    (spelt ∙ ap (λ (t : List ℕ). t ++ s) (numeral_digit m b low high (omega arith)) ∙ append_assoc (numeral m) (b ∷ []) s, some-n)

-- a number that is read is from 1 upwards, and was written as it is
pub numeral-number : (bytes : List ℕ) (n : ℕ) → number_of bytes ≡ some n → (numeral n ≡ bytes) × (1 ≤ n)
unfolding number_of numeral
numeral-number [] n e = (cc, let z : ◌≡◌ {A = ℕ} 0 1 = cc in omega arith)
numeral-number (b ∷ bytes) n e =
    let (test, value) = some_if_lem (all_digits (b ∷ bytes) && ltb 48 b) (value_from 0 (b ∷ bytes)) n e in
    let (all, lead) = and_both (all_digits (b ∷ bytes)) (ltb 48 b) test in
    let (first, others) = and_both (is_digit b) (all_digits bytes) all in
    let (low, high) = digit_range b first in
    let above : 48 < b = ltb-true 48 b lead in
    let (spelt, some-n) = numeral-from (0 * 10 + (b - 48)) bytes (omega arith) others in
    (ap numeral (sym value) ∙ spelt ∙ ap (λ (s : List ℕ). s ++ bytes) (numeral_digit 0 b low high (omega arith)), omega arith)

-- digits are no `-`
digits_no_dash : (s : List ℕ) → all_digits s ≡ true → is_dash s ≡ false
digits_no_dash [] all = refl
digits_no_dash (b ∷ []) all = let (low, high) = digit_range b (and_both (is_digit b) true all).0 in ne_eqb b 45 (omega arith)
digits_no_dash (b ∷ c ∷ s) all = refl

-- a premise is `-` or a number from 1 upwards
abbrev pub Proper : Premise → Type 0
Proper Premise.dash = Unit {0}
Proper (Premise.line n) = 1 ≤ n

-- the premise of a premise's text is that premise
pub premise_text_lem : (p : Premise) → Proper p → premise_of (premise_text p) ≡ some p
unfolding premise_of
premise_text_lem Premise.dash proper = refl
premise_text_lem (Premise.line n) proper = ap₂ premise_or (digits_no_dash (numeral n) (numeral-digits n)) (number-numeral n proper)

-- a field that is `-` is that byte
dash-text : (field : List ℕ) → is_dash field ≡ true → 45 ∷ [] ≡ field
dash-text [] e = absurd (false≢true e)
dash-text (b ∷ []) e = ap (λ (c : ℕ). c ∷ []) (sym (eqb-true b 45 e))
dash-text (b ∷ c ∷ field) e = absurd (false≢true e)

-- the text of the premise that bytes are of is those bytes
pub text_premise : (bytes : List ℕ) (p : Premise) → premise_of bytes ≡ some p → premise_text p ≡ bytes
unfolding premise_of
text_premise bytes p = go (is_dash bytes) (number_of bytes) refl refl
  where
    go : (t : Bool) (o : Option ℕ) → is_dash bytes ≡ t → number_of bytes ≡ o → premise_or t o ≡ some p → premise_text p ≡ bytes
    go true o d q e = let found : Premise.dash ≡ p = cc in ap premise_text (sym found) ∙ dash-text bytes d
    go false none d q e = cc
    go false (some n) d q e = let found : Premise.line n ≡ p = cc in ap premise_text (sym found) ∙ (numeral-number bytes n q).0

-- premises of the same text are the same
pub premise_injective : (p q : Premise) → premise_text p ≡ premise_text q → p ≡ q
premise_injective Premise.dash Premise.dash e = refl
premise_injective Premise.dash (Premise.line n) e = absurd (false≢true (ap all_digits e ∙ numeral-digits n))
premise_injective (Premise.line n) Premise.dash e = absurd (false≢true (ap all_digits (sym e) ∙ numeral-digits n))
premise_injective (Premise.line m) (Premise.line n) e = ap Premise.line (numeral_injective m n e)

-- no tab and no line feed stands in a premise's text
pub free_premise : (mark : ℕ) → mark ≤ 10 → (p : Premise) → Free mark (premise_text p)
free_premise mark below Premise.dash = (omega arith, tt)
free_premise mark below (Premise.line n) = free-digits mark (numeral n) (omega arith) (numeral-digits n)
