-- Numbers as four bytes: how long they are, one number more at the end, and that they are read back. Assumes nothing.
use Prim.Native.Nat.{ℕ, zero, suc, ◌+◌, ◌*◌, ◌/◌, ◌%◌, ◌<◌}
use native.Mathlib.Numerals.{add-one}
use native.Mathlib.Omega.{arith}
use native.Mathlib.Nat.{div-div-eq-div-mul, div-add-mod, mod-eq_of_lt}
use mathlib.Core.Path.{◌≡◌, refl, sym, ◌∙◌, ap, ap₂, subst}
use mathlib.Core.List.{List, [], ◌∷◌, ◌++◌, append_assoc, append-nil}
use lib.ListN.{length, take, get_or}
use Rattle.calculus.proofs.Ranges.{Each}
use Rattle.words.specs.Word.{word_limit, word_of, words_of, word_in, words_in}

-- low byte first, written by hand: 305,419,896 is 12 34 56 78 to the base 16
pub low-byte-first : words_of (305_419_896 ∷ 1 ∷ []) ≡ 120 ∷ 86 ∷ 52 ∷ 18 ∷ 1 ∷ 0 ∷ 0 ∷ 0 ∷ []
low-byte-first = refl

-- four bytes for each number
pub words_length : (numbers : List ℕ) → length (words_of numbers) ≡ 4 * length numbers
words_length [] = refl
words_length (n ∷ numbers) = omega (arith, words_length numbers)

-- one number more
pub words_more :
    (i : ℕ) (numbers : List ℕ) → i < length numbers →
    words_of (take (i + 1) numbers) ≡ words_of (take i numbers) ++ word_of (get_or numbers i 0)
words_more i numbers h = ap (λ (k : ℕ). words_of (take k numbers)) (add-one i) ∙ go i numbers h
  where
    go :
        (i : ℕ) (numbers : List ℕ) → i < length numbers →
        words_of (take (suc i) numbers) ≡ words_of (take i numbers) ++ word_of (get_or numbers i 0)
    go i [] h = absurd (omega arith)
    go zero (n ∷ numbers) h = append-nil (word_of n)
    go (suc i) (n ∷ numbers) h =
        ap (λ (l : List ℕ). word_of n ++ l) (go i numbers (omega arith))
        ∙ sym (append_assoc (word_of n) (words_of (take i numbers)) (word_of (get_or numbers i 0)))

-- digits to the base 256, put together again
digits :
    (n a b c r₀ r₁ r₂ r₃ : ℕ) → 256 * a + r₀ ≡ n → 256 * b + r₁ ≡ a → 256 * c + r₂ ≡ b → r₃ ≡ c →
    r₀ + r₁ * 256 + r₂ * 65536 + r₃ * 16777216 ≡ n
digits n a b c r₀ r₁ r₂ r₃ e f g h = omega arith

pub word_back : (n : ℕ) (rest : List ℕ) → n < word_limit → word_in (word_of n ++ rest) ≡ n
word_back n rest h =
    let b : n / 256 / 256 ≡ n / 65536 = div-div-eq-div-mul n 256 256 in
    let c : n / 65536 / 256 ≡ n / 16777216 = div-div-eq-div-mul n 65536 256 in
    digits n (n / 256) (n / 65536) (n / 16777216) (n % 256) (n / 256 % 256) (n / 65536 % 256) (n / 16777216 % 256) (div-add-mod n 256)
    (subst (λ (k : ℕ). 256 * k + n / 256 % 256 ≡ n / 256) b (div-add-mod (n / 256) 256))
    (subst (λ (k : ℕ). 256 * k + n / 65536 % 256 ≡ n / 65536) c (div-add-mod (n / 65536) 256))
    (mod-eq_of_lt (omega arith))

-- numbers that fit four bytes are read back
pub words_back : (numbers rest : List ℕ) → Each (λ (n : ℕ). n < word_limit) numbers → words_in (length numbers) (words_of numbers ++ rest) ≡ numbers
words_back [] rest fit = refl
words_back (n ∷ numbers) rest fit =
    ap₂ (λ (m : ℕ) (l : List ℕ). m ∷ l) (word_back n (words_of numbers ++ rest) fit.0) (words_back numbers rest fit.1)
