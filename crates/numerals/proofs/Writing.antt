-- A number's digits, counted and written from the last to the first: a turn takes the last digit off the number that is left.
-- Carried by `decimal_tenth` and `decimal_digit`. Assumes nothing.
use Prim.Native.Nat.{ℕ, suc, ◌+◌, ◌-◌, ◌/◌, ◌%◌, ◌≤◌, ◌<◌}
use native.Mathlib.Decide.{dec_le}
use native.Mathlib.Omega.{arith}
use mathlib.Core.Path.{◌≡◌, refl, sym, ◌∙◌, ap, ap₂}
use mathlib.Core.List.{List, [], ◌∷◌, ◌++◌, append_assoc}
use lib.ListN.{length, take, drop, set, length-append, length-set}
use lib.Seq.{length-take-le, drop_at, append_snoc, set_split, take-set-le}
use Rattle.slices.specs.Numeral.{decimal}
use Rattle.slices.specs.Put.{put}
use Rattle.slices.proofs.Put.{put-fits, put_byte, put-short, behind-short, behind-fits}
use Rattle.slices.proofs.Decimal.{decimal_tenth, decimal_digit}

-- the last digit is one more
pub length_tenth : (n : ℕ) → 9 < n → length (decimal n) ≡ length (decimal (n / 10)) + 1
length_tenth n h = ap length (decimal_tenth n (omega arith)) ∙ length-append (decimal (n / 10)) ((48 + n % 10) ∷ [])

pub length_digit : (n : ℕ) → n ≤ 9 → length (decimal n) ≡ 1
length_digit n h = ap length (decimal_digit n (omega arith))

-- a byte stored behind the place of a piece, and then the piece, are the piece with the byte
put-store :
    (at : ℕ) (p : List ℕ) (b : ℕ) (d : List ℕ) → at + length p < length d →
    put at p (set d (at + length p) b) ≡ put at (p ++ (b ∷ [])) d
put-store at p b d h =
    let k : ℕ = at + length p in
    let front : length (take k d) ≡ k = length-take-le k d (omega arith) in
    let back : drop k (set d k b) ≡ b ∷ drop (suc k) d =
    ap (drop k) (set_split d k b h) ∙ drop_at (take k d) (b ∷ drop (suc k) d) k front in
    let size : at + length (p ++ (b ∷ [])) ≡ suc k = omega (arith, length-append p (b ∷ [])) in
    let whole : put at (p ++ (b ∷ [])) d ≡ take at d ++ (p ++ (b ∷ [])) ++ drop (suc k) d =
    put-fits at (p ++ (b ∷ [])) d (omega arith) ∙ ap (λ (n : ℕ). take at d ++ (p ++ (b ∷ [])) ++ drop n d) size in
    put-fits at p (set d k b) (omega (arith, length-set d k b))
    ∙ ap₂ (λ (s t : List ℕ). s ++ p ++ t) (take-set-le at d k b (omega arith)) back
    ∙ sym (append_snoc (take at d ++ p) b (drop (suc k) d))
    ∙ ap (λ (s : List ℕ). s ++ drop (suc k) d) (append_assoc (take at d) p (b ∷ []))
    ∙ sym whole

-- a turn: the last digit stored at its place, and the tenth before it
pub digit_turn :
    (n at i b : ℕ) (d whole : List ℕ) → 9 < n → i + 1 ≡ at + length (decimal n) → at + length (decimal n) ≤ length d → b ≡ 48 + n % 10 →
    put at (decimal n) d ≡ whole → put at (decimal (n / 10)) (set d i b) ≡ whole
digit_turn n at i b d whole h e room eb rest =
    let place : i ≡ at + length (decimal (n / 10)) = omega (arith, length_tenth n h) in
    ap₂ (λ (k c : ℕ). put at (decimal (n / 10)) (set d k c)) place eb
    ∙ put-store at (decimal (n / 10)) (48 + n % 10) d (omega (arith, length_tenth n h))
    ∙ ap (λ (s : List ℕ). put at s d) (sym (decimal_tenth n (omega arith)))
    ∙ rest

-- the first digit, which is the last to be stored
pub digit_first :
    (n at b : ℕ) (d whole : List ℕ) → n ≤ 9 → at < length d → b ≡ 48 + n % 10 → put at (decimal n) d ≡ whole → set d at b ≡ whole
digit_first n at b d whole h room eb rest =
    ap (set d at) eb
    ∙ sym (put_byte at (48 + n % 10) d room)
    ∙ ap (λ (s : List ℕ). put at s d) (sym (decimal_digit n (omega arith)))
    ∙ rest

-- no number is without digits
pub one-digit : (n : ℕ) → 1 ≤ length (decimal n)
one-digit n = go (dec_le n 9)
  where
    go : Dec (n ≤ 9) → 1 ≤ length (decimal n)
    go (yes h) = omega (arith, length_digit n h)
    go (no h) = omega (arith, length_tenth n (omega arith))

-- what `append_decimal` cites: whether a number's digits fit
pub ruleset fitting = (put-short, behind-short, behind-fits, one-digit)

-- `Left n at i rest start now`: with the digits of `rest` put in front of index i, if any stand there, the slice is what it is to be
pub record Left (n at i rest : ℕ) (start now : List ℕ) : Type 0 where
  pub more : at < i → (i ≡ at + length (decimal rest)) × (put at (decimal rest) now ≡ put at (decimal n) start)
  pub done : i ≤ at → now ≡ put at (decimal n) start

-- at first all are
pub left-start : (n at i : ℕ) (d : List ℕ) → i ≡ at + length (decimal n) → Left n at i n d d
left-start n at i d e = record { more = λ h. (e, refl); done = λ h. absurd (omega (arith, one-digit n)) }

-- a turn: one digit less
pub left-next :
    {n at i rest : ℕ} {start now : List ℕ} → Left n at i rest start now → at < i → i ≤ length now → (b : ℕ) → b ≡ 48 + rest % 10 →
    Left n at (i - 1) (rest / 10) start (set now (i - 1) b)
left-next {n} {at} {i} {rest} {start} {now} l h room b eb = go (dec_le rest 9)
  where
    long : i ≡ at + length (decimal rest)
    long = (l.more h).0

    go : Dec (rest ≤ 9) → Left n at (i - 1) (rest / 10) start (set now (i - 1) b)
    go (yes one) =
        let e : at ≡ i - 1 = omega (arith, long, length_digit rest one) in
        record {
          more = λ k. absurd (omega arith);
          done =
              λ k.
              ap (λ (j : ℕ). set now j b) (sym e)
              ∙ digit_first rest at b now (put at (decimal n) start) one (omega arith) eb (l.more h).1;
        }
    go (no several) =
        let tenth : length (decimal rest) ≡ length (decimal (rest / 10)) + 1 = length_tenth rest (omega arith) in
        record {
          more = λ k. (
            omega (arith, long, tenth),
            digit_turn rest at (i - 1) b now (put at (decimal n) start) (omega arith) (omega (arith, long)) (omega (arith, long)) eb
                (l.more h).1,
          );
          done = λ k. absurd (omega (arith, long, tenth, one-digit (rest / 10)));
        }
