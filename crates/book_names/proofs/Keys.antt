-- Names and their numbers: letter by letter, and that a number tells a name of one to eight small letters from every other.
-- Carried by the digits of a number, taken off from the lowest; seven letters leave the number below `SEVEN`. Assumes nothing.
use Prim.Native.Nat.{ℕ, zero, suc, ◌+◌, ◌*◌, ◌-◌, ◌%◌, ◌≤◌, ◌<◌}
use native.Mathlib.Omega.{arith}
use mathlib.Core.Path.{◌≡◌, refl, sym, ◌∙◌, ap, ap₂}
use mathlib.Core.List.{List, [], ◌∷◌, Memᴰ}
use lib.ListN.{length, get_or, drop}
use lib.Seq.{drop-cons}
use Rattle.books.specs.Name.{first_small, last_small, IsName}
use Rattle.book_names.specs.Key.{key_of}

-- ---- the loop

-- one letter more, from the end
pub key-turn :
    (name : List ℕ) (i : ℕ) → 0 < i → i ≤ length name →
    key_of (drop i name) % 34359738368 * 32 + get_or name (i - 1) 0 % 32 ≡ key_of (drop (i - 1) name)
key-turn name i some within =
    let next : suc (i - 1) ≡ i = omega arith in
    ap (λ (j : ℕ). key_of (drop j name) % 34359738368 * 32 + get_or name (i - 1) 0 % 32) (sym next)
    ∙ sym (ap key_of (drop-cons name (i - 1) 0 (omega arith)))

-- ---- numbers tell names apart

-- as many numbers as so many letters have
abbrev places : ℕ → ℕ
places zero = 1
places (suc n) = places n * 32

key_below : (name : List ℕ) → key_of name < places (length name)
key_below [] = omega arith
key_below (b ∷ name) = let rest = key_below name in omega arith

-- seven letters leave room for one more
places_seven : (n : ℕ) → n ≤ 7 → places n ≤ 34359738368
places_seven zero h = omega arith
places_seven (suc zero) h = omega arith
places_seven (suc (suc zero)) h = omega arith
places_seven (suc (suc (suc zero))) h = omega arith
places_seven (suc (suc (suc (suc zero)))) h = omega arith
places_seven (suc (suc (suc (suc (suc zero))))) h = omega arith
places_seven (suc (suc (suc (suc (suc (suc zero)))))) h = omega arith
places_seven (suc (suc (suc (suc (suc (suc (suc zero))))))) h = omega arith
places_seven (suc (suc (suc (suc (suc (suc (suc (suc n)))))))) h = absurd (omega arith)

-- all letters are small
abbrev Small : List ℕ → Type 0
Small name = (b : ℕ) → Memᴰ b name → (first_small ≤ b) × (b ≤ last_small)

-- small letters have different digits, none of them 0
digits_tell :
    (b c k m : ℕ) → first_small ≤ b → b ≤ last_small → first_small ≤ c → c ≤ last_small → k < 34359738368 → m < 34359738368 →
    k % 34359738368 * 32 + b % 32 ≡ m % 34359738368 * 32 + c % 32 → (b ≡ c) × (k ≡ m)
digits_tell b c k m hb kb hc kc hk hm e = (omega arith, omega arith)

digit_some : (b k : ℕ) → first_small ≤ b → b ≤ last_small → 0 < k % 34359738368 * 32 + b % 32
digit_some b k h l = omega arith

few-below : (name : List ℕ) → length name ≤ 7 → key_of name < 34359738368
few-below name h = let below = key_below name in let most = places_seven (length name) h in omega arith

letters_tell : (first second : List ℕ) → Small first → Small second → length first ≤ 8 → length second ≤ 8 → key_of first ≡ key_of second → first ≡ second
letters_tell [] [] s s' h h' e = refl
letters_tell [] (c ∷ second) s s' h h' e =
    let (least, most) = s' c (Memᴰ.head refl) in
    let more = digit_some c (key_of second) least most in
    absurd (omega arith)
letters_tell (b ∷ first) [] s s' h h' e =
    let (least, most) = s b (Memᴰ.head refl) in
    let more = digit_some b (key_of first) least most in
    absurd (omega arith)
letters_tell (b ∷ first) (c ∷ second) s s' h h' e =
    let (least, most) = s b (Memᴰ.head refl) in
    let (least', most') = s' c (Memᴰ.head refl) in
    let (same, rest) =
    digits_tell b c (key_of first) (key_of second) least most least' most' (few-below first (omega arith)) (few-below second (omega arith)) e in
    ap₂ ◌∷◌ same
    (letters_tell first second (λ x m. s x (Memᴰ.tail m)) (λ x m. s' x (Memᴰ.tail m)) (omega arith) (omega arith) rest)

-- names of one number are the same
pub key-tells : (first second : List ℕ) → IsName first → IsName second → key_of first ≡ key_of second → first ≡ second
key-tells first second n n' e = letters_tell first second n.small n'.small n.few-letters n'.few-letters e
