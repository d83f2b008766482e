-- The laws of `part`: its length, its ends, its bytes, parts of an append and of a part; and zeros. Each is `take` and `drop` of `lib.Seq`.
-- Assumes nothing.
use mathlib.Core.Path.{◌≡◌, sym, ap, ◌∙◌}
use mathlib.Core.List.{List, [], ◌∷◌, ◌++◌}
use Prim.Native.Nat.{ℕ, zero, suc, ◌+◌, ◌-◌, ◌≤◌, ◌<◌, min}
use native.Mathlib.Nat.{sub-zero, zero-sub, suc-sub-suc}
use native.Mathlib.Omega.{arith}
use lib.ListN.{length, take, drop, replicate, get_or, length-take, length-drop, drop_of_length-le}
use lib.Seq.{take-nil, take_all, take-add, take-take, drop-drop, drop-cons, drop-append-add, take-append-le, get_or-take, get_or-drop}
use Rattle.slices.specs.Part.{part}

-- ---- length

pub length_part : (from to : ℕ) (s : List ℕ) → length (part from to s) ≡ min (to - from) (length s - from)
length_part from to s = length-take (to - from) (drop from s) ∙ ap (min (to - from)) (length-drop from s)

-- a part that ends within the list is as long as its indices say
pub part_length : (from to : ℕ) (s : List ℕ) → to ≤ length s → length (part from to s) ≡ to - from
part_length from to s h = omega (arith, length_part from to s)

-- ---- ends

pub part-empty : (from to : ℕ) (s : List ℕ) → to ≤ from → part from to s ≡ []
part-empty from to s h =
    let none : to - from ≡ 0 = omega arith in
    ap (λ (n : ℕ). take n (drop from s)) none

pub part_past : (from to : ℕ) (s : List ℕ) → length s ≤ from → part from to s ≡ []
part_past from to s h = ap (take (to - from)) (drop_of_length-le s h) ∙ take-nil (to - from)

-- a part that starts at 0, and one that goes to the end
pub part-front : (to : ℕ) (s : List ℕ) → part 0 to s ≡ take to s
part-front to s = ap (λ (n : ℕ). take n s) (sub-zero to)

pub part-back : (from to : ℕ) (s : List ℕ) → length s ≤ to → part from to s ≡ drop from s
part-back from to s h = take_all (to - from) (drop from s) (omega (arith, length-drop from s))

-- an end past the list is the list's end
pub part_clip : (from to : ℕ) (s : List ℕ) → length s ≤ to → part from to s ≡ part from (length s) s
part_clip from to s h = part-back from to s h ∙ sym (part-back from (length s) s (omega arith))

pub part-all : (s : List ℕ) → part 0 (length s) s ≡ s
part-all s = part-back 0 (length s) s (omega arith)

-- ---- bytes

pub part_at : (from to : ℕ) (s : List ℕ) (i : ℕ) → from + i < to → get_or (part from to s) i 0 ≡ get_or s (from + i) 0
part_at from to s i h = get_or-take (to - from) (drop from s) i 0 (omega arith) ∙ get_or-drop from s i 0

-- adjacent parts append
pub part_join : (a b c : ℕ) (s : List ℕ) → a ≤ b → b ≤ c → part a b s ++ part b c s ≡ part a c s
part_join a b c s h k =
    let whole : c - a ≡ (b - a) + (c - b) = omega arith in
    let seam : a + (b - a) ≡ b = omega arith in
    ap (λ (l : List ℕ). part a b s ++ take (c - b) l) (sym (drop-drop (b - a) a s ∙ ap (λ (n : ℕ). drop n s) seam))
    ∙ sym (ap (λ (n : ℕ). take n (drop a s)) whole ∙ take-add (b - a) (c - b) (drop a s))

-- the part of one index
pub part-one : (at : ℕ) (s : List ℕ) → at < length s → part at (at + 1) s ≡ get_or s at 0 ∷ []
part-one at s h =
    let one : at + 1 - at ≡ 1 = omega arith in
    ap (λ (n : ℕ). take n (drop at s)) one ∙ ap (take 1) (drop-cons s at 0 h)

-- a part's first byte and the rest, and all before its last byte and that byte
pub part_cons : (from to : ℕ) (s : List ℕ) → from < to → from < length s → part from to s ≡ get_or s from 0 ∷ part (from + 1) to s
part_cons from to s h k =
    sym (part_join from (from + 1) to s (omega arith) (omega arith))
    ∙ ap (λ (l : List ℕ). l ++ part (from + 1) to s) (part-one from s k)

pub part_snoc : (from to : ℕ) (s : List ℕ) → from ≤ to → to < length s → part from (to + 1) s ≡ part from to s ++ (get_or s to 0 ∷ [])
part_snoc from to s h k =
    sym (part_join from to (to + 1) s h (omega arith)) ∙ ap (λ (l : List ℕ). part from to s ++ l) (part-one to s k)

-- ---- parts of an append and of a part

-- a part is what stands behind `from` in the first `to`
pub part_slice : (from to : ℕ) (s : List ℕ) → part from to s ≡ drop from (take to s)
part_slice zero to s = ap (λ (n : ℕ). take n s) (sub-zero to)
part_slice (suc f) zero s = ap (λ (n : ℕ). take n (drop (suc f) s)) (zero-sub (suc f))
part_slice (suc f) (suc t) [] = take-nil (suc t - suc f)
part_slice (suc f) (suc t) (x ∷ s) = ap (λ (n : ℕ). take n (drop f s)) (suc-sub-suc t f) ∙ part_slice f t s

pub part_left : (from to : ℕ) (s t : List ℕ) → to ≤ length s → part from to (s ++ t) ≡ part from to s
part_left from to s t h =
    part_slice from to (s ++ t) ∙ ap (drop from) (take-append-le to s t h) ∙ sym (part_slice from to s)

pub part_right : (from to : ℕ) (s t : List ℕ) → length s ≤ from → part from to (s ++ t) ≡ part (from - length s) (to - length s) t
part_right from to s t h =
    let start : from ≡ length s + (from - length s) = omega arith in
    let size : to - from ≡ to - length s - (from - length s) = omega arith in
    ap (λ (n : ℕ). take n (drop from (s ++ t))) size
    ∙ ap (take (to - length s - (from - length s))) (ap (λ (n : ℕ). drop n (s ++ t)) start ∙ drop-append-add s t (from - length s))

pub part-part : (a b from to : ℕ) (s : List ℕ) → from + b ≤ to → part a b (part from to s) ≡ part (from + a) (from + b) s
part-part a b from to s h =
    let size : from + b - (from + a) ≡ b - a = omega arith in
    part_slice a b (part from to s)
    ∙ ap (drop a) (take-take b (to - from) (drop from s) (omega arith))
    ∙ sym (part_slice a b (drop from s))
    ∙ ap (take (b - a)) (drop-drop a from s)
    ∙ ap (λ (n : ℕ). take n (drop (from + a) s)) (sym size)

-- lists that agree on their first n have the same parts there
pub part_of_take : (from to n : ℕ) (s t : List ℕ) → to ≤ n → take n s ≡ take n t → part from to s ≡ part from to t
part_of_take from to n s t h e =
    part_slice from to s
    ∙ ap (drop from) (sym (take-take to n s h) ∙ ap (take to) e ∙ take-take to n t h)
    ∙ sym (part_slice from to t)

-- and lists that agree from n on have the same parts behind it
pub part_of_drop : (from to n : ℕ) (s t : List ℕ) → n ≤ from → drop n s ≡ drop n t → part from to s ≡ part from to t
part_of_drop from to n s t h e =
    let start : n + (from - n) ≡ from = omega arith in
    let fall : (l : List ℕ) → drop from l ≡ drop (from - n) (drop n l) = λ l. sym (drop-drop (from - n) n l ∙ ap (λ (k : ℕ). drop k l) start) in
    ap (take (to - from)) (fall s ∙ ap (drop (from - n)) e ∙ sym (fall t))

-- ---- zeros

-- zeros without the first of them
pub drop-zeros : (i n : ℕ) → drop {A = ℕ} i (replicate n 0) ≡ replicate (n - i) 0
drop-zeros zero n = ap (λ (k : ℕ). replicate k 0) (sym (sub-zero n))
drop-zeros (suc i) zero = ap (λ (k : ℕ). replicate k 0) (sym (zero-sub (suc i)))
drop-zeros (suc i) (suc n) = drop-zeros i n ∙ ap (λ (k : ℕ). replicate k 0) (sym (suc-sub-suc n i))
