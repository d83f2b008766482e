-- Where fields end, as the code finds it: these laws carry `stop_from`. Assumes nothing.
use Prim.Native.Nat.{ℕ, suc, ◌+◌, ◌≤◌, ◌<◌, max}
use native.Mathlib.Numerals.{add-one}
use native.Mathlib.Omega.{arith}
use native.Mathlib.Decide.{dec_le}
use mathlib.Core.Path.{◌≡◌, ◌∙◌, ap}
use mathlib.Core.Bool.{Bool, true, false, cond}
use mathlib.Core.List.{List}
use lib.ListN.{length, get_or, drop, drop_of_length-le}
use lib.Seq.{drop-cons}
use Rattle.fields.specs.Fields.{is_stop, stop_in, stop_at}

-- ---- one turn of `stop_from`

-- the byte at a place
at_byte :
    (at : ℕ) (s : List ℕ) → at < length s →
    stop_in (drop at s) ≡ cond (is_stop (get_or s at 0)) 0 (suc (stop_in (drop (suc at) s)))
at_byte at s h = ap stop_in (drop-cons s at 0 h)

-- a stop stands there
pub at-stop : (at : ℕ) (s : List ℕ) → at < length s → is_stop (get_or s at 0) ≡ true → at ≡ stop_at s at
at-stop at s h e =
    let here : stop_in (drop at s) ≡ 0 = at_byte at s h ∙ ap (λ (t : Bool). cond t 0 (suc (stop_in (drop (suc at) s)))) e in
    omega arith

-- another byte stands there
pub at_other : (at : ℕ) (s : List ℕ) → at < length s → is_stop (get_or s at 0) ≡ false → stop_at s (at + 1) ≡ stop_at s at
at_other at s h e =
    let here : stop_in (drop at s) ≡ suc (stop_in (drop (suc at) s)) = at_byte at s h
    ∙ ap (λ (t : Bool). cond t 0 (suc (stop_in (drop (suc at) s)))) e in
    let there : stop_in (drop (at + 1) s) ≡ stop_in (drop (suc at) s) = ap (λ (k : ℕ). stop_in (drop k s)) (add-one at) in
    omega arith

-- no byte stands there
past : (at : ℕ) (s : List ℕ) → length s ≤ at → at ≡ stop_at s at
past at s h = let here : stop_in (drop at s) ≡ 0 = ap stop_in (drop_of_length-le s h) in omega arith

-- none of the file's bytes is left
pub at-end :
    (from at : ℕ) (s : List ℕ) → length s ≤ at → (from ≤ length s → at ≤ length s) → stop_at s at ≡ stop_at s from →
    max from (length s) ≡ stop_at s from
at-end from at s h few e = go (dec_le from (length s))
  where
    go : Dec (from ≤ length s) → max from (length s) ≡ stop_at s from
    go (yes within) = let last = few within in let end = past at s h in omega (arith, last, end, e)
    go (no beyond) = let end = past from s (omega arith) in omega (arith, end)
