-- What the reader answers is `decimal_of` of the bytes that it was fed, cut to the cap. By induction on the bytes. Assumes nothing.
use Prim.Native.Nat.{ℕ, ◌+◌, ◌*◌, ◌-◌, ◌≤◌, min}
use native.Mathlib.Omega.{arith}
use mathlib.Core.Path.{◌≡◌, refl, sym, ◌∙◌, ap}
use mathlib.Core.Bool.{Bool, true, false, ◌&&◌}
use mathlib.Core.List.{List, [], ◌∷◌, ◌++◌}
use mathlib.Core.Option.{Option as Maybe, none, some}
use Rattle.std.specs.Prelude.{Option, Some, None}
use lib.Dec.{eqb}
use borrow.Author.Tests.{eqb-true, eqb-false}
use lib.ListN.{length, drop, drop_of_length-le}
use Rattle.slices.specs.Numeral.{digit0, is_digit, all_digits, value_from, some_if, decimal_of}
use Rattle.slices.proofs.Decimal.{decimal-empty, decimal-zero, decimal_leading_zero, decimal-digits}
use Rattle.decimals.specs.declared.Decimal.{Decimal}
use Rattle.decimals.specs.declared.Decimal.TheVariants.{Empty, Digits, Other}
use Rattle.decimals.specs.Parsed.{more, further_if, first_if, fed, fed_all, state_of, parsed_of, up_to}

-- the state behind one byte more
pub state-more : (cap : ℕ) (bytes : List ℕ) (b : ℕ) → state_of cap (bytes ++ (b ∷ [])) ≡ fed cap (state_of cap bytes) b
state-more cap bytes b = go Empty bytes
  where
    go : (d : Decimal) (s : List ℕ) → fed_all cap d (s ++ (b ∷ [])) ≡ fed cap (fed_all cap d s) b
    go d [] = refl
    go d (c ∷ s) = go (fed cap d c) s

-- what no number begins with stays so
other_stays : (cap : ℕ) (bytes : List ℕ) → fed_all cap Other bytes ≡ Other
other_stays cap [] = refl
other_stays cap (b ∷ bytes) = other_stays cap bytes

-- behind digits that make n, of which k is kept
digits_number :
    (cap n k : ℕ) (bytes : List ℕ) → k ≡ min n cap →
    parsed_of (fed_all cap (Digits k) bytes) ≡ up_to cap (some_if (all_digits bytes) (value_from n bytes))
digits_number cap n k [] e = ap Some e
digits_number cap n k (b ∷ bytes) e =
    go (is_digit b) (digits_number cap (n * 10 + (b - digit0)) (more cap k (b - digit0)) bytes (omega arith))
  where
    value : ℕ
    value = value_from (n * 10 + (b - digit0)) bytes

    go : (t : Bool)
        → parsed_of (fed_all cap (Digits (more cap k (b - digit0))) bytes) ≡ up_to cap (some_if (all_digits bytes) value)
        → parsed_of (fed_all cap (further_if t cap k b) bytes) ≡ up_to cap (some_if (t && all_digits bytes) value)
    go true rest = rest
    go false rest = ap parsed_of (other_stays cap bytes)

-- the number that the bytes so far are
pub state-number : (cap : ℕ) (bytes : List ℕ) → parsed_of (state_of cap bytes) ≡ up_to cap (decimal_of bytes)
state-number cap [] = sym (ap (up_to cap) decimal-empty)
state-number cap (b ∷ bytes) = go (eqb b digit0) refl
  where
    zero : (s : List ℕ) → parsed_of (fed_all cap (first_if true cap digit0) s) ≡ up_to cap (decimal_of (digit0 ∷ s))
    zero [] = ap Some (omega arith) ∙ sym (ap (up_to cap) decimal-zero)
    zero (c ∷ s) = ap parsed_of (other_stays cap s) ∙ sym (ap (up_to cap) (decimal_leading_zero c s))

    go : (t : Bool) → eqb b digit0 ≡ t → parsed_of (fed_all cap (first_if t cap b) bytes) ≡ up_to cap (decimal_of (b ∷ bytes))
    go true e = zero bytes ∙ ap (λ (c : ℕ). up_to cap (decimal_of (c ∷ bytes))) (sym (eqb-true b digit0 e))
    go false e = digits_number cap 0 0 (b ∷ bytes) (omega arith) ∙ sym (ap (up_to cap) (decimal-digits b bytes (eqb-false b digit0 e)))

-- bytes that are a number, of which that much is kept
pub record Numbered (cap : ℕ) (bytes : List ℕ) (kept : ℕ) : Type 0 where
  pub number : ℕ
  pub reads : decimal_of bytes ≡ some number
  pub capped : kept ≡ min number cap

-- what an answer says of the bytes
module _ (cap : ℕ) (bytes : List ℕ) where
  pub numbered : {kept : ℕ} → up_to cap (decimal_of bytes) ≡ Some kept → Numbered cap bytes kept
  numbered {kept} e = go (decimal_of bytes) refl e
    where
      go : (o : Maybe ℕ) → decimal_of bytes ≡ o → up_to cap o ≡ Some kept → Numbered cap bytes kept
      go none q e = let z : ◌≡◌ {A = ℕ} 0 1 = cc in absurd (omega arith)
      go (some n) q e = record { number = n; reads = q; capped = cc }

  pub unnumbered : up_to cap (decimal_of bytes) ≡ None → decimal_of bytes ≡ none
  unnumbered e = go (decimal_of bytes) e
    where
      go : (o : Maybe ℕ) → up_to cap o ≡ None → o ≡ none
      go none e = refl
      go (some n) e = cc

  -- and the same of a state that the bytes have led to
  module _ (d : Decimal) (st : d ≡ state_of cap bytes) where
    answered : parsed_of d ≡ up_to cap (decimal_of bytes)
    answered = ap parsed_of st ∙ state-number cap bytes

    pub state-numbered : {kept : ℕ} → parsed_of d ≡ Some kept → Numbered cap bytes kept
    state-numbered e = numbered (sym answered ∙ e)

    pub state-unnumbered : parsed_of d ≡ None → decimal_of bytes ≡ none
    state-unnumbered e = unnumbered (sym answered ∙ e)

    pub state-fed : (b : ℕ) → fed cap d b ≡ state_of cap (bytes ++ (b ∷ []))
    state-fed b = ap (λ (k : Decimal). fed cap k b) st ∙ sym (state-more cap bytes b)

-- ---- the loop over a slice

-- behind the last byte the answer is the slice's
pub fed-end :
    (cap : ℕ) (s : List ℕ) (i : ℕ) (d : Decimal) (r : Option ℕ) → length s ≤ i → fed_all cap d (drop i s) ≡ state_of cap s → r ≡ parsed_of d →
    r ≡ up_to cap (decimal_of s)
fed-end cap s i d r h inv e =
    e
    ∙ ap parsed_of (sym (ap (fed_all cap d) (drop_of_length-le s h)) ∙ inv)
    ∙ state-number cap s
