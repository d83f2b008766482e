-- Which calls are refused: each way out of `admit` as one law, and that function and relation agree. Carried by the tests in their turn.
-- Assumes nothing.
use Prim.Native.Nat.{ℕ, ◌≤◌, ◌<◌}
use native.Mathlib.Decide.{dec_le}
use native.Mathlib.Omega.{arith}
use mathlib.Core.Path.{◌≡◌, refl, sym, ◌∙◌, ap, subst}
use mathlib.Core.Bool.{Bool, true, false, ◌&&◌, false≢true}
use lib.Dec.{leb}
use borrow.Author.Tests.{lt-ltb, le-ltb, le-leb, leb-true}
use Rattle.calculus.specs.Limits.{area_limit, fuel_limit}
use Rattle.slices.proofs.Decimal.{and_both}
use Rattle.reading.specs.Reply.{Reply}
use Rattle.small_texts.specs.Texts.{largest_size}
use Rattle.small_admission.specs.Admission.{is_small_size, SmallSize, admitted, Refused, Admitted}

-- ---- sizes

-- a size that passes the test is small
pub small_size : (n : ℕ) → is_small_size n ≡ true → SmallSize n
small_size n e = let (low, high) = and_both (leb 1 n) (leb n largest_size) e in (leb-true 1 n low, leb-true n largest_size high)

is-small : (n : ℕ) → SmallSize n → is_small_size n ≡ true
is-small n (low, high) = ap (λ (b : Bool). b && leb n largest_size) (le-leb 1 n low) ∙ le-leb n largest_size high

not-small : (n : ℕ) → ¬ SmallSize n → is_small_size n ≡ false
not-small n h = go (is_small_size n) refl
  where
    go : (b : Bool) → is_small_size n ≡ b → b ≡ false
    go true e = absurd (h (small_size n e))
    go false e = refl

-- ---- each way out

module _ (n fuel area : ℕ) where
  -- a size that is not small is refused with 32
  pub size-refused : is_small_size n ≡ false → Reply.refused 32 0 ≡ admitted n fuel area
  unfolding admitted
  size-refused h = rw h

  module _ (small : is_small_size n ≡ true) where
    -- a small size and too much fuel with 4
    pub fuel-refused : fuel_limit < fuel → Reply.refused 4 0 ≡ admitted n fuel area
    unfolding admitted
    fuel-refused h = rw (small, lt-ltb _ _ h)

    module _ (fuelled : fuel ≤ fuel_limit) where
      -- and too long an area with 1
      pub area-refused : area_limit < area → Reply.refused 1 0 ≡ admitted n fuel area
      unfolding admitted
      area-refused h = rw (small, le-ltb _ _ fuelled, lt-ltb _ _ h)

      module _ (short : area ≤ area_limit) where
        -- and an area that is shorter than the terms with 3
        pub room-refused : area < n → Reply.refused 3 0 ≡ admitted n fuel area
        unfolding admitted
        room-refused h = rw (small, le-ltb _ _ fuelled, le-ltb _ _ short, lt-ltb _ _ h)

        -- else the call is not refused
        pub not-refused : n ≤ area → Reply.answered tt ≡ admitted n fuel area
        unfolding admitted
        not-refused h = rw (small, le-ltb _ _ fuelled, le-ltb _ _ short, le-ltb _ _ h)

-- ---- function and relation

module _ {n fuel area : ℕ} where
  -- what the relation refuses, the function does
  pub refused-is : {number : ℕ} → Refused n fuel area number → admitted n fuel area ≡ Reply.refused number 0
  refused-is (Refused.not-small h) = sym (size-refused n fuel area (not-small n h))
  refused-is (Refused.fuel_too_high s h) = sym (fuel-refused n fuel area (is-small n s) h)
  refused-is (Refused.area_too_long s f h) = sym (area-refused n fuel area (is-small n s) f h)
  refused-is (Refused.area_too_short s f a h) = sym (room-refused n fuel area (is-small n s) f a h)

  -- and what it admits
  pub admitted-is : Admitted n fuel area → admitted n fuel area ≡ Reply.answered tt
  admitted-is r = sym (not-refused n fuel area (is-small n r.small) r.fuelled r.short r.room)

-- `Decided n fuel area reply`: the relations give that reply
pub data Decided (n fuel area : ℕ) : Reply Unit → Type 0 where
  refuses : {number : ℕ} → Refused n fuel area number → Decided n fuel area (Reply.refused number 0)
  admits : Admitted n fuel area → Decided n fuel area (Reply.answered tt)

-- and they give the function's
pub decided : (n fuel area : ℕ) → Decided n fuel area (admitted n fuel area)
decided n fuel area = sized (is_small_size n) refl
  where
    D : Type 0
    D = Decided n fuel area (admitted n fuel area)

    refusal : {number : ℕ} → Refused n fuel area number → D
    refusal r = subst (Decided n fuel area) (sym (refused-is r)) (Decided.refuses r)

    roomy : SmallSize n → fuel ≤ fuel_limit → area ≤ area_limit → Dec (n ≤ area) → D
    roomy s f a (yes h) =
        let r : Admitted n fuel area = record { small = s; fuelled = f; short = a; room = h } in
        subst (Decided n fuel area) (sym (admitted-is r)) (Decided.admits r)
    roomy s f a (no h) = refusal (Refused.area_too_short s f a (omega arith))

    short : SmallSize n → fuel ≤ fuel_limit → Dec (area ≤ area_limit) → D
    short s f (yes a) = roomy s f a (dec_le n area)
    short s f (no h) = refusal (Refused.area_too_long s f (omega arith))

    fuelled : SmallSize n → Dec (fuel ≤ fuel_limit) → D
    fuelled s (yes f) = short s f (dec_le area area_limit)
    fuelled s (no h) = refusal (Refused.fuel_too_high s (omega arith))

    sized : (b : Bool) → is_small_size n ≡ b → D
    sized true e = fuelled (small_size n e) (dec_le fuel fuel_limit)
    sized false e = refusal (Refused.not-small (λ s. false≢true (sym e ∙ is-small n s)))
