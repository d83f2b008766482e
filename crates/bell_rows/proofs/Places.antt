-- The bells of a row looked at one by one: the laws of `Each` at an index, which carry the loop of `is_row`. Assumes nothing.
use Prim.Native.Nat.{ℕ, suc, ◌+◌, ◌≤◌, ◌<◌}
use native.Mathlib.Numerals.{add-one}
use native.Mathlib.Omega.{arith}
use mathlib.Core.Path.{◌≡◌, refl, sym, ◌∙◌, ap, subst}
use mathlib.Core.Bool.{Bool, true, false}
use mathlib.Core.List.{List, [], ◌∷◌, ◌++◌}
use mathlib.Core.Logic.{inl, inr}
use lib.ListN.{length, get_or, set, take, drop}
use lib.Seq.{split_at, take-suc, take_all}
use Rattle.bell_rows.specs.Row.{most, is_row}
use Rattle.bell_rows.proofs.Rows.{row-long, row_exactly}
use Rattle.bell_rows.proofs.Each.{Seen, one_seen, no_such_bell, twice_seen, all_seen}

-- no row has more bells than there are places
pub many-bad : (n : ℕ) (bells : List ℕ) → length bells ≤ most → most < n → false ≡ is_row n bells
many-bad n bells placed h = go (is_row n bells) refl
  where
    go : (b : Bool) → is_row n bells ≡ b → false ≡ b
    go false e = refl
    go true e = let long = row-long n bells ((row_exactly n bells).0 e) in absurd (omega arith)

module _ (n : ℕ) (bells : List ℕ) where
  module _ (i b : ℕ) (h : i < length bells) (at : b ≡ get_or bells i 0) where
    -- the row, cut around a bell
    around : take i bells ++ (b ∷ drop (suc i) bells) ≡ bells
    around = ap (λ (k : ℕ). take i bells ++ (k ∷ drop (suc i) bells)) at ∙ sym (split_at bells i 0 h)

    bad : is_row n (take i bells ++ (b ∷ drop (suc i) bells)) ≡ false → false ≡ is_row n bells
    bad e = sym (ap (is_row n) (sym around) ∙ e)

    -- no bell has the number 0
    pub zero-bad : b ≡ 0 → false ≡ is_row n bells
    zero-bad e = bad (no_such_bell n (take i bells) b (drop (suc i) bells) (inl e))

    -- nor a number above n
    pub above-bad : n < b → false ≡ is_row n bells
    above-bad e = bad (no_such_bell n (take i bells) b (drop (suc i) bells) (inr e))

    module _ {seen : List Bool} (few : n ≤ most) (s : Seen n (take i bells) seen) (within : b ≤ n) where
      -- none stands twice
      pub twice-bad : get_or seen b false ≡ true → false ≡ is_row n bells
      twice-bad e = bad (twice_seen few s b within e (drop (suc i) bells))

      -- one bell more
      pub one_more : 1 ≤ b → get_or seen b false ≡ false → Seen n (take (i + 1) bells) (set seen b true)
      one_more low e =
          subst (λ (front : List ℕ). Seen n front (set seen b true))
          (ap (λ (k : ℕ). take i bells ++ (k ∷ [])) at ∙ sym (take-suc bells i 0 h) ∙ ap (λ (k : ℕ). take k bells) (sym (add-one i)))
          (one_seen few s low within e)

  -- all n bells
  pub row-good : (i : ℕ) {seen : List Bool} → length bells ≡ n → length bells ≤ i → Seen n (take i bells) seen → true ≡ is_row n bells
  row-good i {seen} sized all s = sym (all_seen (subst (λ (front : List ℕ). Seen n front seen) (take_all i bells all) s) sized)
