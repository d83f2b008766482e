-- Which bytes are letters of bells, by comparisons: the digits, `E` and `T`. Two computed tests carry it: each letter of the table passes the
-- comparisons, and what passes them stands in the table. Assumes nothing.
use Prim.Native.Nat.{ℕ, zero, suc, ◌+◌, ◌-◌, ◌≤◌, ◌<◌}
use native.Mathlib.Omega.{arith}
use mathlib.Core.Path.{◌≡◌, refl, sym, ◌∙◌, ap}
use mathlib.Core.Bool.{Bool, true, false, ◌&&◌, ◌||◌, and-false}
use borrow.Author.Tests.{lt-leb, eqb-true, eqb-false, ne_eqb}
use lib.Dec.{leb, eqb}
use Rattle.calculus.specs.Bell.{bell_letters, is_bell}
use Rattle.calculus.proofs.Bells.{all, each-bell, and_both, letter-bell}

-- the comparisons
abbrev passes : ℕ → Bool
passes b = (leb 48 b && leb b 57) || (eqb b 69 || eqb b 84)

-- ---- each letter of the table passes

letters_pass : all passes bell_letters ≡ true
letters_pass = refl

bell-passes : (b : ℕ) → is_bell b ≡ true → passes b ≡ true
bell-passes b e = let (k, same) = letter-bell b e in ap passes same ∙ each-bell passes letters_pass k

-- a byte that does not pass is no bell's
pub no_bell : (b : ℕ) → passes b ≡ false → false ≡ is_bell b
no_bell b e = go (is_bell b) refl
  where
    go : (t : Bool) → is_bell b ≡ t → false ≡ t
    go false q = refl
    go true q = sym e ∙ bell-passes b q

-- ---- what passes stands in the table

-- the test holds of each number below n
abbrev below : (ℕ → Bool) → (n : ℕ) → Bool
below test zero = true
below test (suc n) = test n && below test n

below_each : (test : ℕ → Bool) (n k : ℕ) → below test n ≡ true → k < n → test k ≡ true
below_each test zero k e h = absurd (omega arith)
below_each test (suc n) k e h = go (eqb k n) refl (below_each test n k (and_both (test n) (below test n) e).1)
  where
    go : (t : Bool) → eqb k n ≡ t → (k < n → test k ≡ true) → test k ≡ true
    go true q lower = ap test (eqb-true k n q) ∙ (and_both (test n) (below test n) e).0
    go false q lower = let other : k ≡ n → ⊥ = eqb-false k n q in lower (omega arith)

digits : below (λ d. is_bell (48 + d)) 10 ≡ true
unfolding is_bell
digits = refl

-- a digit is a bell's letter
pub digit_bell : (b : ℕ) → 48 ≤ b → b ≤ 57 → true ≡ is_bell b
digit_bell b low high =
    let same : 48 + (b - 48) ≡ b = omega arith in
    sym (below_each (λ d. is_bell (48 + d)) 10 (b - 48) digits (omega arith)) ∙ ap is_bell same

-- and so are `E` and `T`
pub eleven_bell : (b : ℕ) → b ≡ 69 → true ≡ is_bell b
unfolding is_bell
eleven_bell b e = sym (ap is_bell e)

pub twelve_bell : (b : ℕ) → b ≡ 84 → true ≡ is_bell b
unfolding is_bell
twelve_bell b e = sym (ap is_bell e)

-- a byte below the digits is none
pub low_no_bell : (b : ℕ) → b < 48 → false ≡ is_bell b
low_no_bell b h =
    no_bell b (ap (λ (t : Bool). (t && leb b 57) || (eqb b 69 || eqb b 84)) (lt-leb 48 b h)
    ∙ ap (λ (t : Bool). t || eqb b 84) (ne_eqb b 69 (λ e. omega arith))
    ∙ ne_eqb b 84 (λ e. omega arith))

-- above the digits, and not `E`, only `T` is
pub above-digits : (b : ℕ) → 57 < b → (b ≡ 69 → ⊥) → eqb b 84 ≡ is_bell b
above-digits b h n = go (eqb b 84) refl
  where
    outside : (leb 48 b && leb b 57) ≡ false
    outside = ap (λ (t : Bool). leb 48 b && t) (lt-leb b 57 h) ∙ and-false (leb 48 b)

    go : (t : Bool) → eqb b 84 ≡ t → t ≡ is_bell b
    go true q = twelve_bell b (eqb-true b 84 q)
    go false q =
        no_bell b (ap (λ (t : Bool). t || (eqb b 69 || eqb b 84)) outside
        ∙ ap (λ (t : Bool). t || eqb b 84) (ne_eqb b 69 n)
        ∙ q)
