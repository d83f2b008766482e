-- A test of a row is true exactly where the bells are a permutation of the numbers from 1 upwards: a number that stands in a list without
-- repeats stands there once. Assumes nothing.
use Prim.Native.Nat.{ℕ, zero, suc, ◌+◌, ◌≤◌}
use native.Mathlib.Omega.{arith}
use mathlib.Core.Path.{◌≡◌, refl, sym, ap, ◌∙◌}
use mathlib.Core.Logic.{◌↔◌}
use mathlib.Core.Bool.{Bool, true, false, ◌&&◌, ◌||◌, cond, false≢true}
use mathlib.Core.List.{List, [], ◌∷◌, ◌++◌, Memᴰ}
use borrow.Author.Tests.{eqb-true, eqb-false, eq-eqb, ne_eqb}
use lib.Dec.{eqb}
use lib.ListN.{length}
use Rattle.calculus.specs.Bell.{stands}
use Rattle.calculus.proofs.Bells.{and_both, listed-stands}
use Rattle.repeats.specs.Repeats.{among, NoRepeats}
use Rattle.repeats.proofs.Repeats.{numbers-decided, among-member, fits}
use Rattle.bell_rows.specs.Row.{down_to_one, times, RowOf, every, is_row}

-- ---- the tests

-- a test that holds of all holds of each
every-each : (test : ℕ → Bool) (xs : List ℕ) → every test xs ≡ true → (x : ℕ) → Memᴰ x xs → test x ≡ true
every-each test [] e x m = absurd (mathlib.Core.List.Memᴰ.not-nil m)
every-each test (y ∷ ys) e x m = go (test y) refl e m (every-each test ys)
  where
    go :
        (b : Bool) → test y ≡ b → (b && every test ys) ≡ true → Memᴰ x (y ∷ ys) →
        (every test ys ≡ true → (z : ℕ) → Memᴰ z ys → test z ≡ true) → test x ≡ true
    go true f k (mathlib.Core.List.Memᴰ.head q) rest = ap test q ∙ f
    go true f k (mathlib.Core.List.Memᴰ.tail m) rest = rest k x m
    go false f k m rest = absurd (false≢true k)

-- the other way about
each-every : (test : ℕ → Bool) (xs : List ℕ) → ((x : ℕ) → Memᴰ x xs → test x ≡ true) → every test xs ≡ true
each-every test [] holds = refl
each-every test (y ∷ ys) holds =
    ap (λ (b : Bool). b && every test ys) (holds y (mathlib.Core.List.Memᴰ.head refl)) ∙ each-every test ys (λ x m. holds x (mathlib.Core.List.Memᴰ.tail m))

-- the two tests of whether a number is in a list are the same
stands-among : (k : ℕ) (xs : List ℕ) → stands k xs ≡ among eqb k xs
stands-among k [] = refl
stands-among k (x ∷ xs) = ap (λ (b : Bool). eqb k x || b) (stands-among k xs)

-- a number that stands in a list is in it
pub stands_member : (k : ℕ) (xs : List ℕ) → stands k xs ≡ true → Memᴰ k xs
stands_member k xs e = among-member numbers-decided k xs (sym (stands-among k xs) ∙ e)

-- ---- how often

-- a number that is not in a list stands there never
pub times_none : (k : ℕ) (xs : List ℕ) → (Memᴰ k xs → ⊥) → times k xs ≡ 0
times_none k [] out = refl
times_none k (x ∷ xs) out = go (eqb x k) refl (times_none k xs (λ m. out (mathlib.Core.List.Memᴰ.tail m)))
  where
    go : (b : Bool) → eqb x k ≡ b → times k xs ≡ 0 → cond b 1 0 + times k xs ≡ 0
    go true e h = absurd (out (mathlib.Core.List.Memᴰ.head (sym (eqb-true x k e))))
    go false e h = omega arith

-- one that is, at least once
pub times-some : (k : ℕ) (xs : List ℕ) → Memᴰ k xs → 1 ≤ times k xs
times-some k [] m = absurd (mathlib.Core.List.Memᴰ.not-nil m)
times-some k (x ∷ xs) (mathlib.Core.List.Memᴰ.head e) =
    let here : ◌≡◌ {A = ℕ} (cond (eqb x k) 1 0) 1 = ap (λ (b : Bool). cond b 1 0) (eq-eqb x k (sym e)) in
    omega arith
times-some k (x ∷ xs) (mathlib.Core.List.Memᴰ.tail m) = omega (arith, times-some k xs m)

-- and once if no number is there twice
pub times-once : (k : ℕ) {xs : List ℕ} → NoRepeats xs → Memᴰ k xs → times k xs ≡ 1
times-once k NoRepeats.empty m = absurd (mathlib.Core.List.Memᴰ.not-nil m)
times-once k (NoRepeats.fresh {x = x} {xs = xs} new later) (mathlib.Core.List.Memᴰ.head e) =
    let here : ◌≡◌ {A = ℕ} (cond (eqb x k) 1 0) 1 = ap (λ (b : Bool). cond b 1 0) (eq-eqb x k (sym e)) in
    omega (arith, times_none k xs (λ m. new (mathlib.Core.List.Memᴰ.cast (sym e) m)))
times-once k (NoRepeats.fresh {x = x} {xs = xs} new later) (mathlib.Core.List.Memᴰ.tail m) =
    let here : ◌≡◌ {A = ℕ} (cond (eqb x k) 1 0) 0 = ap (λ (b : Bool). cond b 1 0) (ne_eqb x k (λ e. new (mathlib.Core.List.Memᴰ.cast e m))) in
    omega (arith, times-once k later m)

-- in two lists, one behind the other
pub times-append : (k : ℕ) (xs ys : List ℕ) → times k (xs ++ ys) ≡ times k xs + times k ys
times-append k [] ys = omega arith
times-append k (x ∷ xs) ys = omega (arith, times-append k xs ys)

-- ---- the numbers from n down to 1

-- there are n of them
pub down_length : (n : ℕ) → length (down_to_one n) ≡ n
down_length zero = refl
down_length (suc n) = ap suc (down_length n)

-- each is from 1 to n
pub down_within : (n k : ℕ) → Memᴰ k (down_to_one n) → (1 ≤ k) × (k ≤ n)
down_within zero k m = absurd (mathlib.Core.List.Memᴰ.not-nil m)
down_within (suc n) k (mathlib.Core.List.Memᴰ.head e) = (omega arith, omega arith)
down_within (suc n) k (mathlib.Core.List.Memᴰ.tail m) = let below = down_within n k m in (omega arith, omega arith)

-- and each number from 1 to n is one of them
pub within_down : (n k : ℕ) → 1 ≤ k → k ≤ n → Memᴰ k (down_to_one n)
within_down zero k h l = absurd (omega arith)
within_down (suc n) k h l = go (eqb k (suc n)) refl (within_down n k h)
  where
    go : (b : Bool) → eqb k (suc n) ≡ b → (k ≤ n → Memᴰ k (down_to_one n)) → Memᴰ k (suc n ∷ down_to_one n)
    go true e rest = mathlib.Core.List.Memᴰ.head (eqb-true k (suc n) e)
    go false e rest = let other = eqb-false k (suc n) e in mathlib.Core.List.Memᴰ.tail (rest (omega arith))

-- none is there twice
pub down_once : (n : ℕ) → NoRepeats (down_to_one n)
down_once zero = NoRepeats.empty
down_once (suc n) = NoRepeats.fresh (λ m. let below = down_within n (suc n) m in omega arith) (down_once n)

-- ---- a permutation is as long

-- what stands somewhere is there
times_member : (k : ℕ) (xs : List ℕ) → 1 ≤ times k xs → Memᴰ k xs
times_member k [] h = absurd (omega arith)
times_member k (x ∷ xs) h = go (eqb x k) refl (times_member k xs) h
  where
    go : (b : Bool) → eqb x k ≡ b → (1 ≤ times k xs → Memᴰ k xs) → 1 ≤ cond b 1 0 + times k xs → Memᴰ k (x ∷ xs)
    go true e rest h = mathlib.Core.List.Memᴰ.head (sym (eqb-true x k e))
    go false e rest h = mathlib.Core.List.Memᴰ.tail (rest (omega arith))

-- what stands once at most has no repeats
times_apart : (xs : List ℕ) → ((k : ℕ) → times k xs ≤ 1) → NoRepeats xs
times_apart [] h = NoRepeats.empty
times_apart (x ∷ xs) h =
    let here : ◌≡◌ {A = ℕ} (cond (eqb x x) 1 0) 1 = ap (λ (b : Bool). cond b 1 0) (eq-eqb x x refl) in
    NoRepeats.fresh (λ m. omega (arith, h x, times-some x xs m)) (times_apart xs (λ k. omega (arith, h k)))

pub row-long : (n : ℕ) (bells : List ℕ) → RowOf n bells → length bells ≡ n
row-long n bells row =
    let fewer : length bells ≤ length (down_to_one n) =
    fits (times_apart bells (λ k. omega (arith, row k, at_most k)))
    (λ k m. times_member k (down_to_one n) (omega (arith, row k, times-some k bells m))) in
    let more : length (down_to_one n) ≤ length bells =
    fits (down_once n) (λ k m. times_member k bells (omega (arith, row k, times-some k (down_to_one n) m))) in
    omega (arith, down_length n)
  where
    at_most : (k : ℕ) → times k (down_to_one n) ≤ 1
    at_most k = go (eqb (times k (down_to_one n)) 0) refl
      where
        go : (b : Bool) → eqb (times k (down_to_one n)) 0 ≡ b → times k (down_to_one n) ≤ 1
        go true e = omega (arith, eqb-true (times k (down_to_one n)) 0 e)
        go false e =
            let some = eqb-false (times k (down_to_one n)) 0 e in
            omega (arith, times-once k (down_once n) (times_member k (down_to_one n) (omega arith)))

-- ---- the test of a row

-- each number from 1 to n stands once, and no other stands
pub record EachOnce (n : ℕ) (bells : List ℕ) : Type 0 where
  pub once : (k : ℕ) → Memᴰ k (down_to_one n) → times k bells ≡ 1
  pub no_other : (b : ℕ) → Memᴰ b bells → Memᴰ b (down_to_one n)

-- where the test is true
pub test_row : (n : ℕ) (bells : List ℕ) → is_row n bells ≡ true → EachOnce n bells
unfolding is_row
test_row n bells e =
    let both = and_both (every (λ k. eqb (times k bells) 1) (down_to_one n)) (every (λ b. stands b (down_to_one n)) bells) e in
    record {
      once = λ k m. eqb-true (times k bells) 1 (every-each (λ k. eqb (times k bells) 1) (down_to_one n) both.0 k m);
      no_other = λ b m. stands_member b (down_to_one n) (every-each (λ b. stands b (down_to_one n)) bells both.1 b m);
    }

-- and it is true there
pub row_test : (n : ℕ) (bells : List ℕ) → EachOnce n bells → is_row n bells ≡ true
unfolding is_row
row_test n bells row =
    ap
    (λ (b : Bool). b && every (λ b. stands b (down_to_one n)) bells)
    (each-every (λ k. eqb (times k bells) 1) (down_to_one n) (λ k m. eq-eqb (times k bells) 1 (row.once k m)))
    ∙ each-every (λ b. stands b (down_to_one n)) bells (λ b m. listed-stands (row.no_other b m))

-- the test is true exactly where the bells are a permutation of the numbers
pub row_exactly : (n : ℕ) (bells : List ℕ) → (is_row n bells ≡ true) ↔ RowOf n bells
row_exactly n bells = (λ e k. there (test_row n bells e) k (stands k (down_to_one n)) refl, λ p. row_test n bells (back p))
  where
    there : EachOnce n bells → (k : ℕ) (b : Bool) → stands k (down_to_one n) ≡ b → times k bells ≡ times k (down_to_one n)
    there row k true e =
        let m = stands_member k (down_to_one n) e in
        row.once k m ∙ sym (times-once k (down_once n) m)
    there row k false e =
        let out : Memᴰ k (down_to_one n) → ⊥ = λ m. false≢true (sym e ∙ listed-stands m) in
        times_none k bells (λ m. out (row.no_other k m)) ∙ sym (times_none k (down_to_one n) out)

    has : RowOf n bells → (b : ℕ) → Memᴰ b bells → (t : Bool) → stands b (down_to_one n) ≡ t → Memᴰ b (down_to_one n)
    has p b m true e = stands_member b (down_to_one n) e
    has p b m false e =
        let none = times_none b (down_to_one n) (λ k. false≢true (sym e ∙ listed-stands k)) in
        absurd (omega (arith, times-some b bells m, p b))

    back : RowOf n bells → EachOnce n bells
    back p =
        record {
          once = λ k m. p k ∙ times-once k (down_once n) m;
          no_other = λ b m. has p b m (stands b (down_to_one n)) refl;
        }

-- bells of which it is false are no permutation
pub bad-row : (n : ℕ) (bells : List ℕ) → is_row n bells ≡ false → RowOf n bells → ⊥
bad-row n bells e p = false≢true (sym e ∙ (row_exactly n bells).1 p)
