-- How often each rule is used: one use more is one more in that rule's count and in no other, and the counts of a run together are the
-- count of its steps. Carried by: each of the thirteen numbers stands once in the list of them. Assumes nothing.
use Prim.Native.Nat.{ℕ, suc, ◌+◌, ◌-◌, ◌≤◌, ◌<◌}
use native.Mathlib.Omega.{arith}
use mathlib.Core.Path.{◌≡◌, refl, sym, ◌∙◌, ap, subst}
use mathlib.Core.Bool.{Bool, true, false, cond}
use mathlib.Core.List.Memᴰ
use mathlib.Core.List.{List, [], ◌∷◌, ◌++◌, map, Memᴰ}
use lib.Dec.{eqb}
use borrow.Author.Tests.{eqb-true, eqb-false}
use lib.ListN.{length, get_or, set}
use Rattle.calculus.specs.Term.{Term}
use Rattle.calculus.specs.Rule.{rule_numbers}
use Rattle.calculus.specs.Run.{Run, run, rules, count, Runs}
use Rattle.calculus.specs.Counts.{occurrences, tally, uses, total}
use Rattle.calculus.proofs.Ranges.{Each, each, change-listed}
use Rattle.calculus.proofs.Runs.{run-runs}

-- ---- how often a number occurs

pub occurrences-append : (n : ℕ) (xs ys : List ℕ) → occurrences n (xs ++ ys) ≡ occurrences n xs + occurrences n ys
occurrences-append n [] ys = omega arith
occurrences-append n (m ∷ xs) ys = go (eqb n m) (occurrences-append n xs ys)
  where
    go :
        (b : Bool) → occurrences n (xs ++ ys) ≡ occurrences n xs + occurrences n ys →
        cond b (suc (occurrences n (xs ++ ys))) (occurrences n (xs ++ ys))
        ≡ cond b (suc (occurrences n xs)) (occurrences n xs) + occurrences n ys
    go true e = omega (arith, e)
    go false e = e

-- no more often than the list is long
pub occurrences-few : (n : ℕ) (xs : List ℕ) → occurrences n xs ≤ length xs
occurrences-few n [] = omega arith
occurrences-few n (m ∷ xs) = go (eqb n m) (occurrences-few n xs)
  where
    go : (b : Bool) → occurrences n xs ≤ length xs → cond b (suc (occurrences n xs)) (occurrences n xs) ≤ suc (length xs)
    go true h = omega (arith, h)
    go false h = omega (arith, h)

-- ---- one use more

-- how often a number occurs with one more at the end
one_more : (j n : ℕ) (used : List ℕ) → occurrences j (used ++ (n ∷ [])) ≡ cond (eqb j n) (suc (occurrences j used)) (occurrences j used)
one_more j n used = occurrences-append j used (n ∷ []) ∙ go (eqb j n)
  where
    go : (b : Bool) → occurrences j used + cond b 1 0 ≡ cond b (suc (occurrences j used)) (occurrences j used)
    go true = omega arith
    go false = omega arith

map_same : (f g : ℕ → ℕ) → ((n : ℕ) → f n ≡ g n) → (numbers : List ℕ) → map f numbers ≡ map g numbers
map_same f g e [] = refl
map_same f g e (n ∷ numbers) = ap (λ (m : ℕ). m ∷ map f numbers) (e n) ∙ ap (λ (l : List ℕ). g n ∷ l) (map_same f g e numbers)

module _ (used : List ℕ) where
  -- the count of a rule stands at its place
  pub tally-at : {n : ℕ} → Memᴰ n rule_numbers → get_or (tally used) (n - 1) 0 ≡ occurrences n used
  tally-at = each (λ (n : ℕ). get_or (tally used) (n - 1) 0 ≡ occurrences n used) rule_numbers (omega arith)

  -- the counts with one of them, at its place, one more
  abbrev bumped : ℕ → List ℕ
  bumped n = set (tally used) (n - 1) (suc (get_or (tally used) (n - 1) 0))

  -- the same, rule by rule
  abbrev with_one : ℕ → List ℕ
  with_one n = map (λ (j : ℕ). cond (eqb j n) (suc (occurrences j used)) (occurrences j used)) rule_numbers

  bump : {n : ℕ} → Memᴰ n rule_numbers → with_one n ≡ bumped n
  bump = each (λ (n : ℕ). with_one n ≡ bumped n) rule_numbers (search depth 30)

  -- one use more of a rule is one more in its count and in no other
  pub tally-more : {n : ℕ} → Memᴰ n rule_numbers → tally (used ++ (n ∷ [])) ≡ bumped n
  tally-more {n} m = map_same _ _ (λ j. one_more j n used) rule_numbers ∙ bump m

-- each count is below what the list's length is below
pub tally-below : (bound : ℕ) (used : List ℕ) → length used < bound → Each (λ (n : ℕ). n < bound) (tally used)
tally-below bound used h = go rule_numbers
  where
    go : (numbers : List ℕ) → Each (λ (n : ℕ). n < bound) (map (λ (n : ℕ). occurrences n used) numbers)
    go [] = tt
    go (n ∷ numbers) = (omega (arith, occurrences-few n used), go numbers)

-- ---- together

-- the counts of those numbers together
abbrev counted : (used numbers : List ℕ) → ℕ
counted used numbers = total (map (λ (n : ℕ). occurrences n used) numbers)

-- one number in front of a list is counted as often as it stands among the numbers counted
counted-more : (m : ℕ) (used numbers : List ℕ) → counted (m ∷ used) numbers ≡ occurrences m numbers + counted used numbers
counted-more m used [] = omega arith
counted-more m used (n ∷ numbers) = go (eqb n m) refl (eqb m n) refl (counted-more m used numbers)
  where
    go :
        (b : Bool) → eqb n m ≡ b → (c : Bool) → eqb m n ≡ c → counted (m ∷ used) numbers ≡ occurrences m numbers + counted used numbers →
        cond b (suc (occurrences n used)) (occurrences n used) + counted (m ∷ used) numbers
        ≡ cond c (suc (occurrences m numbers)) (occurrences m numbers) + (occurrences n used + counted used numbers)
    go true e true f h = omega (arith, h)
    go true e false f h = absurd (eqb-false m n f (sym (eqb-true n m e)))
    go false e true f h = absurd (eqb-false n m e (sym (eqb-true m n f)))
    go false e false f h = omega (arith, h)

-- each number stands once among the thirteen
once : {n : ℕ} → Memᴰ n rule_numbers → occurrences n rule_numbers ≡ 1
once = each (λ (n : ℕ). occurrences n rule_numbers ≡ 1) rule_numbers (omega arith)

-- the counts of a list of rules together are its length
tally-total : (used : List ℕ) → ((n : ℕ) → Memᴰ n used → Memᴰ n rule_numbers) → total (tally used) ≡ length used
tally-total [] listed = refl
tally-total (m ∷ used) listed =
    let rest = tally-total used (λ n i. listed n (Memᴰ.tail i)) in
    omega (arith, counted-more m used rule_numbers, once (listed m (Memᴰ.head refl)), rest)

-- the numbers in a run's list are rules'
rules-listed :
    {fuel area made : ℕ} {t : Term} (r : Run) → Runs fuel area made t r →
    (n : ℕ) → Memᴰ n (rules r) → Memᴰ n rule_numbers
rules-listed (Run.end o) x n i = absurd (Memᴰ.not-nil i)
rules-listed (Run.then m u r) (Runs.one-step f g a fits rest) n (Memᴰ.head e) =
    subst (λ (k : ℕ). Memᴰ k rule_numbers) (sym e) (change-listed a.change)
rules-listed (Run.then m u r) (Runs.one-step f g a fits rest) n (Memᴰ.tail i) = rules-listed r rest n i

-- the counts of a run together are the count of its steps
pub runs-total : {fuel area made : ℕ} {t : Term} {r : Run} → Runs fuel area made t r → total (uses r) ≡ count r
runs-total {r = r} x = tally-total (rules r) (rules-listed r x)

pub uses-total : (fuel area : ℕ) (t : Term) → total (uses (run fuel area t)) ≡ count (run fuel area t)
uses-total fuel area t = runs-total (run-runs fuel area t)
