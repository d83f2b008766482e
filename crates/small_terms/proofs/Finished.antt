-- Some run always finishes, so the finished ones can be divided by; and the three counts make up all small terms. Carried by a normal small
-- term, which every size has. Assumes nothing.
use Prim.Native.Nat.{ℕ, suc, ◌+◌, ◌*◌, ◌≤◌}
use native.Mathlib.Omega.{arith}
use mathlib.Core.Path.{◌≡◌, refl, sym, ◌∙◌, ap, subst}
use mathlib.Core.Bool.{Bool, true, false, cond, false≢true}
use mathlib.Core.List.Memᴰ
use mathlib.Core.List.{List, [], ◌∷◌, map}
use mathlib.Core.List.{Memᴰ}
use lib.ListN.{length, length-map}
use Rattle.calculus.specs.Term.{Term}
use Rattle.calculus.specs.Run.{Outcome, Run, run, outcome, count}
use Rattle.calculus.proofs.Order.{normal-stop}
use Rattle.calculus.proofs.Runs.{run-stop, count-fuel}
use Rattle.small_texts.specs.Small.{Small}
use Rattle.small_texts.specs.Texts.{small_terms}
use Rattle.small_terms.specs.Sweep.{is_outcome, ending, steps_of}
use Rattle.small_texts.proofs.Each.{each-small}
use Rattle.small_texts.proofs.Normal.{some-normal}
use Rattle.small_terms.proofs.Summing.{held_by}

-- ---- some run finishes

-- a finished run is counted
counted : (r : Run) (rs : List Run) → outcome r ≡ Outcome.finished → Memᴰ r rs → 1 ≤ length (ending Outcome.finished rs)
counted r (x ∷ rs) done (Memᴰ.head e) =
    subst (λ (b : Bool). 1 ≤ length (cond b (x ∷ ending Outcome.finished rs) (ending Outcome.finished rs)))
    (sym (ap (is_outcome Outcome.finished) (ap outcome (sym e) ∙ done))) (omega arith)
counted r (x ∷ rs) done (Memᴰ.tail m) = go (is_outcome Outcome.finished (outcome x)) (counted r rs done m)
  where
    go :
        (b : Bool) → 1 ≤ length (ending Outcome.finished rs) →
        1 ≤ length (cond b (x ∷ ending Outcome.finished rs) (ending Outcome.finished rs))
    go true h = omega arith
    go false h = h
counted r [] done x = elim x [ ]

-- of every size, with any fuel and in any area, some run finishes
pub some-finishes : (n fuel area : ℕ) → 1 ≤ n → (t : Term) × Small n t × (outcome (run fuel area t) ≡ Outcome.finished)
some-finishes n fuel area h =
    let (t, small, normal) = some-normal n h in
    (t, small, ap outcome (run-stop fuel area t (normal-stop normal)))

-- so the finished runs are not none
pub some-finished : (n fuel area : ℕ) → 1 ≤ n → 1 ≤ length (ending Outcome.finished (map (run fuel area) (small_terms n)))
some-finished n fuel area h =
    let (t, small, done) = some-finishes n fuel area h in
    counted (run fuel area t) (map (run fuel area) (small_terms n)) done (Memᴰ.map (run fuel area) ((each-small n).complete t small))

-- ---- the counts make up all

parted :
    (rs : List Run) →
    length (ending Outcome.finished rs) + length (ending Outcome.spent rs) + length (ending Outcome.no_room rs) ≡ length rs
parted [] = refl
parted (r ∷ rs) = go (outcome r) (parted rs)
  where
    go :
        (x : Outcome) →
        length (ending Outcome.finished rs) + length (ending Outcome.spent rs) + length (ending Outcome.no_room rs) ≡ length rs →
        length (held_by r rs Outcome.finished x) + length (held_by r rs Outcome.spent x) + length (held_by r rs Outcome.no_room x)
        ≡ suc (length rs)
    go Outcome.finished e = omega arith
    go Outcome.spent e = omega arith
    go Outcome.no_room e = omega arith

-- the runs that finish, are spent and have no room are as many as the small terms
pub counts-parted :
    (n fuel area : ℕ) →
    length (ending Outcome.finished (map (run fuel area) (small_terms n)))
    + length (ending Outcome.spent (map (run fuel area) (small_terms n)))
    + length (ending Outcome.no_room (map (run fuel area) (small_terms n)))
    ≡ length (small_terms n)
counts-parted n fuel area = parted (map (run fuel area) (small_terms n)) ∙ length-map (small_terms n) (run fuel area)

-- ---- all runs

ending-few : (o : Outcome) (rs : List Run) → length (ending o rs) ≤ length rs
ending-few o [] = omega arith
ending-few o (r ∷ rs) = go (is_outcome o (outcome r)) (ending-few o rs)
  where
    go : (b : Bool) → length (ending o rs) ≤ length rs → length (cond b (r ∷ ending o rs) (ending o rs)) ≤ suc (length rs)
    go true h = omega arith
    go false h = omega arith

-- outcomes that pass the test are the same
same_outcome : (o x : Outcome) → is_outcome o x ≡ true → x ≡ o
same_outcome Outcome.finished Outcome.finished e = refl
same_outcome Outcome.finished Outcome.spent e = absurd (false≢true e)
same_outcome Outcome.finished Outcome.no_room e = absurd (false≢true e)
same_outcome Outcome.spent Outcome.finished e = absurd (false≢true e)
same_outcome Outcome.spent Outcome.spent e = refl
same_outcome Outcome.spent Outcome.no_room e = absurd (false≢true e)
same_outcome Outcome.no_room Outcome.finished e = absurd (false≢true e)
same_outcome Outcome.no_room Outcome.spent e = absurd (false≢true e)
same_outcome Outcome.no_room Outcome.no_room e = refl

-- where as many end so as there are, each does
pub all_end : (o : Outcome) (rs : List Run) → length (ending o rs) ≡ length rs → (r : Run) → Memᴰ r rs → outcome r ≡ o
all_end o (x ∷ rs) e r m = go (is_outcome o (outcome x)) refl e m (λ f k. all_end o rs f r k)
  where
    go :
        (b : Bool) → is_outcome o (outcome x) ≡ b → length (cond b (x ∷ ending o rs) (ending o rs)) ≡ suc (length rs) →
        Memᴰ r (x ∷ rs) →
        (length (ending o rs) ≡ length rs → Memᴰ r rs → outcome r ≡ o) → outcome r ≡ o
    go true t f (Memᴰ.head q) rest = ap outcome q ∙ same_outcome o (outcome x) t
    go true t f (Memᴰ.tail k) rest = rest (omega arith) k
    go false t f k rest = absurd (omega (arith, ending-few o rs))
all_end o [] e r m = elim m [ ]

-- ---- how many steps there can be

-- in all no more than so many for each run
steps-most :
    (most : ℕ) (o : Outcome) (rs : List Run) → ((r : Run) → Memᴰ r rs → count r ≤ most) → steps_of (ending o rs) ≤ most * length rs
steps-most most o [] h = omega arith
steps-most most o (r ∷ rs) h =
    go (is_outcome o (outcome r)) (steps-most most o rs (λ x m. h x (Memᴰ.tail m))) (h r (Memᴰ.head refl))
  where
    go :
        (b : Bool) → steps_of (ending o rs) ≤ most * length rs → count r ≤ most →
        steps_of (cond b (r ∷ ending o rs) (ending o rs)) ≤ most * suc (length rs)
    go true e f = omega arith
    go false e f = omega arith

runs-fuel : (fuel area : ℕ) (ts : List Term) (r : Run) → Memᴰ r (map (run fuel area) ts) → count r ≤ fuel
runs-fuel fuel area (t ∷ ts) r (Memᴰ.head e) = subst (λ (x : Run). count x ≤ fuel) (sym e) (count-fuel fuel area t)
runs-fuel fuel area (t ∷ ts) r (Memᴰ.tail m) = runs-fuel fuel area ts r m
runs-fuel fuel area [] r x = elim x [ ]

-- the finished runs make no more steps than the fuel for each small term
pub steps-fuel : (n fuel area : ℕ) → steps_of (ending Outcome.finished (map (run fuel area) (small_terms n))) ≤ fuel * length (small_terms n)
steps-fuel n fuel area =
    let rs = map (run fuel area) (small_terms n) in
    let few = steps-most fuel Outcome.finished rs (runs-fuel fuel area (small_terms n)) in
    subst (λ (k : ℕ). steps_of (ending Outcome.finished rs) ≤ fuel * k) (length-map (small_terms n) (run fuel area)) few
