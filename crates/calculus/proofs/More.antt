-- What more fuel and more area do to a run: of what did not run out, nothing; of both, it goes on where it stood.
-- Two inductions on the loop: another fuel and area that are of no help make the same (`unhelped-from`), and a run is the
-- beginning of every run with fuel for its steps and room for its terms (`begins-from`). Assumes nothing.
use Prim.Native.Nat.{ℕ, zero, suc, ◌+◌, ◌-◌, ◌≤◌}
use mathlib.Core.Path.{◌≡◌, refl, ◌∙◌, ap}
use mathlib.Core.List.{◌∷◌, ◌++◌}
use lib.ListN.{length, length-append}
use native.Mathlib.Omega.{arith}
use Rattle.calculus.specs.Term.{Term}
use Rattle.calculus.specs.Run.{Outcome, Run, run, outcome, rules, count, reached, largest, Runs}
use Rattle.calculus.specs.More.{onward, Unhelped}
use Rattle.calculus.proofs.Order.{step-next}
use Rattle.calculus.proofs.Runs.{run_step, run-runs, runs-run, count-fuel}

-- what is of no help to a run is no less of fuel and no less of area
no_less : {fuel area fuel' area' : ℕ} (o : Outcome) → Unhelped o fuel area fuel' area' → (fuel ≤ fuel') × (area ≤ area')
no_less Outcome.finished h = h
no_less Outcome.spent h = (omega arith, h.1)
no_less Outcome.no_room h = (h.0, omega arith)

-- the loop makes the same with a fuel and an area that are of no help
unhelped-from :
    {fuel area fuel' area' made : ℕ} {t : Term} {r : Run} →
    made ≤ fuel → Unhelped (outcome r) fuel area fuel' area' → Runs fuel area made t r → Runs fuel' area' made t r
unhelped-from h more (Runs.finished m) = Runs.finished m
unhelped-from {made = made} h more (Runs.spent m f) = Runs.spent {made = made} m (omega arith)
unhelped-from {fuel' = fuel'} {made = made} h more (Runs.no_room m f a larger) =
    Runs.no_room m (λ (e : made ≡ fuel'). f (omega arith)) a (omega arith)
unhelped-from {fuel} {area} {fuel'} {area'} {made} h more (Runs.one-step {r = r} m f a fits rest) =
    let both : (fuel ≤ fuel') × (area ≤ area') = no_less (outcome r) more in
    Runs.one-step m (λ (e : made ≡ fuel'). f (omega arith)) a (omega arith) (unhelped-from (omega arith) more rest)

-- a run with a fuel and an area that are of no help to it is the same run
pub unhelped :
    (t : Term) (fuel area fuel' area' : ℕ) →
    Unhelped (outcome (run fuel area t)) fuel area fuel' area' → run fuel' area' t ≡ run fuel area t
unhelped t fuel area fuel' area' more = runs-run (unhelped-from (omega arith) more (run-runs fuel area t))

-- where no step was made, all the fuel is left
with_all : (left area' : ℕ) (t : Term) → run left area' t ≡ run (left - 0) area' t
with_all left area' t = let all : left ≡ left - 0 = omega arith in ap (λ (f : ℕ). run f area' t) all

-- a run with fuel for the steps that the loop makes, and room for its terms, begins with them
pub begins-from :
    {fuel area made : ℕ} {t : Term} {r : Run} (left area' : ℕ) → count r ≤ left → largest r ≤ area' → Runs fuel area made t r →
    run left area' t ≡ onward r (run (left - count r) area' (reached t r))
begins-from {t = t} left area' h k (Runs.finished m) = with_all left area' t
begins-from {t = t} left area' h k (Runs.spent m f) = with_all left area' t
begins-from {t = t} left area' h k (Runs.no_room m f a larger) = with_all left area' t
begins-from zero area' h k (Runs.one-step m f a fits rest) = absurd (omega arith)
begins-from {t = t} (suc left) area' h k (Runs.one-step {n = n} {u = u} {r = r} m f a fits rest) =
    let less : left - count r ≡ suc left - suc (count r) = omega arith in
    let rest-begins = begins-from left area' (omega arith) (omega arith) rest in
    run_step left area' t (step-next a) (omega arith)
    ∙ ap (Run.then n u) (rest-begins ∙ ap (λ (f : ℕ). onward r (run f area' (reached u r))) less)

-- with fuel for its steps and room for its terms a run is the beginning of another, which goes on as the run of the term reached
pub begins_with :
    (t : Term) (fuel area fuel' area' : ℕ) →
    let r = run fuel area t in
    count r ≤ fuel' → largest r ≤ area' → run fuel' area' t ≡ onward r (run (fuel' - count r) area' (reached t r))
begins_with t fuel area fuel' area' h k = begins-from fuel' area' h k (run-runs fuel area t)

-- what the loop steps to has room in the area
pub largest-from : {fuel area made : ℕ} {t : Term} {r : Run} → Runs fuel area made t r → largest r ≤ area
largest-from (Runs.finished m) = omega arith
largest-from (Runs.spent m f) = omega arith
largest-from (Runs.no_room m f a larger) = omega arith
largest-from (Runs.one-step m f a fits rest) = omega (arith, fits, largest-from rest)

-- so it is with more fuel and more area
pub begins :
    (t : Term) (fuel area fuel' area' : ℕ) → fuel ≤ fuel' → area ≤ area' →
    let r = run fuel area t in
    run fuel' area' t ≡ onward r (run (fuel' - count r) area' (reached t r))
begins t fuel area fuel' area' h wider =
    let made = count-fuel fuel area t in
    let fits = largest-from (run-runs fuel area t) in
    begins_with t fuel area fuel' area' (omega (arith, made, h)) (omega (arith, fits, wider))

-- a run and then another: the rules of both, and the second's outcome and last term
onward-rules : (r s : Run) → rules (onward r s) ≡ rules r ++ rules s
onward-rules (Run.end o) s = refl
onward-rules (Run.then n u r) s = ap (◌∷◌ n) (onward-rules r s)

onward-outcome : (r s : Run) → outcome (onward r s) ≡ outcome s
onward-outcome (Run.end o) s = refl
onward-outcome (Run.then n u r) s = onward-outcome r s

onward-reached : (t : Term) (r s : Run) → reached t (onward r s) ≡ reached (reached t r) s
onward-reached t (Run.end o) s = refl
onward-reached t (Run.then n u r) s = onward-reached u r s

pub onward-is :
    (t : Term) (r s : Run) →
    (rules (onward r s) ≡ rules r ++ rules s) ×
    (count (onward r s) ≡ count r + count s) ×
    (outcome (onward r s) ≡ outcome s) ×
    (reached t (onward r s) ≡ reached (reached t r) s)
onward-is t r s =
    let both = onward-rules r s in
    (both, ap length both ∙ length-append (rules r) (rules s), onward-outcome r s, onward-reached t r s)

-- a run, and then its own end, is the run
pub onward-end : (r : Run) → onward r (Run.end (outcome r)) ≡ r
onward-end (Run.end o) = refl
onward-end (Run.then n u r) = ap (Run.then n u) (onward-end r)
