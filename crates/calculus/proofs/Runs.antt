-- The run as a function is the loop of REQUIREMENTS, Finishing, and each outcome has its exact condition.
-- Carried by one induction on the fuel, that `run` goes as the loop, and inductions on the run that the loop makes. Assumes nothing.
use Prim.Native.Nat.{ℕ, zero, suc, ◌+◌, ◌≤◌, ◌<◌}
use mathlib.Core.Path.{◌≡◌, refl, sym, ◌∙◌, ap, subst}
use mathlib.Core.Logic.{◌↔◌}
use mathlib.Core.Bool.{Bool, true, false}
use mathlib.Core.List.Memᴰ
use mathlib.Core.List.{Memᴰ}
use lib.Dec.{leb}
use borrow.Author.Tests.{leb-true, leb-false, le-leb, lt-leb}
use native.Mathlib.Omega.{arith}
use Rattle.calculus.specs.Term.{Term, size, Normal}
use Rattle.calculus.specs.Change.{Place, Change}
use Rattle.calculus.specs.Turning.{Reduce}
use Rattle.calculus.specs.Order.{Step, Next, next}
use Rattle.calculus.specs.Run.{Outcome, Run, halted, stepped, continued, run, outcome, count, terms, reached, Runs}
use Rattle.calculus.proofs.Order.{Says, says, step-not-normal, not-normal-step, normal-stop, step-next}

-- finished if the term is normal
pub run-stop : (fuel area : ℕ) (t : Term) → next t ≡ Next.stop → run fuel area t ≡ Run.end Outcome.finished
run-stop zero area t e = ap halted e
run-stop (suc fuel) area t e = ap (λ (x : Next). continued area x (λ u. run fuel area u)) e

-- else spent if no fuel is left
pub run-spent : (area : ℕ) (t : Term) {n : ℕ} {u : Term} → next t ≡ Next.step n u → run 0 area t ≡ Run.end Outcome.spent
run-spent area t e = ap halted e

-- else what room there is for the next term decides
run_more :
    (fuel area : ℕ) (t : Term) {n : ℕ} {u : Term} (room : Bool) → next t ≡ Next.step n u → leb (size u) area ≡ room →
    run (suc fuel) area t ≡ stepped room n u (λ v. run fuel area v)
run_more fuel area t {n} {u} room e f = ap (λ (x : Next). continued area x (λ v. run fuel area v)) e ∙ ap (λ (b : Bool). stepped b n u (λ v. run fuel area v)) f

-- where the next term is over the area, no room
pub run_no_room :
    (fuel area : ℕ) (t : Term) {n : ℕ} {u : Term} → next t ≡ Next.step n u → area < size u →
    run (suc fuel) area t ≡ Run.end Outcome.no_room
run_no_room fuel area t {n} {u} e larger = run_more fuel area t false e (lt-leb (size u) area larger)

-- else one step
pub run_step :
    (fuel area : ℕ) (t : Term) {n : ℕ} {u : Term} → next t ≡ Next.step n u → size u ≤ area →
    run (suc fuel) area t ≡ Run.then n u (run fuel area u)
run_step fuel area t {n} {u} e fits = run_more fuel area t true e (le-leb (size u) area fits)

-- with that many steps made and so much fuel left the run goes as the loop
run-from : {fuel made : ℕ} (left area : ℕ) (t : Term) → made + left ≡ fuel → Runs fuel area made t (run left area t)
run-from {fuel} {made} zero area t e = go (next t) (says t)
  where
    go : (x : Next) → Says t x → Runs fuel area made t (halted x)
    go Next.stop a = Runs.finished a
    go (Next.step n u) a = Runs.spent {made = made} (step-not-normal a) (omega arith)
run-from {fuel} {made} (suc left) area t e = go (next t) (says t) (λ u. run-from left area u (omega arith))
  where
    room :
        (n : ℕ) (u : Term) (b : Bool) → leb (size u) area ≡ b → Step n t u → Runs fuel area (suc made) u (run left area u) →
        Runs fuel area made t (stepped b n u (λ v. run left area v))
    room n u true f a rest = Runs.one-step {made = made} (step-not-normal a) (omega arith) a (leb-true (size u) area f) rest
    room n u false f a rest = Runs.no_room {made = made} (step-not-normal a) (omega arith) a (leb-false (size u) area f)

    go :
        (x : Next) → Says t x → ((u : Term) → Runs fuel area (suc made) u (run left area u)) →
        Runs fuel area made t (continued area x (λ u. run left area u))
    go Next.stop a onward = Runs.finished a
    go (Next.step n u) a onward = room n u (leb (size u) area) refl a (onward u)

-- the run is what the loop makes
pub run-runs : (fuel area : ℕ) (t : Term) → Runs fuel area 0 t (run fuel area t)
run-runs fuel area t = run-from fuel area t (omega arith)

-- what the loop makes with so much fuel left is the run
runs-from : {fuel area made : ℕ} {t : Term} {r : Run} (left : ℕ) → made + left ≡ fuel → Runs fuel area made t r → run left area t ≡ r
runs-from {area = area} {t = t} left e (Runs.finished m) = run-stop left area t (normal-stop m)
runs-from {area = area} {t = t} zero e (Runs.spent m f) = let (n, u, a) = not-normal-step m in run-spent area t (step-next a)
runs-from (suc left) e (Runs.spent m f) = absurd (omega arith)
runs-from zero e (Runs.no_room m f a larger) = absurd (f (omega arith))
runs-from {area = area} {t = t} (suc left) e (Runs.no_room m f a larger) = run_no_room left area t (step-next a) larger
runs-from zero e (Runs.one-step m f a fits rest) = absurd (f (omega arith))
runs-from {area = area} {t = t} (suc left) e (Runs.one-step {n = n} {u = u} m f a fits rest) = run_step left area t (step-next a) fits ∙ ap (Run.then n u) (runs-from left (omega arith) rest)

-- what the loop makes is the run
pub runs-run : {fuel area : ℕ} {t : Term} {r : Run} → Runs fuel area 0 t r → run fuel area t ≡ r
runs-run {fuel} x = runs-from fuel (omega arith) x

-- the steps made and those still to come are within the fuel
count-from : {fuel area made : ℕ} {t : Term} (r : Run) → Runs fuel area made t r → made ≤ fuel → made + count r ≤ fuel
count-from (Run.end o) x h = omega arith
count-from (Run.then n u r) (Runs.one-step m f a fits rest) h = omega (arith, count-from r rest (omega arith))

-- the count of steps is at most the fuel
pub count-fuel : (fuel area : ℕ) (t : Term) → count (run fuel area t) ≤ fuel
count-fuel fuel area t = omega (arith, count-from (run fuel area t) (run-runs fuel area t) (omega arith))

-- a property of terms that each step to a term that fits keeps
abbrev pub Kept : (area : ℕ) → (Term → Type 0) → Type 0
Kept area P = (n : ℕ) (v w : Term) → P v → Step n v w → size w ≤ area → P w

-- what holds of t and is kept holds of each term of a run from t
terms-from :
    {fuel area made : ℕ} {t : Term} (P : Term → Type 0) → Kept area P →
    (r : Run) → Runs fuel area made t r → P t → (v : Term) → Memᴰ v (terms t r) → P v
terms-from P keep (Run.end o) x h v (Memᴰ.head e) = subst P (sym e) h
terms-from P keep (Run.end o) x h v (Memᴰ.tail i) = absurd (Memᴰ.not-nil i)
terms-from P keep (Run.then n u r) x h v (Memᴰ.head e) = subst P (sym e) h
terms-from {t = t} P keep (Run.then n u r) (Runs.one-step m f a fits rest) h v (Memᴰ.tail i) = terms-from P keep r rest (keep n t u h a fits) v i

-- what holds of the first term of a run and is kept holds of each of its terms
pub terms-all : (fuel area : ℕ) (t : Term) (P : Term → Type 0) → Kept area P → P t → (u : Term) → Memᴰ u (terms t (run fuel area t)) → P u
terms-all fuel area t P keep = terms-from P keep (run fuel area t) (run-runs fuel area t)

-- the term reached is one of the run's terms
pub reached-term : (t : Term) (r : Run) → Memᴰ (reached t r) (terms t r)
reached-term t (Run.end o) = Memᴰ.head refl
reached-term t (Run.then n u r) = Memᴰ.tail (reached-term u r)

-- one more change after others
reduce_change : {n : ℕ} {p : Place} {t u v : Term} → Reduce t u → Change n p u v → Reduce t v
reduce_change Reduce.unchanged c = Reduce.forwards c Reduce.unchanged
reduce_change (Reduce.forwards d l) c = Reduce.forwards d (reduce_change l c)

-- changes forwards lead from the first term of a run to each of its terms
pub terms_reduce : (fuel area : ℕ) (t u : Term) → Memᴰ u (terms t (run fuel area t)) → Reduce t u
terms_reduce fuel area t u = terms-all fuel area t (Reduce t) (λ n v w l a fits. reduce_change l a.change) Reduce.unchanged u

-- changes forwards lead from the first term of a run to the term reached
pub reached_reduces : (fuel area : ℕ) (t : Term) → Reduce t (reached t (run fuel area t))
reached_reduces fuel area t = terms_reduce fuel area t _ (reached-term t (run fuel area t))

-- where the first term of a run fits the area, each of its terms does
pub terms_fit : (fuel area : ℕ) (t u : Term) → size t ≤ area → Memᴰ u (terms t (run fuel area t)) → size u ≤ area
terms_fit fuel area t u h = terms-all fuel area t (λ (v : Term). size v ≤ area) (λ n v w k a fits. fits) h u

-- where the first term of a run fits the area, the term reached does
pub reached-fits : (fuel area : ℕ) (t : Term) → size t ≤ area → size (reached t (run fuel area t)) ≤ area
reached-fits fuel area t h = terms_fit fuel area t _ h (reached-term t (run fuel area t))

-- the next term of v is larger than the area
abbrev pub NextLarger : (area : ℕ) → Term → Type 0
NextLarger area v = (n : ℕ) × (u : Term) × Step n v u × (area < size u)

-- the condition of each outcome, with that many steps made and v the term reached
abbrev pub Ends : (fuel area made : ℕ) → Term → Outcome → Type 0
Ends fuel area made v Outcome.finished = Normal v
Ends fuel area made v Outcome.spent = (¬ Normal v) × (made ≡ fuel)
Ends fuel area made v Outcome.no_room = (¬ Normal v) × (made < fuel) × NextLarger area v

-- the condition of its outcome holds where the loop ends
ends-from :
    {fuel area made : ℕ} {t : Term} {r : Run} (total : ℕ) → Runs fuel area made t r → made ≤ fuel → made + count r ≡ total →
    Ends fuel area total (reached t r) (outcome r)
ends-from total (Runs.finished m) h e = m
ends-from total (Runs.spent m f) h e = (m, omega arith)
ends-from total (Runs.no_room m f a larger) h e = (m, omega arith, (_, _, a, larger))
ends-from total (Runs.one-step m f a fits rest) h e = ends-from total rest (omega arith) (omega arith)

-- the condition of one outcome alone holds
ends_unique : (fuel area made : ℕ) (v : Term) (o o' : Outcome) → Ends fuel area made v o → Ends fuel area made v o' → o ≡ o'
ends_unique fuel area made v Outcome.finished Outcome.finished a b = refl
ends_unique fuel area made v Outcome.finished Outcome.spent a b = absurd (b.0 a)
ends_unique fuel area made v Outcome.finished Outcome.no_room a b = absurd (b.0 a)
ends_unique fuel area made v Outcome.spent Outcome.finished a b = absurd (a.0 b)
ends_unique fuel area made v Outcome.spent Outcome.spent a b = refl
ends_unique fuel area made v Outcome.spent Outcome.no_room a b = absurd (omega arith)
ends_unique fuel area made v Outcome.no_room Outcome.finished a b = absurd (a.0 b)
ends_unique fuel area made v Outcome.no_room Outcome.spent a b = absurd (omega arith)
ends_unique fuel area made v Outcome.no_room Outcome.no_room a b = refl

-- a run has the outcome whose condition holds
pub outcome-is :
    (fuel area : ℕ) (t : Term) (o : Outcome) →
    let r = run fuel area t in
    (outcome r ≡ o) ↔ Ends fuel area (count r) (reached t r) o
outcome-is fuel area t o = (λ e. subst (Ends fuel area (count r) (reached t r)) e holds, ends_unique fuel area (count r) (reached t r) (outcome r) o holds)
  where
    r : Run
    r = run fuel area t

    holds : Ends fuel area (count r) (reached t r) (outcome r)
    holds = ends-from (count r) (run-runs fuel area t) (omega arith) (omega arith)

-- a run is finished exactly if the term reached is normal
pub outcome-finished :
    (fuel area : ℕ) (t : Term) →
    let r = run fuel area t in
    let v = reached t r in
    (outcome r ≡ Outcome.finished) ↔ Normal v
outcome-finished fuel area t = outcome-is fuel area t Outcome.finished

-- a run is spent exactly if the term reached is not normal and the steps made equal the fuel
pub outcome-spent :
    (fuel area : ℕ) (t : Term) →
    let r = run fuel area t in
    let v = reached t r in
    (outcome r ≡ Outcome.spent) ↔ ((¬ Normal v) × (count r ≡ fuel))
outcome-spent fuel area t = outcome-is fuel area t Outcome.spent

-- a run has no room exactly if the term reached is not normal, fuel is left, and the next term is larger than the area
pub outcome_no_room :
    (fuel area : ℕ) (t : Term) →
    let r = run fuel area t in
    let v = reached t r in
    (outcome r ≡ Outcome.no_room) ↔ ((¬ Normal v) × (count r < fuel) × NextLarger area v)
outcome_no_room fuel area t = outcome-is fuel area t Outcome.no_room

-- the term reached by a finished run is normal
pub finished-normal : (fuel area : ℕ) (t : Term) → outcome (run fuel area t) ≡ Outcome.finished → Normal (reached t (run fuel area t))
finished-normal fuel area t = (outcome-finished fuel area t).0
