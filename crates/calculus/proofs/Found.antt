-- No result is overlooked: what the order finds, and what it takes. The order's steps to a normal term (`Standard`) are a finished
-- run once fuel and area suffice, and what holds of every finished run (`More`) holds of it. Assumes nothing.
use Prim.Native.Nat.{ℕ, ◌+◌, ◌-◌, ◌≤◌}
use mathlib.Core.Path.{◌≡◌, refl, sym, ◌∙◌, ap, subst}
use mathlib.Core.Logic.{◌↔◌}
use mathlib.Core.List.{List}
use lib.ListN.{length}
use native.Mathlib.Nat.{lt_of_not-le}
use native.Mathlib.Omega.{arith}
use Rattle.calculus.specs.Term.{Term, Normal}
use Rattle.calculus.specs.Turning.{Turn, Reduce}
use Rattle.calculus.specs.Run.{Outcome, Run, run, outcome, count, reached, largest}
use Rattle.calculus.specs.Steps.{Steps}
use Rattle.calculus.specs.More.{onward, Unhelped}
use Rattle.calculus.specs.Found.{Tells, Finds}
use Rattle.calculus.proofs.Order.{normal-stop}
use Rattle.calculus.proofs.Confluence.{turn-join, normal_reduce}
use Rattle.calculus.proofs.Runs.{run-stop, run_step, run-runs, count-fuel, finished-normal}
use Rattle.calculus.proofs.Results.{reached-turn}
use Rattle.calculus.proofs.Standard.{reduce_leads}
use Rattle.calculus.proofs.More.{unhelped, begins_with, largest-from, onward-end}

-- a finished run is the run of any fuel for its steps and any area with room for its terms
pub finished-enough :
    (t : Term) (fuel area fuel' area' : ℕ) →
    let r = run fuel area t in
    outcome r ≡ Outcome.finished → count r ≤ fuel' → largest r ≤ area' → run fuel' area' t ≡ r
finished-enough t fuel area fuel' area' done h k =
    let r = run fuel area t in
    let normal = normal-stop (finished-normal fuel area t done) in
    begins_with t fuel area fuel' area' h k
    ∙ ap (onward r) (run-stop (fuel' - count r) area' (reached t r) normal)
    ∙ ap (λ (o : Outcome). onward r (Run.end o)) (sym done)
    ∙ onward-end r

-- a finished run stays with more fuel and more area
finished_stays :
    (t : Term) (fuel area fuel' area' : ℕ) →
    outcome (run fuel area t) ≡ Outcome.finished → fuel ≤ fuel' → area ≤ area' → run fuel' area' t ≡ run fuel area t
finished_stays t fuel area fuel' area' done h k =
    unhelped t fuel area fuel' area' (subst (λ (o : Outcome). Unhelped o fuel area fuel' area') (sym done) (h, k))

-- two finished runs of a term are one
finished-once :
    (t : Term) (fuel area fuel' area' : ℕ) →
    outcome (run fuel area t) ≡ Outcome.finished → outcome (run fuel' area' t) ≡ Outcome.finished →
    run fuel area t ≡ run fuel' area' t
finished-once t fuel area fuel' area' done done' =
    sym (finished_stays t fuel area (fuel + fuel') (area + area') done (omega arith) (omega arith))
    ∙ finished_stays t fuel' area' (fuel + fuel') (area + area') done' (omega arith) (omega arith)

-- the outcome is finished, as a test
abbrev Done : Outcome → Type 0
Done Outcome.finished = Unit
Done Outcome.spent = ⊥
Done Outcome.no_room = ⊥

-- what the outcome of another run tells of a finished one
pub finished-tells :
    (t : Term) (fuel area fuel' area' : ℕ) →
    outcome (run fuel area t) ≡ Outcome.finished → Tells (outcome (run fuel' area' t)) fuel' area' (run fuel area t)
finished-tells t fuel area fuel' area' done = go (outcome (run fuel' area' t)) refl
  where
    way : Run
    way = run fuel area t

    -- where what is of no help to the other run suffices for the way, the other run is finished
    suffices :
        (o : Outcome) (f a : ℕ) →
        outcome (run fuel' area' t) ≡ o → Unhelped o fuel' area' f a → count way ≤ f → largest way ≤ a → Done o
    suffices o f a e more h k =
        let same = unhelped t fuel' area' f a (subst (λ (o : Outcome). Unhelped o fuel' area' f a) (sym e) more) in
        let is-way = finished-enough t fuel area f a done h k in
        subst Done (sym done ∙ ap outcome (sym is-way ∙ same) ∙ e) tt

    go : (o : Outcome) → outcome (run fuel' area' t) ≡ o → Tells o fuel' area' way
    go Outcome.finished e =
        subst (λ (r : Run). (count r ≤ fuel') × (largest r ≤ area')) (sym (finished-once t fuel area fuel' area' done e))
        (count-fuel fuel' area' t, largest-from (run-runs fuel' area' t))
    go Outcome.spent e =
        lt_of_not-le
        (λ (h : count way ≤ fuel'). suffices Outcome.spent fuel' (area' + largest way) e (refl, omega arith) h (omega arith))
    go Outcome.no_room e =
        lt_of_not-le
        (λ (h : largest way ≤ area'). suffices Outcome.no_room (fuel' + count way) area' e (omega arith, refl) (omega arith) h)

-- what a finished run reached is found
abbrev pub finished-finds :
    (t : Term) (fuel area : ℕ) → outcome (run fuel area t) ≡ Outcome.finished → Finds t (reached t (run fuel area t))
finished-finds t fuel area done =
    record {
      way = run fuel area t;
      ends = done;
      result = refl;
      enough = λ fuel' area'. finished-enough t fuel area fuel' area' done;
      tells = λ fuel' area'. finished-tells t fuel area fuel' area' done;
    }

-- the order's steps to a normal term are a finished run
steps-finish :
    {area : ℕ} {t v : Term} {rules : List ℕ} → Steps area t rules v → Normal v →
    let r = run (length rules) area t in
    (outcome r ≡ Outcome.finished) × (reached t r ≡ v)
steps-finish {area} {t} Steps.none m = let e = run-stop 0 area t (normal-stop m) in (ap outcome e, ap (reached t) e)
steps-finish {area} {t} (Steps.more {rules = rules} e fits rest) m =
    let on = run_step (length rules) area t e fits in
    let (done, reaches) = steps-finish rest m in
    (ap outcome on ∙ done, ap (reached t) on ∙ reaches)

-- whatever changes lead from a term to a normal one, the order finds that one
pub found : (t v : Term) → Reduce t v → Normal v → Finds t v
found t v h m =
    let (area, rules, steps) = reduce_leads h m in
    let (done, reaches) = steps-finish steps m in
    subst (Finds t) reaches (finished-finds t (length rules) area done)

-- where a term turns into a normal one, changes forwards alone lead there
turn_reduce : {t v : Term} → Normal v → Turn t v → Reduce t v
turn_reduce {t} m turned = let j = turn-join turned in subst (Reduce t) (sym (normal_reduce m j.right)) j.left

-- the run with the way's own count for fuel and its largest term for area is the way
finds-run : {t v : Term} (f : Finds t v) → run (count f.way) (largest f.way) t ≡ f.way
finds-run f = f.enough (count f.way) (largest f.way) (omega arith) (omega arith)

-- what is found is normal, and the term turns into it
finds-turns : {t v : Term} → Finds t v → Normal v × Turn t v
finds-turns {t} {v} f =
    let fuel = count f.way in
    let area = largest f.way in
    let same = finds-run f in
    let reaches : reached t (run fuel area t) ≡ v = ap (reached t) same ∙ f.result in (
      subst Normal reaches (finished-normal fuel area t (ap outcome same ∙ f.ends)),
      subst (Turn t) reaches (reached-turn fuel area t),
    )

-- the order finds exactly the normal terms that a term turns into
pub found_exactly : (t v : Term) → (Normal v × Turn t v) ↔ Finds t v
found_exactly t v = (λ h. found t v (turn_reduce h.0 h.1) h.0, finds-turns)

-- a term turns into a normal one exactly when some fuel and area finish it
pub finishes_exactly :
    (t : Term) →
    ((v : Term) × Normal v × Turn t v) ↔ ((fuel : ℕ) × (area : ℕ) × (outcome (run fuel area t) ≡ Outcome.finished))
finishes_exactly t = (
  λ h.
      let f = (found_exactly t h.0).0 (h.1, h.2) in
      (count f.way, largest f.way, ap outcome (finds-run f) ∙ f.ends),
  λ h. (reached t (run h.0 h.1 t), finished-normal h.0 h.1 t h.2, reached-turn h.0 h.1 t),
)
