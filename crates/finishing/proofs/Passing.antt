-- A run seen from one of its terms: what carries finishing's loop. Assumes nothing.
use Prim.Native.Nat.{ℕ, suc, ◌+◌, ◌-◌, ◌≤◌, ◌<◌}
use native.Mathlib.Omega.{arith}
use mathlib.Core.Path.{◌≡◌, sym, ◌∙◌, ap, subst}
use mathlib.Core.List.{List, [], ◌∷◌, ◌++◌, append-nil}
use lib.ListN.{length, length-append}
use lib.Seq.{append_snoc}
use Rattle.calculus.specs.Term.{Term, size}
use Rattle.calculus.specs.Order.{Next, next}
use Rattle.calculus.specs.Steps.{Steps}
use Rattle.calculus.specs.Run.{Outcome, Run, run, outcome, rules, reached}
use Rattle.calculus.proofs.Runs.{run-stop, run-spent, run_no_room, run_step}

-- `Passes fuel area t used u`: by those rules the run of t has come to u, and the run of u with the fuel left is the rest of it
pub record Passes (fuel area : ℕ) (t : Term) (used : List ℕ) (u : Term) : Type 0 where
  pub ends : outcome (run fuel area t) ≡ outcome (run (fuel - length used) area u)
  pub by_rules : rules (run fuel area t) ≡ used ++ rules (run (fuel - length used) area u)
  pub reaches : reached t (run fuel area t) ≡ reached u (run (fuel - length used) area u)

-- a run is at its first term with no step made
pub passes-start : (fuel area : ℕ) (t : Term) → Passes fuel area t [] t
passes-start fuel area t =
    let all : fuel - 0 ≡ fuel = omega arith in
    record {
      ends = ap (λ (f : ℕ). outcome (run f area t)) (sym all);
      by_rules = ap (λ (f : ℕ). rules (run f area t)) (sym all);
      reaches = ap (λ (f : ℕ). reached t (run f area t)) (sym all);
    }

-- one step on
passes-step :
    {fuel area : ℕ} {t : Term} {used : List ℕ} {u : Term} {n : ℕ} {w : Term} →
    Passes fuel area t used u → length used < fuel → next u ≡ Next.step n w → size w ≤ area → Passes fuel area t (used ++ (n ∷ [])) w
passes-step {fuel} {area} {t} {used} {u} {n} {w} p h e fits =
    let longer : length (used ++ (n ∷ [])) ≡ length used + 1 = length-append used (n ∷ []) in
    let left : fuel - length used ≡ suc (fuel - length (used ++ (n ∷ []))) = omega arith in
    let rest : Run = run (fuel - length (used ++ (n ∷ []))) area w in
    let on : run (fuel - length used) area u ≡ Run.then n w rest =
    ap (λ (f : ℕ). run f area u) left ∙ run_step (fuel - length (used ++ (n ∷ []))) area u e fits in
    record {
      ends = p.ends ∙ ap outcome on;
      by_rules = p.by_rules ∙ ap (λ (r : Run). used ++ rules r) on ∙ sym (append_snoc used n (rules rest));
      reaches = p.reaches ∙ ap (reached u) on;
    }

-- and several, one after another
pub passes-steps :
    {fuel area : ℕ} {t : Term} {used : List ℕ} {u : Term} {later : List ℕ} {v : Term} →
    Passes fuel area t used u → Steps area u later v → length used + length later ≤ fuel → Passes fuel area t (used ++ later) v
passes-steps {fuel} {area} {t} {used} {v = v} p Steps.none h =
    subst (λ (l : List ℕ). Passes fuel area t l v) (sym (append-nil used)) p
passes-steps {fuel} {area} {t} {used} {v = v} p (Steps.more {rule = rule} {rules = later} e fits rest) h =
    let longer : length (used ++ (rule ∷ [])) ≡ length used + 1 = length-append used (rule ∷ []) in
    subst (λ (l : List ℕ). Passes fuel area t l v) (append_snoc used rule later)
    (passes-steps (passes-step p (omega arith) e fits) rest (omega arith))

-- what the run of t comes to, where the rest of it from u is at its end
pub record Comes (fuel area : ℕ) (t : Term) (used : List ℕ) (u : Term) (o : Outcome) : Type 0 where
  pub ends : outcome (run fuel area t) ≡ o
  pub by_rules : rules (run fuel area t) ≡ used
  pub reaches : reached t (run fuel area t) ≡ u

comes :
    {fuel area : ℕ} {t : Term} {used : List ℕ} {u : Term} (o : Outcome) → Passes fuel area t used u →
    run (fuel - length used) area u ≡ Run.end o → Comes fuel area t used u o
comes {used = used} {u = u} o p e =
    record {
      ends = p.ends ∙ ap outcome e;
      by_rules = p.by_rules ∙ ap (λ (r : Run). used ++ rules r) e ∙ append-nil used;
      reaches = p.reaches ∙ ap (reached u) e;
    }

-- finished where nothing comes next
pub comes-finished :
    {fuel area : ℕ} {t : Term} {used : List ℕ} {u : Term} → Passes fuel area t used u → next u ≡ Next.stop →
    Comes fuel area t used u Outcome.finished
comes-finished {fuel} {area} {used = used} {u = u} p e = comes Outcome.finished p (run-stop (fuel - length used) area u e)

-- spent where the steps made equal the fuel
pub comes-spent :
    {fuel area : ℕ} {t : Term} {used : List ℕ} {u : Term} {n : ℕ} {w : Term} →
    Passes fuel area t used u → length used ≡ fuel → next u ≡ Next.step n w → Comes fuel area t used u Outcome.spent
comes-spent {fuel} {area} {used = used} {u = u} p f e =
    let left : fuel - length used ≡ 0 = omega arith in
    comes Outcome.spent p (ap (λ (k : ℕ). run k area u) left ∙ run-spent area u e)

-- no room where the next term is larger than the area
pub comes_no_room :
    {fuel area : ℕ} {t : Term} {used : List ℕ} {u : Term} {n : ℕ} {w : Term} →
    Passes fuel area t used u → length used < fuel → next u ≡ Next.step n w → area < size w → Comes fuel area t used u Outcome.no_room
comes_no_room {fuel} {area} {used = used} {u = u} p h e larger =
    let left : fuel - length used ≡ suc (fuel - (length used + 1)) = omega arith in
    comes Outcome.no_room p (ap (λ (k : ℕ). run k area u) left ∙ run_no_room (fuel - (length used + 1)) area u e larger)
