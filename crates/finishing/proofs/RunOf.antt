-- What holds of every run, alone or inside another operation: it is finishing's, it starts from the term that the area holds, two finished
-- runs have the same result exactly when their terms turn into each other, and every term of it keeps its type. Assumes nothing.
use Prim.Native.Nat.{ℕ}
use mathlib.Core.Path.{◌≡◌, sym, ◌∙◌, ap, subst, subst₂}
use mathlib.Core.Logic.{◌↔◌}
use mathlib.Core.List.{List, Memᴰ}
use lib.ListN.{length}
use Rattle.calculus.specs.Term.{Term, text}
use Rattle.calculus.specs.Turning.{Turn}
use Rattle.calculus.specs.Run.{Outcome, Run, run, outcome, terms, reached}
use Rattle.calculus.specs.Types.{Context, Ty}
use Rattle.calculus.specs.Typing.{Judgement}
use Rattle.calculus.specs.Derivation.{Derivable}
use Rattle.calculus.proofs.Runs.{run-runs, runs-run}
use Rattle.calculus.proofs.Results.{results_equal, terms-keep-type}
use Rattle.reading.specs.Reply.{Reply}
use Rattle.stepping.specs.Held.{Holds}
use Rattle.admission.specs.Admission.{admitted}
use Rattle.admission.proofs.Calls.{admitted-held}
use Rattle.finishing.specs.Finishing.{ran_from, finish_admitted, finishing_of}
use Rattle.finishing.specs.RunOf.{RunOf}

-- the run of a call that is not refused
pub run_of : {area work : List ℕ} {len fuel : ℕ} {t : Term} → admitted area len work fuel ≡ Reply.answered t → RunOf area len work fuel t (run fuel (length area) t)
run_of {area = area} {fuel = fuel} {t = t} e = record { admits = e; runs = run-runs fuel (length area) t }

-- the area holds the term that a run starts from
pub run-held : {area work : List ℕ} {len fuel : ℕ} {t : Term} {r : Run} → RunOf area len work fuel t r → Holds area len t
run-held {area = area} {work = work} {len = len} {fuel = fuel} {t = t} x = (admitted-held area len work fuel t x.admits).held

-- what finishing answers and leaves is of that run
pub run-finishes : {area work : List ℕ} {len fuel : ℕ} {t : Term} {r : Run} → RunOf area len work fuel t r → finishing_of area len work fuel ≡ ran_from t r area work
unfolding finishing_of
run-finishes {area = area} {work = work} {fuel = fuel} {t = t} x =
    ap (λ (a : Reply Term). finish_admitted a area work fuel) x.admits ∙ ap (λ (s : Run). ran_from t s area work) (runs-run x.runs)

-- the results of two finished runs are the same bytes exactly when the terms that they start from turn into each other
pub results_exactly :
    {area₁ work₁ area₂ work₂ : List ℕ} {len₁ fuel₁ len₂ fuel₂ : ℕ} {t u : Term} {r s : Run} →
    RunOf area₁ len₁ work₁ fuel₁ t r → RunOf area₂ len₂ work₂ fuel₂ u s → outcome r ≡ Outcome.finished → outcome s ≡ Outcome.finished →
    (text (reached t r) ≡ text (reached u s)) ↔ Turn t u
results_exactly {area₁ = area₁} {area₂ = area₂} {fuel₁ = fuel₁} {fuel₂ = fuel₂} {t = t} {u = u} x y done₁ done₂ =
    let same₁ = runs-run x.runs in
    let same₂ = runs-run y.runs in
    subst₂ (λ (a b : Run). (text (reached t a) ≡ text (reached u b)) ↔ Turn t u) same₁ same₂
    (results_equal fuel₁ (length area₁) fuel₂ (length area₂) t u (ap outcome same₁ ∙ done₁) (ap outcome same₂ ∙ done₂))

-- every term of a run has each type that its first term has
pub run-keeps :
    {area work : List ℕ} {len fuel : ℕ} {t : Term} {r : Run} (G : Context) (W : Ty) → RunOf area len work fuel t r →
    Derivable (Judgement.judge G t W) → (u : Term) → Memᴰ u (terms t r) → Derivable (Judgement.judge G u W)
run-keeps {area = area} {fuel = fuel} {t = t} G W x derivable u m =
    terms-keep-type fuel (length area) t u G W (subst (λ (s : Run). Memᴰ u (terms t s)) (sym (runs-run x.runs)) m) derivable
