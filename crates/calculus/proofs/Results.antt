-- What holds of any two finished runs, and of every term of a run: demand 3 over the definition of runs.
use Prim.Native.Nat.{ℕ}
use mathlib.Core.Path.{◌≡◌, sym, ap, subst}
use mathlib.Core.Logic.{◌↔◌}
use mathlib.Core.List.{Memᴰ}
use Rattle.calculus.specs.Term.{Term, text}
use Rattle.calculus.specs.Turning.{Turn}
use Rattle.calculus.specs.Run.{Outcome, run, outcome, terms, reached}
use Rattle.calculus.specs.Types.{Context, Ty}
use Rattle.calculus.specs.Typing.{Judgement}
use Rattle.calculus.specs.Derivation.{Derivable}
use Rattle.calculus.proofs.PrefixCode.{text_injective}
use Rattle.calculus.proofs.Confluence.{reduce_turn, turn_trans, turn-sym, normal-turn}
use Rattle.calculus.proofs.Runs.{reached_reduces, terms_reduce, finished-normal}
use Rattle.calculus.proofs.Derivations.{reduce_keeps-derivable}

-- a term can be turned into each term that a run of it reaches
pub reached-turn : (fuel area : ℕ) (t : Term) → Turn t (reached t (run fuel area t))
reached-turn fuel area t = reduce_turn (reached_reduces fuel area t)

-- the results of two finished runs, whatever their fuels and areas, are the same bytes exactly when the terms that they started from can
-- be turned into each other
pub results_equal :
    (fuel₁ area₁ fuel₂ area₂ : ℕ) (t u : Term) →
    let r₁ = run fuel₁ area₁ t in
    let r₂ = run fuel₂ area₂ u in
    outcome r₁ ≡ Outcome.finished → outcome r₂ ≡ Outcome.finished → (text (reached t r₁) ≡ text (reached u r₂)) ↔ Turn t u
results_equal fuel₁ area₁ fuel₂ area₂ t u done₁ done₂ = (
  λ e. turn_trans (reached-turn fuel₁ area₁ t) (subst (λ (v : Term). Turn v u) (sym (text_injective _ _ e)) (turn-sym (reached-turn fuel₂ area₂ u))),
  λ turns. ap text (meet.0 (turn_trans (turn-sym (reached-turn fuel₁ area₁ t)) (turn_trans turns (reached-turn fuel₂ area₂ u)))),
)
  where
    meet : Turn (reached t (run fuel₁ area₁ t)) (reached u (run fuel₂ area₂ u)) ↔ (reached t (run fuel₁ area₁ t) ≡ reached u (run fuel₂ area₂ u))
    meet = normal-turn (finished-normal fuel₁ area₁ t done₁) (finished-normal fuel₂ area₂ u done₂)

-- every term of a run, whatever its fuel, area and outcome, has each type that its first term has
pub terms-keep-type :
    (fuel area : ℕ) (t u : Term) (G : Context) (W : Ty) →
    Memᴰ u (terms t (run fuel area t)) → Derivable (Judgement.judge G t W) → Derivable (Judgement.judge G u W)
terms-keep-type fuel area t u G W m = reduce_keeps-derivable (terms_reduce fuel area t u m)
