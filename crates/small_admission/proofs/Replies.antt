-- From what `admit` said to the replies: a refusal is passed on, and else the numbers are those of a call that is not refused. Carried by
-- `decided`. Assumes nothing.
use Prim.Native.Nat.{ℕ}
use native.Mathlib.Omega.{arith}
use mathlib.Core.Path.{◌≡◌, ap}
use Rattle.reading.specs.Reply.{Reply, passed_on}
use Rattle.small_admission.specs.Admission.{admitted, if_admitted, Admitted}
use Rattle.small_admission.specs.Answer.{refusal_of}
use Rattle.small_admission.specs.declared.Refused.{Refused}
use Rattle.small_admission.proofs.Admitting.{Decided, decided}

module _ (n fuel area : ℕ) where
  -- what is refused is answered so, whatever else would be
  pub said-refused :
      {X : Type 0} (x : X) (e : Refused) → passed_on (refusal_of e) ≡ admitted n fuel area →
      passed_on (refusal_of e) ≡ if_admitted (admitted n fuel area) x
  said-refused x e said = ap (λ (r : Reply Unit). if_admitted r x) said

  module _ (said : Reply.answered tt ≡ admitted n fuel area) where
    -- what is not refused is answered
    pub said-answered : {X : Type 0} (x : X) → Reply.answered x ≡ if_admitted (admitted n fuel area) x
    said-answered x = ap (λ (r : Reply Unit). if_admitted r x) said

    -- and has numbers within the limits
    pub said-admitted : Admitted n fuel area
    said-admitted = go (decided n fuel area) said
      where
        go : {reply : Reply Unit} → Decided n fuel area reply → Reply.answered tt ≡ reply → Admitted n fuel area
        go (Decided.refuses r) q = let z : ◌≡◌ {A = ℕ} 0 1 = cc in absurd (omega arith)
        go (Decided.admits r) q = r
