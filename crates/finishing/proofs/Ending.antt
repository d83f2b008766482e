-- From what was admitted, reached and cleared to the record and the areas: each way out of `finish` as one law. Assumes nothing.
use Prim.Native.Nat.{ℕ, ◌-◌, ◌≤◌}
use native.Mathlib.Omega.{arith}
use mathlib.Core.Path.{◌≡◌, sym, ◌∙◌, ap, ap₂}
use mathlib.Core.List.{List, ◌++◌}
use lib.ListN.{length, take, replicate}
use Rattle.calculus.specs.Term.{Term, text, size}
use Rattle.calculus.specs.Run.{Outcome, run, count, reached}
use Rattle.calculus.proofs.Runs.{count-fuel}
use Rattle.reading.specs.Reply.{Reply}
use Rattle.reading.specs.Area.{holding, cleared}
use Rattle.stepping.specs.Held.{Holds}
use Rattle.admission.specs.Admission.{admitted, admission}
use Rattle.admission.proofs.Calls.{admitted-held}
use Rattle.admission.proofs.Answers.{admission-answered}
use Rattle.finishing.specs.Finishing.{Ran, After, record_of, finish_admitted, finishing_of}
use Rattle.finishing.specs.Loop.{Ready, Reaches}

module _ (area : List ℕ) (len : ℕ) (work : List ℕ) (fuel : ℕ) (said : Reply.answered tt ≡ admission (admitted area len work fuel)) where
  -- the run can begin
  pub after-ready : Ready area len work
  after-ready =
      let (t, e) = admission-answered (admitted area len work fuel) said in
      let admits = admitted-held area len work fuel t e in
      record { short = admits.areas.short; room = admits.areas.room; term = t; held = admits.held }

  -- the run was made
  pub after_run :
      (o : Outcome) (made : ℕ) (counts : List ℕ) (size' : ℕ) (area₁ work₁ area₂ work₂ : List ℕ) →
      ((t : Term) → Holds area len t → Reaches t (run fuel (length area) t) (Ran.ran o made counts size') area₁) →
      length area₁ ≡ length area → length work₁ ≡ length work →
      area₂ ≡ take size' area₁ ++ replicate (length area₁ - size') 0 → work₂ ≡ replicate (length work₁) 0 →
      (After.after (Reply.answered tt) (Ran.ran o made counts size') area₂ work₂ ≡ finishing_of area len work fuel) × (made ≤ fuel)
  unfolding finishing_of
  after_run o made counts size' area₁ work₁ area₂ work₂ reach long wide z w =
      let (t, e) = admission-answered (admitted area len work fuel) said in
      let r = run fuel (length area) t in
      let end = reached t r in
      let there = reach t (admitted-held area len work fuel t e).held in
      let sized : size' ≡ size end = cc there.records in
      let counted : made ≡ count r = cc there.records in
      let front : take size' area₁ ≡ text end = ap (λ (n : ℕ). take n area₁) sized ∙ there.held.written in
      let held : area₂ ≡ holding end area =
      z
      ∙ ap₂ (λ (l : List ℕ) (n : ℕ). l ++ replicate (n - size') 0) front long
      ∙ ap (λ (n : ℕ). text end ++ replicate (length area - n) 0) sized in
      let clear : work₂ ≡ cleared work = w ∙ ap (λ (n : ℕ). replicate n 0) wide in (
        ap (λ (m : Ran). After.after (Reply.answered tt) m area₂ work₂) there.records
            ∙ ap₂ (λ (x y : List ℕ). After.after (Reply.answered tt) (record_of t r) x y) held clear
            ∙ sym (ap (λ (x : Reply Term). finish_admitted x area work fuel) e),
        omega (arith, count-fuel fuel (length area) t),
      )
