-- No result is overlooked (REQUIREMENTS, Results), over the definitions of change and of run that the demands are about, the
-- limits of a call set aside. `none_overlooked` of proofs/Results.antt is the proof; specs/OtherWays.antt has what is not so.
use Rattle.std.specs.Prelude.{ℕ, ◌+◌, ◌-◌, ◌≤◌, ◌≡◌, ◌↔◌, List, ◌++◌, length}
use Rattle.calculus.specs.Term.{Term, Normal}
use Rattle.calculus.specs.Turning.{Turn, Reduce}
use Rattle.calculus.specs.Run.{Outcome, Run, run, outcome, rules, count, reached, largest}
use Rattle.calculus.specs.More.{onward, Unhelped}
use Rattle.calculus.specs.Found.{Tells, Finds}
use Rattle.finishing.specs.RunOf.{RunOf}

pub record NoneOverlooked : Type 0 where
  -- whatever changes, in any places, lead from a term to a normal one: the order finds that one
  pub found : (t v : Term) → Reduce t v → Normal v → Finds t v
  -- it finds the normal terms that a term turns into, and nothing else
  pub found_exactly : (t v : Term) → (Normal v × Turn t v) ↔ Finds t v
  -- a term turns into a normal one exactly when some fuel and area finish it
  pub finishes_exactly :
      (t : Term) →
      ((v : Term) × Normal v × Turn t v) ↔ ((fuel : ℕ) × (area : ℕ) × (outcome (run fuel area t) ≡ Outcome.finished))
  -- a run is the beginning of every run with more fuel and more area, which goes on as the run of the term reached, with the
  -- fuel that is left: the rules of both, one after the other, and the outcome and the last term of the second
  pub begins :
      (t : Term) (fuel area fuel' area' : ℕ) → fuel ≤ fuel' → area ≤ area' →
      let r = run fuel area t in
      run fuel' area' t ≡ onward r (run (fuel' - count r) area' (reached t r))
  pub onward-is :
      (t : Term) (r s : Run) →
      (rules (onward r s) ≡ rules r ++ rules s) ×
      (count (onward r s) ≡ count r + count s) ×
      (outcome (onward r s) ≡ outcome s) ×
      (reached t (onward r s) ≡ reached (reached t r) s)
  -- more of what did not run out changes nothing
  pub unhelped :
      (t : Term) (fuel area fuel' area' : ℕ) →
      Unhelped (outcome (run fuel area t)) fuel area fuel' area' → run fuel' area' t ≡ run fuel area t
  -- the run of a call with fuel and area for the way to a result is that way, and the outcome of any call tells what the way takes
  pub called :
      (area work : List ℕ) (len fuel : ℕ) (t v : Term) (r : Run) → RunOf area len work fuel t r → (f : Finds t v) →
      (count f.way ≤ fuel → largest f.way ≤ length area → r ≡ f.way) × Tells (outcome r) fuel (length area) f.way
  -- a call, and then a call on the term that it reached, in an area that is no smaller, make the run of one call in an area of
  -- that size with fuel for both
  pub taken_up :
      (area₁ work₁ area₂ work₂ area₃ work₃ : List ℕ) (len₁ fuel₁ len₂ fuel₂ len₃ fuel₃ : ℕ) (t : Term) (r₁ r₂ r₃ : Run) →
      RunOf area₁ len₁ work₁ fuel₁ t r₁ → RunOf area₂ len₂ work₂ fuel₂ (reached t r₁) r₂ → RunOf area₃ len₃ work₃ fuel₃ t r₃ →
      length area₁ ≤ length area₂ → length area₃ ≡ length area₂ → fuel₃ ≡ count r₁ + fuel₂ → r₃ ≡ onward r₁ r₂
