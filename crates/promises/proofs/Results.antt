-- No result is overlooked: by the laws of `More` and `Found` in `calculus`; the run of a call is that of its fuel and of its area's size.
-- Assumes nothing.
use Prim.Native.Nat.{ℕ, ◌+◌, ◌-◌, ◌≤◌}
use mathlib.Core.Path.{◌≡◌, sym, ◌∙◌, ap, ap₂, subst}
use mathlib.Core.List.{List}
use lib.ListN.{length}
use native.Mathlib.Omega.{arith}
use Rattle.calculus.specs.Term.{Term}
use Rattle.calculus.specs.Run.{Run, run, outcome, count, reached, largest}
use Rattle.calculus.specs.More.{onward}
use Rattle.calculus.specs.Found.{Tells, Finds}
use Rattle.calculus.proofs.Runs.{runs-run}
use Rattle.calculus.proofs.More.{unhelped, begins-from, largest-from, begins, onward-is}
use Rattle.calculus.proofs.Found.{found, found_exactly, finishes_exactly}
use Rattle.finishing.specs.RunOf.{RunOf}
use Rattle.promises.specs.Results.{NoneOverlooked}

-- what a call makes of a term whose result the order finds
called :
    (area work : List ℕ) (len fuel : ℕ) (t v : Term) (r : Run) → RunOf area len work fuel t r → (f : Finds t v) →
    (count f.way ≤ fuel → largest f.way ≤ length area → r ≡ f.way) × Tells (outcome r) fuel (length area) f.way
called area work len fuel t v r call f =
    let same : run fuel (length area) t ≡ r = runs-run call.runs in (
      λ h k. sym same ∙ f.enough fuel (length area) h k,
      subst (λ (s : Run). Tells (outcome s) fuel (length area) f.way) same (f.tells fuel (length area)),
    )

-- two calls, the second on the term that the first reached, and one call for both
taken_up :
    (area₁ work₁ area₂ work₂ area₃ work₃ : List ℕ) (len₁ fuel₁ len₂ fuel₂ len₃ fuel₃ : ℕ) (t : Term) (r₁ r₂ r₃ : Run) →
    RunOf area₁ len₁ work₁ fuel₁ t r₁ → RunOf area₂ len₂ work₂ fuel₂ (reached t r₁) r₂ → RunOf area₃ len₃ work₃ fuel₃ t r₃ →
    length area₁ ≤ length area₂ → length area₃ ≡ length area₂ → fuel₃ ≡ count r₁ + fuel₂ → r₃ ≡ onward r₁ r₂
taken_up area₁ work₁ area₂ work₂ area₃ work₃ len₁ fuel₁ len₂ fuel₂ len₃ fuel₃ t r₁ r₂ r₃ call₁ call₂ call₃ wider as_large for-both =
    let left : fuel₃ - count r₁ ≡ fuel₂ = omega arith in
    sym (runs-run call₃.runs)
    ∙ begins-from fuel₃ (length area₃) (omega arith) (omega (arith, largest-from call₁.runs)) call₁.runs
    ∙ ap₂ (λ (f a : ℕ). onward r₁ (run f a (reached t r₁))) left as_large
    ∙ ap (onward r₁) (runs-run call₂.runs)

pub none_overlooked : NoneOverlooked
none_overlooked =
    record {
      found = found;
      found_exactly = found_exactly;
      finishes_exactly = finishes_exactly;
      begins = begins;
      onward-is = onward-is;
      unhelped = unhelped;
      called = called;
      taken_up = taken_up;
    }
