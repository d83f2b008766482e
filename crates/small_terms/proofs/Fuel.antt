-- What the dearest small term says of fuel: what its run takes is enough for every small term that finishes, and no less is. Carried by a
-- finished run being the run of any fuel that is enough for its steps (`finished-enough`). Assumes nothing.
use Prim.Native.Nat.{ℕ, ◌≤◌, ◌<◌}
use native.Mathlib.Omega.{arith}
use mathlib.Core.Path.{◌∙◌, ap}
use Rattle.calculus.specs.Term.{Term}
use Rattle.calculus.specs.Run.{run, outcome, count}
use Rattle.calculus.proofs.Runs.{run-runs, count-fuel}
use Rattle.calculus.proofs.More.{largest-from}
use Rattle.calculus.proofs.Found.{finished-enough}
use Rattle.small_texts.specs.Small.{Small}
use Rattle.small_terms.specs.Dearest.{Finishes, Dearest}
use Rattle.small_terms.proofs.Leading.{finishes-at}
use Rattle.small_terms.proofs.Dearer.{one-count}

-- a term that finishes does so with any fuel that is enough for its steps, in as many
pub other-fuel : {fuel area m : ℕ} {t : Term} (enough : ℕ) → Finishes fuel area t m → m ≤ enough → Finishes enough area t m
other-fuel {fuel} {area} {m} {t} enough f h =
    let (ends, counts) = finishes-at fuel area t m f in
    let same = finished-enough t fuel area enough area ends (omega (arith, counts, h)) (largest-from (run-runs fuel area t)) in
    record { made = run enough area t; runs = run-runs enough area t; ends = ap outcome same ∙ ends; counts = ap count same ∙ counts }

-- no run makes more steps than its fuel
pub within-fuel : {fuel area m : ℕ} {t : Term} → Finishes fuel area t m → m ≤ fuel
within-fuel {fuel} {area} {m} {t} f = omega (arith, (finishes-at fuel area t m f).1, count-fuel fuel area t)

module _ {n fuel area : ℕ} {t : Term} {k : ℕ} (d : Dearest n fuel area t k) where
  -- the steps of the dearest term are fuel enough for each that finishes
  pub fuel-enough : (u : Term) (m : ℕ) → Small n u → Finishes fuel area u m → Finishes k area u m
  fuel-enough u m small f = other-fuel k f (d.none_more u m small f)

  -- and with less it does not finish itself
  pub fuel-needed : (less m : ℕ) → less < k → ¬ Finishes less area t m
  fuel-needed less m h f =
      let few = within-fuel f in
      let most = within-fuel d.finishes in
      omega (arith, one-count fuel area (other-fuel fuel f (omega arith)) d.finishes)
