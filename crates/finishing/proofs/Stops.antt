-- What a full stop among the bytes says of what comes next. Assumes nothing.
use Prim.Native.Nat.{ℕ}
use mathlib.Core.Path.{◌≡◌}
use mathlib.Core.Bool.{true, false}
use Rattle.calculus.specs.Term.{Term, text}
use Rattle.calculus.specs.Order.{Next, next}
use Rattle.calculus.proofs.Order.{next-is-stop, not-normal-step, step-next}
use Rattle.reading.specs.Stop.{has_stop}
use Rattle.reading.proofs.Stops.{no_stop-normal, stop-not-normal}

-- bytes of a term without a full stop: nothing comes next
pub no_stop-next : (t : Term) → has_stop (text t) ≡ false → next t ≡ Next.stop
no_stop-next t e = (next-is-stop t).1 (no_stop-normal t e)

-- bytes of a term with a full stop: a step comes next
pub stop-next : (t : Term) → has_stop (text t) ≡ true → (n : ℕ) × (u : Term) × (next t ≡ Next.step n u)
stop-next t e =
    let (n, u, s) = not-normal-step (stop-not-normal t e) in
    (n, u, step-next s)
