-- A part in its frames: its next step is that of the whole, and its size goes into the size of the whole. Assumes nothing.
use Prim.Native.Nat.{ℕ, ◌+◌, ◌*◌, ◌≤◌}
use native.Mathlib.Omega.{arith}
use mathlib.Core.Path.{◌≡◌, refl, ap}
use mathlib.Core.List.{List, [], ◌∷◌}
use lib.ListN.{length}
use Rattle.calculus.specs.Term.{Term, size}
use Rattle.calculus.specs.Order.{Next, next, within}
use Rattle.calculus.proofs.PrefixCode.{size_positive}
use Rattle.contexts.specs.Frames.{Frame, plugged}

-- the next step of an application is that of the application in its frames
pub plugged-next :
    (frames : List Frame) (f a : Term) {n : ℕ} {r : Term} → next (Term.app f a) ≡ Next.step n r →
    next (plugged (Term.app f a) frames) ≡ Next.step n (plugged r frames)
plugged-next [] f a e = e
plugged-next (Frame.argument x ∷ frames) f a e = plugged-next frames (Term.app f a) x (ap (within (λ (g : Term). Term.app g x)) e)
plugged-next (Frame.function u s ∷ frames) f a e = plugged-next frames (Term.B u s) (Term.app f a) (ap (within (Term.app (Term.B u s))) e)

-- an application in its frames is an application
pub plugged-app : (frames : List Frame) (f a : Term) → (g : Term) × (b : Term) × (plugged (Term.app f a) frames ≡ Term.app g b)
plugged-app [] f a = (f, a, refl)
plugged-app (Frame.argument x ∷ frames) f a = plugged-app frames (Term.app f a) x
plugged-app (Frame.function u s ∷ frames) f a = plugged-app frames (Term.B u s) (Term.app f a)

-- two parts in the same frames differ in size as they do alone
pub plugged-size : (frames : List Frame) (t u : Term) → size (plugged t frames) + size u ≡ size (plugged u frames) + size t
plugged-size [] t u = omega arith
plugged-size (Frame.argument x ∷ frames) t u = omega (arith, plugged-size frames (Term.app t x) (Term.app u x))
plugged-size (Frame.function v s ∷ frames) t u =
    omega (arith, plugged-size frames (Term.app (Term.B v s) t) (Term.app (Term.B v s) u))

-- each frame adds two letters or more
pub plugged-within : (frames : List Frame) (t : Term) → size t + 2 * length frames ≤ size (plugged t frames)
plugged-within [] t = omega arith
plugged-within (Frame.argument x ∷ frames) t = omega (arith, plugged-within frames (Term.app t x), size_positive x)
plugged-within (Frame.function u s ∷ frames) t = omega (arith, plugged-within frames (Term.app (Term.B u s) t))
