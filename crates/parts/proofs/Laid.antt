-- An application in a list of bytes: where its function begins and ends, and where its argument begins. Assumes nothing.
use Prim.Native.Nat.{ℕ, ◌+◌}
use native.Mathlib.Omega.{arith}
use mathlib.Core.Path.{◌≡◌, refl, ap}
use mathlib.Core.List.{List, [], ◌∷◌}
use lib.ListN.{length, get_or}
use Rattle.calculus.specs.Letter.{Letter, byte}
use Rattle.calculus.specs.Term.{Term, text, size}
use Rattle.calculus.proofs.PrefixCode.{length-text}
use Rattle.calculus.proofs.Heads.{head_of}
use Rattle.parts.specs.Skip.{end_at}
use Rattle.parts.proofs.Pieces.{flat, length-flat, end-flat, head-flat}

-- the pieces of a list with an application `. f a` in it
abbrev pub around : (front : List ℕ) (f a : Term) (back : List ℕ) → List (List ℕ)
around front f a back = front ∷ (byte Letter.stop ∷ []) ∷ text f ∷ text a ∷ back ∷ []

-- the application begins at index p
pub record Laid (s front : List ℕ) (f a : Term) (back : List ℕ) (p : ℕ) : Type 0 where
  pub whole : s ≡ flat (around front f a back)
  pub place : p ≡ length front

module _ {s front : List ℕ} {f a : Term} {back : List ℕ} {p : ℕ} (laid : Laid s front f a back p) where
  -- the function begins behind the full stop, and the argument behind the function
  pub function-head : get_or s (p + 1) 0 ≡ byte (head_of f)
  function-head = head-flat (around front f a back) laid.whole 2 f (text a ∷ back ∷ []) refl (p + 1) (omega arith)

  pub function-end : end_at s (p + 1) ≡ p + 1 + size f
  function-end = end-flat (around front f a back) laid.whole 2 f (text a ∷ back ∷ []) refl (p + 1) (omega arith)

  pub argument-head : (at : ℕ) → at ≡ end_at s (p + 1) → get_or s at 0 ≡ byte (head_of a)
  argument-head at e =
      head-flat (around front f a back) laid.whole 3 a (back ∷ []) refl at (omega (arith, function-end, length-text f))

  -- the whole list has the front, the application and the back
  pub laid-length : length s ≡ p + size (Term.app f a) + length back
  laid-length = omega (arith, ap length laid.whole, length-flat (around front f a back), laid.place, length-text f, length-text a)
