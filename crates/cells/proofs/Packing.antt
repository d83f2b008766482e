-- What was packed into a cell is read from it. Assumes nothing.
use Prim.Native.Nat.{ℕ, ◌<◌}
use native.Mathlib.Omega.{arith}
use mathlib.Core.Path.{◌≡◌}
use Rattle.cells.specs.Cell.{letter_in, first_in, second_in, size_in, packed}

module _ (letter first second size : ℕ) (l : letter < 256) (f : first < 65536) (s : second < 65536) where
  -- its letter
  pub letter-packed : letter_in (packed letter first second size) ≡ letter
  letter-packed = omega arith

  -- its first index
  pub first-packed : first_in (packed letter first second size) ≡ first
  first-packed = omega arith

  -- its second
  pub second-packed : second_in (packed letter first second size) ≡ second
  second-packed = omega arith

  -- its size
  pub size-packed : size_in (packed letter first second size) ≡ size
  size-packed = omega arith
