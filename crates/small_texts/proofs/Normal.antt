-- Every size has a normal small term. Assumes nothing.
use Prim.Native.Nat.{ℕ, zero, suc, ◌≤◌}
use native.Mathlib.Omega.{arith}
use mathlib.Core.Path.{◌≡◌, refl, ap}
use Rattle.calculus.specs.Term.{Term, size, Normal}
use Rattle.calculus.specs.BellFree.{BellFree}
use Rattle.small_texts.specs.Small.{Small}

-- `J` behind so many `R`
abbrev raised : ℕ → Term
raised zero = Term.J
raised (suc k) = Term.R (raised k)

raised-size : (k : ℕ) → size (raised k) ≡ suc k
raised-size zero = refl
raised-size (suc k) = ap suc (raised-size k)

raised-free : (k : ℕ) → BellFree (raised k)
raised-free zero = BellFree.free-J
raised-free (suc k) = BellFree.free-R (raised-free k)

raised-normal : (k : ℕ) → Normal (raised k)
raised-normal zero = Normal.normal-J
raised-normal (suc k) = Normal.normal-R (raised-normal k)

-- it is one
pub some-normal : (n : ℕ) → 1 ≤ n → (t : Term) × Small n t × Normal t
some-normal zero h = absurd (omega arith)
some-normal (suc k) h = (raised k, record { sized = raised-size k; free = raised-free k }, raised-normal k)
