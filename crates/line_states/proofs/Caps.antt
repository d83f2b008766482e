-- The caps change no reply: what is in range stays as it is, and what is over a limit stays over it. Assumes nothing.
use Prim.Native.Nat.{ℕ, ◌≤◌, ◌<◌, min}
use native.Mathlib.Omega.{arith}
use mathlib.Core.Path.{◌≡◌}
use Rattle.calculus.specs.Limits.{area_limit, fuel_limit}
use Rattle.line_states.specs.Fed.{number_cap, length_cap}

-- a number up to the limit of fuel is exact, and more than a limit stays more; so with a length and the largest area
pub number-exact : (n : ℕ) → n ≤ fuel_limit → min n number_cap ≡ n
number-exact n h = omega arith

pub number_over : (limit n : ℕ) → limit ≤ fuel_limit → limit < n → limit < min n number_cap
number_over limit n h k = omega arith

pub length-exact : (n : ℕ) → n ≤ area_limit → min n length_cap ≡ n
length-exact n h = omega arith

pub length_over : (area n : ℕ) → area ≤ area_limit → area < n → area < min n length_cap
length_over area n h k = omega arith
