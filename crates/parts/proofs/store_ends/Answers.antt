-- `parts::store_ends` meets its contract: `part_end` stores where both tests let it.
use Prim.Native.Nat.{ℕ}
use native.Mathlib.Omega.{arith}
use mathlib.Core.Path.{subst}
use Rattle.parts.specs.Ends.{Stored}
use Rattle.parts.proofs.store_ends.Goals as goal

pub returns : goal.returns
returns c =
    let a = c.args in
    record {
      stored = λ short fits.
          subst (λ (n : ℕ). Stored a.s.now a.at n a.ends.now.now c.part_end.new.ends.now) c.part_end.ensures.0
          c.part_end.ensures.1;
      too_long = λ long. absurd (omega arith);
      too_short = λ short. absurd (omega arith);
    }
