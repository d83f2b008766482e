use Prim.Native.Nat.{ℕ}
use mathlib.Core.Path.{◌∙◌, ap}
use native.Mathlib.Nat.{sub-zero}
use lib.ListN.{length, replicate}
use Rattle.slices.specs.Same.{same}
use Rattle.slices.proofs.Zeros.{zeros-end}
use Rattle.slices.proofs.is_zeros.Goals as goal

pub loop-x-init : goal.loop-x-init
loop-x-init c =
    let s = c.args.s.now in
    ap (λ (n : ℕ). same s (replicate n 0)) (sub-zero (length s))

pub returns : goal.returns
returns c =
    let s = c.args.s.now in
    zeros-end c.loop-x.clean s c.loop-x.x-index c.loop-x-test.false ∙ c.loop-x.invariant
