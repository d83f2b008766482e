-- `reducing::rewrite_with` meets its contract: the ends are stored before they are looked up.
use Prim.Native.Nat.{ℕ}
use native.Mathlib.Omega.{arith}
use lib.Seq.{take-length}
use Rattle.std.proofs.lemmas.List.{length-replicate}
use Rattle.reducing.proofs.rewrite_with.Goals as goal

pub returns : goal.returns
returns g c =
    λ fits t e short.
    let zero : ℕ = 0 in
    let by = rw take-length at c.rewrite_by.ensures in
    by (c.store_ends.ensures.stored short (omega (arith, length-replicate g.row.N zero))).inside t e short
