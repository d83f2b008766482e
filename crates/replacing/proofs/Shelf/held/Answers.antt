-- `Shelf::held` meets its contract: the part of the store between two ends that follow each other, at the place of the name's number.
use Rattle.std.proofs.Common.{rules}
use Prim.Native.Nat.{◌+◌}
use mathlib.Core.Path.{◌≡◌}
use native.Mathlib.Omega.{arith}
use lib.ListN.{get_or}
use Rattle.slices.proofs.Finding.{index_within}
use Rattle.replacing.proofs.Holding.{held-between}
use Rattle.replacing.proofs.Shelf.held.Goals as goal

pub overflow_add-i : goal.overflow_add-i
overflow_add-i c = omega (arith, index_within c.args.key c.args.self.keys.now)

pub returns : goal.returns
returns c =
    let shelf = c.args.self in
    let first : c.unwrap_or-from.result ≡ get_or shelf.ends.now c.index_of-i.result 0 = search rules in
    let last : c.unwrap_or-to.result ≡ get_or shelf.ends.now (c.index_of-i.result + 1) 0 = search rules in
    held-between c.args.key shelf.keys.now shelf.ends.now c.args.store.now c.index_of-i.ensures first last c.cut.ensures
