-- `types::is_simple` meets its contract: the bytes are a simple type's text exactly where one ends at their end.
use Prim.Native.Nat.{ℕ}
use mathlib.Core.Path.{◌∙◌, ap}
use lib.Dec.{eqb}
use lib.ListN.{length}
use Rattle.types.proofs.Owed.{simple_test}
use Rattle.types.proofs.is_simple.Goals as goal

pub returns : goal.returns
returns c = ap (λ (n : ℕ). eqb n (length c.args.s.now)) c.simple_end.ensures ∙ simple_test c.args.s.now
