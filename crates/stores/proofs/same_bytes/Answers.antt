-- `stores::same_bytes` meets its contract: slices of two lengths are not the same.
use Rattle.stores.proofs.Comparing.{same_lengths}
use Rattle.stores.proofs.same_bytes.Goals as goal

pub returns-then-a-b : goal.returns-then-a-b
returns-then-a-b c = same_lengths c.args.a.now c.args.b.now c.if-a-b.true
