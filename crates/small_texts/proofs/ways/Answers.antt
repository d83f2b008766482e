-- `small_texts::ways` meets its contract: a number of the table, all of which is right, and 0 beside it.
use native.Mathlib.Omega.{arith}
use Rattle.std.proofs.lemmas.Grind.{common_steps}
use Rattle.small_texts.proofs.HowMany.{any-row}
use Rattle.small_texts.proofs.ways.Goals as goal

pub returns : goal.returns
returns c = let e = any-row c.args.n c.args.k (omega arith) in grind (arith, common_steps, e)
