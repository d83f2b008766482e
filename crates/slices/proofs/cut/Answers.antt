-- `slices::cut` meets its contract: each of its four answers is a law of `part`.
use mathlib.Core.Path.{sym}
use native.Mathlib.Omega.{arith}
use Rattle.slices.proofs.Part.{part-empty, part_past, part_clip}
use Rattle.slices.proofs.cut.Goals as goal

pub returns-then-to-from : goal.returns-then-to-from
returns-then-to-from c = sym (part-empty c.args.from c.args.to c.args.s.now c.if-to-from.true)

pub returns-then-from-s : goal.returns-then-from-s
returns-then-from-s c = sym (part_clip c.args.from c.args.to c.args.s.now (omega arith))

pub returns : goal.returns
returns c = sym (part_past c.args.from c.args.to c.args.s.now (omega arith))
