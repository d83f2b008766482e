-- `premises::number_of` meets its contract: a number past the limit is told from one within it by the cap.
use native.Mathlib.Omega.{arith}
use Rattle.std.proofs.lemmas.Grind.{common_steps}
use Rattle.premises.proofs.Citing.{number_some}
use Rattle.premises.proofs.number_of.Goals as goal

pub returns-then-number-eq0 : goal.returns-then-number-eq0
returns-then-number-eq0 c = let read = number_some c.args.s.now c.in_ok-number.number c.in_ok-number.ensures in grind (arith, common_steps)

pub returns : goal.returns
returns c = let read = number_some c.args.s.now c.in_ok-number.number c.in_ok-number.ensures in grind (arith, common_steps)
