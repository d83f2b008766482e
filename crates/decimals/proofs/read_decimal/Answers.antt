use Rattle.decimals.proofs.Parsing.{fed-end}
use Rattle.decimals.proofs.read_decimal.Goals as goal

pub returns : goal.returns
returns c =
    let a = c.args in
    fed-end a.cap a.s.now c.loop-b.b-index c.loop-b.decimal c.number.result c.loop-b-test.false c.loop-b.invariant c.number.ensures
