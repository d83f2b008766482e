-- `contracting::enter` meets its contract: rule 4.
use native.Mathlib.Omega.{arith}
use Rattle.contracting.proofs.Entering.{enter-first, enter-second, enter-gives}
use Rattle.contracting.proofs.enter.Goals as goal

pub node-requires : goal.node-requires
node-requires c =
    omega (arith, enter-first c.requires.contractible c.requires.function_value c.first_in-environment.ensures c.second_in-body.ensures)

pub node-requires-2 : goal.node-requires-2
node-requires-2 c =
    enter-second c.requires.contractible c.requires.function_value c.first_in-environment.ensures c.second_in-body.ensures
    c.node.ensures

pub returns : goal.returns
returns c =
    enter-gives c.requires.contractible c.requires.function_value c.first_in-environment.ensures c.second_in-body.ensures c.node.ensures
    c.node-2.ensures
