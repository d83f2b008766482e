-- `contracting::spread` meets its contract: rules 8 and 11.
use borrow.Author.Rules.{rules}
use native.Mathlib.Omega.{arith}
use Rattle.contracting.proofs.Nodes.{argument-inside}
use Rattle.contracting.proofs.Spreading.{spread-first, spread-second, spread-third, spread-gives}
use Rattle.contracting.proofs.spread.Goals as goal

pub offset_bounds-cells-argument : goal.offset_bounds-cells-argument
offset_bounds-cells-argument c = let h = argument-inside c.requires.contractible in search rules

pub bounds-cells-argument : goal.bounds-cells-argument
bounds-cells-argument c = argument-inside c.requires.contractible

pub node-requires : goal.node-requires
node-requires c =
    spread-first c.requires.contractible c.requires.function_value c.requires.spreads c.first_in-first.ensures
    c.second_in-second.ensures

pub node-requires-2 : goal.node-requires-2
node-requires-2 c =
    let can =
    spread-second c.requires.contractible c.requires.function_value c.requires.spreads c.first_in-first.ensures c.second_in-second.ensures
    c.node.ensures in
    omega (arith, can)

pub node-requires-3 : goal.node-requires-3
node-requires-3 c =
    spread-third c.requires.contractible c.requires.function_value c.requires.spreads c.first_in-first.ensures c.second_in-second.ensures
    c.node.ensures c.node-2.ensures

pub returns : goal.returns
returns c =
    spread-gives c.requires.contractible c.requires.function_value c.requires.spreads c.first_in-first.ensures c.second_in-second.ensures
    c.node.ensures c.node-2.ensures c.node-3.ensures
