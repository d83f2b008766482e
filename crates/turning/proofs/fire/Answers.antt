-- `turning::fire` meets its contract: without room nothing is done, and else a step is made; both are laws of `Turned`.
use Prim.Native.Nat.{◌+◌, ◌-◌}
use native.Mathlib.Omega.{arith}
use Rattle.turning.proofs.Turned.{focus-inside, fire-contractible, fire-result, fire-countable, fire-limited, fire-small}
use Rattle.turning.proofs.Turned.{turned-no-room, turned-stepped}
use Rattle.turning.proofs.fire.Goals as goal

pub offset_bounds-cells-function : goal.offset_bounds-cells-function
offset_bounds-cells-function c = omega (arith, focus-inside c.requires.appliable)

pub bounds-cells-function : goal.bounds-cells-function
bounds-cells-function c = (focus-inside c.requires.appliable).0

pub offset_bounds-cells-argument : goal.offset_bounds-cells-argument
offset_bounds-cells-argument c = omega (arith, focus-inside c.requires.appliable)

pub bounds-cells-argument : goal.bounds-cells-argument
bounds-cells-argument c = (focus-inside c.requires.appliable).1

pub contract-c-requires : goal.contract-c-requires
contract-c-requires c = fire-contractible c.requires

pub offset_bounds-cells-result : goal.offset_bounds-cells-result
offset_bounds-cells-result c =
    omega
    (arith, fire-result c.requires c.contract-c.ensures c.requires.appliable, c.contract-c.auto.cells)

pub bounds-cells-result : goal.bounds-cells-result
bounds-cells-result c = omega (arith, fire-result c.requires c.contract-c.ensures c.requires.appliable, c.contract-c.auto.cells)

pub overflow_add-size : goal.overflow_add-size
overflow_add-size c = omega (arith, fire-limited c.requires, c.size_in-3.ensures.bounded)

pub overflow_sub-size : goal.overflow_sub-size
overflow_sub-size c = omega (arith, fire-small c.requires, c.size_in.ensures.value, c.size_in-2.ensures.value)

pub returns-then-room-size : goal.returns-then-room-size
returns-then-room-size c = λ p. turned-no-room c.requires c.contract-c.ensures p c.halted.ensures

pub count_use-requires : goal.count_use-requires
count_use-requires c = fire-countable c.requires c.contract-c.ensures c.requires.appliable

pub returns : goal.returns
returns c =
    λ p. turned-stepped c.requires c.contract-c.ensures p c.count_use.new.counts
    (c.args.st.size + c.size_in-3.result - (1 + c.size_in.result + c.size_in-2.result))
    c.count_use.ensures
    (omega (arith, c.size_in.ensures.value, c.size_in-2.ensures.value, c.size_in-3.ensures.value)) (omega arith)
