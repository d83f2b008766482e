-- `decimals::read_decimal` meets its contract. The loop's invariant: feeding what is left of the slice to the state so far comes to the
-- whole slice's state.
use mathlib.Core.Path.{◌≡◌}
use lib.ListN.{drop}
use Rattle.decimals.specs.Parsed.{fed_all, state_of}
use Rattle.decimals.proofs.read_decimal.Given as goal

abbrev pub invariant-loop-b : goal.invariant-loop-b
invariant-loop-b l = fed_all l.cap l.decimal (drop l.b-index l.s) ≡ state_of l.cap l.s
