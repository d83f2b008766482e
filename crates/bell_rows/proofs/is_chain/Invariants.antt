-- `bell_rows::is_chain` meets its contract. The loop's invariant: the bytes that are left are a chain's text exactly where the whole is. The
-- measure is their number.
use mathlib.Core.Path.{◌≡◌}
use lib.ListN.{length}
use Rattle.bell_rows.specs.Bytes.{is_chain_text}
use Rattle.bell_rows.proofs.is_chain.Given as goal

abbrev pub invariant-loop-rest : goal.invariant-loop-rest
invariant-loop-rest l = is_chain_text l.rest ≡ is_chain_text l.term

abbrev pub decreases-loop-rest : goal.decreases-loop-rest
decreases-loop-rest l = length l.rest
