-- `fingerprints::fingerprint` meets its contract. The loop's invariant: the value goes on, with the bytes still to come, to the fingerprint
-- of all.
use Rattle.std.proofs.Common.{◌≡◌, drop}
use Rattle.fingerprints.specs.Print.{print_from, print_of}
use Rattle.fingerprints.proofs.fingerprint.Given as goal

abbrev pub invariant-loop-b : goal.invariant-loop-b
invariant-loop-b l = print_from l.value (drop l.b-index l.bytes) ≡ print_of l.bytes
