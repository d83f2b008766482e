-- Every line of the checking program is at most 24 bytes: the numbers that checking answers are small. Assumes nothing.
use Prim.Native.Nat.{ℕ, ◌≤◌}
use native.Mathlib.Omega.{arith}
use mathlib.Core.Path.{◌≡◌, refl}
use mathlib.Core.List.{List}
use lib.ListN.{length}
use Rattle.reading.specs.Reply.{Reply}
use Rattle.derivation_files.specs.Checking.{checking_of}
use Rattle.derivation_files.proofs.Listed.{checking_refused}
use Rattle.derivation_files.proofs.Files.{accepted_exactly}
use Rattle.answering.specs.Program.{check_program}
use Rattle.answering.proofs.Lengths.{Small, refusal-small, check-length}

small : (file : List ℕ) (reply : Reply ℕ) → checking_of file ≡ reply → Small reply
small file (Reply.refused number line) e = refusal-small (omega arith) (omega arith) (omega arith) (checking_refused file number line e)
small file (Reply.answered lines) e = omega (arith, ((accepted_exactly file lines).0 e).few-lines)

pub check_program_length : (file : List ℕ) → length (check_program file) ≤ 24
unfolding check_program
check_program_length file = check-length (checking_of file) (small file (checking_of file) refl)
