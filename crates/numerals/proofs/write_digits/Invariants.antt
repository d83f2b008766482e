-- `numerals::write_digits` meets its contract. The invariant: with the digits of the number that is left put in front, `dst` is what it is
-- to be (`Left`).
use Rattle.numerals.proofs.Writing.{Left}
use Rattle.numerals.proofs.write_digits.Given as goal

abbrev pub invariant-loop-i : goal.invariant-loop-i
invariant-loop-i l = Left l.n l.at l.i l.rest l.initial.dst l.dst
