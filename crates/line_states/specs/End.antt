-- What a line that has ended holds, with nothing behind its line feed (REQUIREMENTS, Programs).
use Rattle.std.specs.Prelude.{ℕ}
use Rattle.std.proofs.Math.Option.{Option, none, some}
use Rattle.decimals.specs.declared.Decimal.{Decimal}
use Rattle.line_states.specs.declared.Line.{Line}
use Rattle.line_states.specs.declared.Line.TheVariants.{InFirst, InSecond, InThird, Ended, Other}

-- the two numbers, the third field as a number, and its length
pub data End : Type 0 where
  end : (first second : ℕ) (third : Decimal) (length : ℕ) → End

-- what the line holds; none in every other state
abbrev pub end_of : Line → Option End
end_of (InFirst number) = none
end_of (InSecond first number) = none
end_of (InThird first second number length) = none
end_of (Ended first second third length) = some (End.end first second third length)
end_of Other = none
