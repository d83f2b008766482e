-- The number of each case of a line's fault (REQUIREMENTS, Checking).
use Rattle.std.specs.Prelude.{ℕ}
use Rattle.reading.specs.Reply.{Reply}
use Rattle.derivation_lines.specs.declared.Fault.{Fault}
use Rattle.derivation_lines.specs.declared.Fault.TheVariants.{NotSixFields, Malformed, UnknownRule, BadPremise, NoInstance}

abbrev pub number_of : Fault → ℕ
number_of NotSixFields = 14
number_of Malformed = 15
number_of UnknownRule = 16
number_of BadPremise = 17
number_of NoInstance = 18

-- the refusal of a line by itself
abbrev pub refusal_of : Fault → Reply ⊥
refusal_of fault = Reply.refused (number_of fault) 0
