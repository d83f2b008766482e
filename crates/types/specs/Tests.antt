-- Whether bytes are the text of a type, of a simple type, of a context: tests on what the readers of Parse.antt find.
-- REQUIREMENTS, Types.
use Rattle.std.specs.Prelude.{Bool, true, false}
use Rattle.std.proofs.Math.Option.{Option, none, some}
use Rattle.calculus.specs.Types.{Ty}

abbrev pub is_some : {X : Type 0} → Option X → Bool
is_some none = false
is_some (some x) = true

abbrev pub is_simple : Option Ty → Bool
is_simple none = false
is_simple (some (Ty.simple U)) = true
is_simple (some (Ty.context G)) = false
