-- `large_arenas::both` meets its contract: the steps are the sum, and the size is the second's.
use mathlib.Core.Path.{refl}
use Rattle.large_arenas.proofs.both.Goals as goal

pub returns : goal.returns
returns c = (refl, refl)
