-- `reading::has_stop` meets its contract: what is found before the end is a full stop.
use Prim.Native.Nat.{ℕ}
use mathlib.Core.Path.{ap}
use lib.Dec.{ltb}
use lib.ListN.{length}
use Rattle.reading.proofs.has_stop.Goals as goal

pub returns : goal.returns
returns c = ap (λ (n : ℕ). ltb n (length c.args.s.now)) c.find.ensures
