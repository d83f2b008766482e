-- A sweep that is answered has a finished run. Carried by `never_none`. Assumes nothing.
use Prim.Native.Nat.{ℕ, ◌≤◌}
use mathlib.Core.Path.{◌≡◌, sym}
use Rattle.std.specs.Prelude.{Ok}
use Rattle.small_terms.specs.Sweep.{sweep_of}
use Rattle.small_terms.specs.Answer.{answer_of}
use Rattle.small_terms.specs.declared.Tally.{Tally}
use Rattle.small_terms.proofs.Sweeps.{never_none}

pub can-divide : (size fuel area : ℕ) (tally : Tally) → answer_of (Ok tally) ≡ sweep_of size fuel area → 1 ≤ tally.finished
can-divide size fuel area tally e = never_none size fuel area tally.finished tally.spent tally.no_room tally.steps (sym e)
