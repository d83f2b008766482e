-- `line_chunks::feed` meets its contract. The loop's invariant: feeding what is left of the chunk to the line and buffer so far comes to
-- the whole chunk's state.
use mathlib.Core.Path.{◌≡◌}
use lib.ListN.{drop}
use Rattle.line_states.specs.State.{state, fed}
use Rattle.line_chunks.proofs.feed.Given as goal

abbrev pub invariant-loop-b : goal.invariant-loop-b
invariant-loop-b l = fed (state l.l l.kept) (drop l.b-index l.chunk) ≡ fed (state l.initial.l l.initial.kept) l.chunk
