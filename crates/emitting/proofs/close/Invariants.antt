-- `emitting::close` meets its contract. The loop's invariant: the terms have stayed, one frame more can be closed, and `kind` is the
-- kind of the list's cell. The measure is the list's index.
use mathlib.Core.Path.{◌≡◌}
use lib.ListN.{length, get_or}
use Rattle.cells.specs.Cell.{letter_in}
use Rattle.emitting.specs.Closing.{Closable, Closed}
use Rattle.emitting.proofs.close.Given as goal

abbrev pub invariant-loop-kind : goal.invariant-loop-kind
invariant-loop-kind l =
    Closed l.initial.cells l.initial.now.top l.initial.now.cur l.initial.now.list l.cells l.now.top l.now.cur l.now.list
    × Closable l.cells l.now.top l.now.cur l.now.list
    × (l.kind ≡ letter_in (get_or l.cells l.now.list 0))
    × (l.now.written ≡ l.initial.now.written)
    × (length l.cells ≡ length l.initial.cells)

abbrev pub decreases-loop-kind : goal.decreases-loop-kind
decreases-loop-kind l = l.now.list
