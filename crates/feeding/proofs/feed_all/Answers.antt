-- No read yet, one read more, and a read that failed.
use Rattle.std.proofs.Common.{sym, subst}
use Rattle.std.specs.Prelude.{Ok, Err}
use Rattle.std.specs.declared.io.Error.{Error}
use Rattle.line_states.specs.Fed.{start_line}
use Rattle.line_states.specs.State.{state}
use Rattle.line_states.specs.declared.Line.{Line}
use Rattle.feeding.specs.Fed.{ReadOn}
use Rattle.feeding.proofs.feed_all.Goals as goal

pub loop-init : goal.loop-init
loop-init g c =
    let kept = c.args.kept.now in
    (1, subst (λ (l : Line). ReadOn {E = Error} (state start_line kept) (state l kept) (Ok 1)) (sym c.start-line.ensures) ReadOn.unread)

pub loop-preserved : goal.loop-preserved
loop-preserved g c = (c.in-Ok.field-0, ReadOn.read (Ok c.in-Ok.field-0) c.loop.invariant.1 c.in-Ok.ensures)

pub returns-in-Err : goal.returns-in-Err
returns-in-Err g c = ReadOn.read (Err c.in-Err.error) c.loop.invariant.1 c.in-Err.ensures
