-- `feeding::feed_all` meets its contract. The loop's invariant: the reads so far led here, and none of them failed.
use Rattle.std.specs.Prelude.{ℕ, Ok}
use Rattle.std.specs.declared.io.Error.{Error}
use Rattle.line_states.specs.Fed.{start_line}
use Rattle.line_states.specs.State.{state}
use Rattle.feeding.specs.Fed.{ReadOn}
use Rattle.feeding.proofs.feed_all.Given as goal

abbrev pub invariant-loop : goal.invariant-loop
invariant-loop g l = (size : ℕ) × ReadOn {E = Error} (state start_line l.fn.kept) (state l.line l.kept) (Ok size)
