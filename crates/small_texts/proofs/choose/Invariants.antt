-- `small_texts::choose` meets its contract. The invariant: the first letter is none of those tried (`Untried`).
use Rattle.small_texts.proofs.Choosing.{Untried}
use Rattle.small_texts.proofs.choose.Given as goal

abbrev pub invariant-loop-b : goal.invariant-loop-b
invariant-loop-b l = Untried l.owing l.rest l.index l.b-index l.left
