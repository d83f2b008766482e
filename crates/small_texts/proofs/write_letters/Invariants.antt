-- `small_texts::write_letters` meets its contract. The invariant: what is written, and what is still to come, are the text (`Written`).
use lib.ListN.{length}
use Rattle.small_texts.proofs.Letters.{Written}
use Rattle.small_texts.proofs.write_letters.Given as goal

abbrev pub invariant-loop-at : goal.invariant-loop-at
invariant-loop-at l = Written (length l.initial.text) l.index l.owing l.left l.at l.text
