-- `words::append_words` meets its contract. The invariant is `So`: the first i numbers are written.
use Rattle.words.proofs.Writing.{So}
use Rattle.words.proofs.append_words.Given as goal

abbrev pub invariant-loop-n : goal.invariant-loop-n
invariant-loop-n l = So l.numbers l.initial.dst l.at l.n-index l.end l.dst
