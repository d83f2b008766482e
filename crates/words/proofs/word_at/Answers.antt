-- `words::word_at` meets its contract: four bytes as digits to the base 256, the lowest first.
use mathlib.Core.Path.{sym}
use native.Mathlib.Omega.{arith}
use Rattle.words.proofs.At.{word-missing, word_bytes}
use Rattle.words.proofs.word_at.Goals as goal

pub returns-then-s-lt4 : goal.returns-then-s-lt4
returns-then-s-lt4 c = sym (word-missing c.args.at c.args.s.now (omega arith))

pub returns-then-s-at : goal.returns-then-s-at
returns-then-s-at c = sym (word-missing c.args.at c.args.s.now (omega arith))

pub returns : goal.returns
returns c =
    let a = c.args in
    let number = word_bytes a.at a.s.now (omega arith) in
    omega (arith, c.from_le_bytes.ensures, number)
