-- `stores::size_at` meets its contract.
use native.Mathlib.Omega.{arith}
use mathlib.Core.Path.{sym, ◌∙◌}
use Rattle.stores.proofs.Searching.{size-there, size_none}
use Rattle.stores.proofs.size_at.Goals as goal

pub returns-then-entry-lt-ENTRY_LIMIT : goal.returns-then-entry-lt-ENTRY_LIMIT
returns-then-entry-lt-ENTRY_LIMIT c =
    let a = c.args in
    c.word_at.ensures ∙ sym (size-there a.«entry» a.store.now c.if-entry-lt-ENTRY_LIMIT.true)

pub returns : goal.returns
returns c =
    let a = c.args in
    sym (size_none a.«entry» a.store.now (omega (arith, c.if-entry-lt-ENTRY_LIMIT.false)))
