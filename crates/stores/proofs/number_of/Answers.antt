use Prim.Native.Nat.{◌-◌}
use mathlib.Core.Path.{sym, ◌∙◌, ap}
use native.Mathlib.Omega.{arith}
use Rattle.stores.specs.Search.{numbered}
use Rattle.stores.proofs.Searching.{number-inside, number-past-count, number-past-used, found_here, found_before, next-numbered}
use Rattle.stores.proofs.number_of.Goals as goal

pub returns-then-kept-gt-ENTRY_LIMIT : goal.returns-then-kept-gt-ENTRY_LIMIT
returns-then-kept-gt-ENTRY_LIMIT c =
    let a = c.args in
    ap numbered (number-past-count a.store.now a.res.now a.print a.kept.count a.kept.used c.if-kept-gt-ENTRY_LIMIT.true)

pub returns-then-kept-gt-LETTER_LIMIT : goal.returns-then-kept-gt-LETTER_LIMIT
returns-then-kept-gt-LETTER_LIMIT c =
    let a = c.args in
    ap numbered
    (number-past-used a.store.now a.res.now a.print a.kept.count a.kept.used c.if-kept-gt-ENTRY_LIMIT.false c.if-kept-gt-LETTER_LIMIT.true)

pub loop-entry-init : goal.loop-entry-init
loop-entry-init c =
    let a = c.args in
    let few = c.if-kept-gt-ENTRY_LIMIT.false in
    let short = c.if-kept-gt-LETTER_LIMIT.false in
    (few, short, number-inside a.store.now a.res.now a.print a.kept.count a.kept.used few short)

pub returns-then-is_at : goal.returns-then-is_at
returns-then-is_at c =
    let a = c.args in
    next-numbered (c.loop-entry.entry - 1)
    ∙ ap numbered
    (found_here a.store.now a.res.now a.print c.loop-entry.entry c.loop-entry.end (c.loop-entry.entry - 1) c.saturating_sub-start.result
    (omega arith)
    (c.saturating_sub-start.ensures ∙ ap (λ n. c.loop-entry.end - n) c.size_at.ensures) (sym c.is_at.ensures ∙ c.if-is_at.true)
    ∙ c.loop-entry.invariant.2)

pub loop-entry-preserved : goal.loop-entry-preserved
loop-entry-preserved c =
    let a = c.args in (
      omega arith,
      omega (arith, c.saturating_sub-start.ensures),
      found_before a.store.now a.res.now a.print c.loop-entry.entry c.loop-entry.end (c.loop-entry.entry - 1) c.saturating_sub-start.result
          (omega arith)
          (c.saturating_sub-start.ensures ∙ ap (λ n. c.loop-entry.end - n) c.size_at.ensures) (sym c.is_at.ensures ∙ c.if-is_at.false)
          ∙ c.loop-entry.invariant.2,
    )
