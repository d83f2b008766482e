-- `stores::may_follow` meets its contract, test by test; the text is the part of the store that was cut.
use Prim.Native.Nat.{ℕ}
use mathlib.Core.Path.{sym, ◌∙◌, ap, ap₂}
use lib.Dec.{eqb}
use Rattle.fingerprints.specs.Print.{print_of}
use Rattle.stores.specs.Search.{number_in, is_result}
use Rattle.stores.proofs.Searching.{too_long, no_result, other-print, print-agrees, none-numbered}
use Rattle.stores.proofs.may_follow.Goals as goal

pub returns-then-kept-size : goal.returns-then-kept-size
returns-then-kept-size c =
    let a = c.args in
    too_long a.kept.count a.kept.used a.size a.store.now c.if-kept-size.true c.requires.1

pub returns-then-not-is_result : goal.returns-then-not-is_result
returns-then-not-is_result c =
    let a = c.args in
    no_result a.kept.count a.kept.used a.size a.store.now c.if-kept-size.false c.requires.1
    (ap is_result (sym c.cut-result.ensures) ∙ sym c.is_result.ensures ∙ c.if-not-is_result.true)

pub returns-then-word_at-print : goal.returns-then-word_at-print
returns-then-word_at-print c =
    let a = c.args in
    let cut-is = c.cut-result.ensures in
    other-print a.kept.count a.kept.used a.size a.store.now c.if-kept-size.false c.requires.1
    (ap is_result (sym cut-is) ∙ sym c.is_result.ensures ∙ c.if-not-is_result.false)
    (λ e. c.if-word_at-print.true (c.word_at.ensures ∙ e ∙ ap print_of (sym cut-is) ∙ sym c.fingerprint-print.ensures))

pub returns : goal.returns
returns c =
    let a = c.args in
    let cut-is = c.cut-result.ensures in
    let print-is = c.fingerprint-print.ensures ∙ ap print_of cut-is in
    none-numbered _ c.number_of.result c.is_none.result c.number_of.ensures c.is_none.ensures
    ∙ ap (λ (n : ℕ). eqb n 0) (ap₂ (number_in a.kept.count a.kept.used a.store.now) cut-is print-is)
    ∙ print-agrees a.kept.count a.kept.used a.size a.store.now c.if-kept-size.false c.requires.1
    (ap is_result (sym cut-is) ∙ sym c.is_result.ensures ∙ c.if-not-is_result.false)
    (sym c.word_at.ensures ∙ c.if-word_at-print.false ∙ print-is)
