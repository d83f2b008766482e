-- `book_lines::check_line` meets its contract: each of its four answers is a law of what is wrong with a line.
use mathlib.Core.Bool.{false}
use mathlib.Core.Path.{◌≡◌, refl, sym, ◌∙◌}
use native.Mathlib.Omega.{arith}
use Rattle.slices.specs.Split.{tab}
use Rattle.slices.proofs.Finding.{index_within}
use Rattle.book_lines.proofs.Judging.{malformed, name-given, name_unknown, sound}
use Rattle.book_lines.proofs.Using.{known}
use Rattle.book_lines.proofs.check_line.Goals as goal

pub overflow_add-tab : goal.overflow_add-tab
overflow_add-tab c = omega (arith, c.find-tab.ensures, index_within tab c.args.body.now)

pub returns-then-not-line : goal.returns-then-not-line
returns-then-not-line c =
    malformed c.args.body.now c.args.keys.now c.find-tab.result c.cut-name.result.now
    c.cut-piece.result.now c.find-tab.ensures c.cut-name.ensures c.cut-piece.ensures c.is_line-line.result
    c.is_line-line.ensures c.if-not-line.true

pub returns-then-given : goal.returns-then-given
returns-then-given c =
    let name = c.cut-name.result.now in
    let told = known name name c.args.keys.now c.is_in-given.ensures c.key.ensures refl in
    name-given c.args.body.now c.args.keys.now c.find-tab.result name
    c.cut-piece.result.now c.find-tab.ensures c.cut-name.ensures c.cut-piece.ensures c.is_line-line.result
    c.is_line-line.ensures (assumption)
    (told ∙ c.if-given.true)

pub returns-then-not-used : goal.returns-then-not-used
returns-then-not-used c =
    let name = c.cut-name.result.now in
    let fresh : c.is_in-given.result ≡ false = assumption in
    let told = known name name c.args.keys.now c.is_in-given.ensures c.key.ensures refl in
    name_unknown c.args.body.now c.args.keys.now c.find-tab.result name
    c.cut-piece.result.now c.find-tab.ensures c.cut-name.ensures c.cut-piece.ensures c.is_line-line.result
    c.is_line-line.ensures (assumption)
    (told ∙ fresh)
    (sym c.uses_given-used.ensures ∙ c.if-not-used.true)

pub returns : goal.returns
returns c =
    let name = c.cut-name.result.now in
    let fresh : c.is_in-given.result ≡ false = assumption in
    let told = known name name c.args.keys.now c.is_in-given.ensures c.key.ensures refl in
    sound c.args.body.now c.args.keys.now c.find-tab.result name c.cut-piece.result.now
    c.find-tab.ensures c.cut-name.ensures c.cut-piece.ensures c.is_line-line.result c.is_line-line.ensures
    (assumption)
    (told ∙ fresh)
    (sym c.uses_given-used.ensures ∙ c.if-not-used.false)
