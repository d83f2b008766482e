-- `checking::check_claim` meets its contract: the refusals of the whole file in their order, then line by line.
use mathlib.Core.Path.{sym, ◌∙◌}
use native.Mathlib.Omega.{arith}
use Rattle.checking.proofs.Walk.{lines_counted, last_byte_lem, too_long, is-empty, no_line-end, too_many, line-by-line}
use Rattle.checking.proofs.check_claim.Goals as goal

pub returns-then-file-gt-FILE_LIMIT-clause-answer : goal.returns-then-file-gt-FILE_LIMIT-clause-answer
returns-then-file-gt-FILE_LIMIT-clause-answer c = too_long c.args.file.now (omega arith)

pub returns-then-file-eq0-clause-answer : goal.returns-then-file-eq0-clause-answer
returns-then-file-eq0-clause-answer c = is-empty c.args.file.now (omega arith) c.if-file-eq0.true

pub returns-then-byte_at-ne-LINE_FEED-clause-answer : goal.returns-then-byte_at-ne-LINE_FEED-clause-answer
returns-then-byte_at-ne-LINE_FEED-clause-answer c =
    let file = c.args.file.now in
    no_line-end file (omega arith) c.if-file-eq0.false
    (λ e. c.if-byte_at-ne-LINE_FEED.true (c.byte_at.ensures ∙ sym (last_byte_lem file c.if-file-eq0.false) ∙ e))

pub returns-then-line_count-gt-LINE_LIMIT-clause-answer : goal.returns-then-line_count-gt-LINE_LIMIT-clause-answer
returns-then-line_count-gt-LINE_LIMIT-clause-answer c =
    let file = c.args.file.now in
    too_many file (omega arith) c.if-file-eq0.false
    (last_byte_lem file c.if-file-eq0.false ∙ sym c.byte_at.ensures ∙ c.if-byte_at-ne-LINE_FEED.false)
    (omega (arith, c.line_count.ensures, lines_counted file))

pub check_lines-requires : goal.check_lines-requires
check_lines-requires c =
    let file = c.args.file.now in (
      last_byte_lem file c.if-file-eq0.false ∙ sym c.byte_at.ensures ∙ c.if-byte_at-ne-LINE_FEED.false,
      omega (arith, c.line_count.ensures, lines_counted file),
    )

pub returns-clause-answer : goal.returns-clause-answer
returns-clause-answer c =
    let file = c.args.file.now in
    c.check_lines.ensures.answer
    ∙ line-by-line file (omega arith) c.if-file-eq0.false
    (last_byte_lem file c.if-file-eq0.false ∙ sym c.byte_at.ensures ∙ c.if-byte_at-ne-LINE_FEED.false)
    (omega (arith, c.line_count.ensures, lines_counted file))
