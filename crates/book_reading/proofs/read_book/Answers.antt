-- `book_reading::read_book` meets its contract: the refusals of the whole in their order, then line by line.
use mathlib.Core.Path.{refl, sym, ◌∙◌, ap}
use native.Mathlib.Omega.{arith}
use Rattle.book_reading.specs.declared.Refused.TheVariants.{TooLong, Empty, NoLineEnd}
use Rattle.book_reading.specs.Table.{count_of, table_of}
use Rattle.book_reading.proofs.Lines.{last_byte_lem}
use Rattle.book_reading.proofs.Whole.{refuses, too_long, is-empty, no_line-end, line-by-line}
use Rattle.book_reading.proofs.read_book.Goals as goal

pub returns-then-book-gt-BOOK_LIMIT : goal.returns-then-book-gt-BOOK_LIMIT
returns-then-book-gt-BOOK_LIMIT c = refuses TooLong 10 0 refl (too_long c.args.book.now (omega arith))

pub returns-then-book-eq0 : goal.returns-then-book-eq0
returns-then-book-eq0 c = refuses Empty 11 0 refl (is-empty c.args.book.now (omega arith) c.if-book-eq0.true)

pub returns-then-byte_at-ne-LINE_FEED : goal.returns-then-byte_at-ne-LINE_FEED
returns-then-byte_at-ne-LINE_FEED c =
    let book = c.args.book.now in
    let some_byte = c.if-book-eq0.false in
    refuses NoLineEnd 12 0 refl
    (no_line-end book (omega arith) some_byte
    (λ e. c.if-byte_at-ne-LINE_FEED.true (c.byte_at.ensures ∙ sym (last_byte_lem book some_byte) ∙ e)))

pub read_lines-requires : goal.read_lines-requires
read_lines-requires c = last_byte_lem c.args.book.now c.if-book-eq0.false ∙ sym c.byte_at.ensures ∙ c.if-byte_at-ne-LINE_FEED.false

pub returns : goal.returns
returns c =
    let book = c.args.book.now in
    let some_byte = c.if-book-eq0.false in
    let last = last_byte_lem book some_byte ∙ sym c.byte_at.ensures ∙ c.if-byte_at-ne-LINE_FEED.false in
    let whole = line-by-line book (omega arith) some_byte last in
    (c.read_lines.ensures.0 ∙ ap count_of whole, c.read_lines.ensures.1 ∙ ap table_of whole)
