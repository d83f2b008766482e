-- `book::play` meets its contract: each refusal, and what is made of a book that was read.
use Rattle.book_reading.specs.Answer.{answer_of}
use mathlib.Core.Path.{ap, ◌∙◌, sym}
use native.Mathlib.Omega.{arith}
use Rattle.books.proofs.Replies.{long-playing, work-playing, store-playing, fuel-playing}
use Rattle.book.proofs.Ending.{ends-unread}
use Rattle.book.proofs.play.Goals as goal

pub returns-then-area-gt-AREA_LIMIT : goal.returns-then-area-gt-AREA_LIMIT
returns-then-area-gt-AREA_LIMIT c =
    sym
    (long-playing c.args.book.now c.args.area.now c.args.work.now c.args.store.now c.args.fuel (omega (arith, c.if-area-gt-AREA_LIMIT.true)))

pub returns-then-work-area : goal.returns-then-work-area
returns-then-work-area c =
    sym
    (work-playing c.args.book.now c.args.area.now c.args.work.now c.args.store.now c.args.fuel (omega (arith, c.if-area-gt-AREA_LIMIT.false)) (omega (arith, c.if-work-area.true)))

pub returns-then-store-lt-STORE_SIZE : goal.returns-then-store-lt-STORE_SIZE
returns-then-store-lt-STORE_SIZE c =
    sym
    (store-playing c.args.book.now c.args.area.now c.args.work.now c.args.store.now c.args.fuel (omega (arith, c.if-area-gt-AREA_LIMIT.false)) (omega (arith, c.if-store-lt-STORE_SIZE.true)))

pub returns-then-fuel-gt-FUEL_LIMIT : goal.returns-then-fuel-gt-FUEL_LIMIT
returns-then-fuel-gt-FUEL_LIMIT c =
    sym
    (fuel-playing c.args.book.now c.args.area.now c.args.work.now c.args.store.now c.args.fuel (omega (arith, c.if-area-gt-AREA_LIMIT.false)) (omega (arith, c.if-work-area.false)) (omega (arith, c.if-store-lt-STORE_SIZE.false)) (omega (arith, c.if-fuel-gt-FUEL_LIMIT.true)))

pub returns-in_default : goal.returns-in_default
returns-in_default c =
    ends-unread c.args.book.now c.args.area.now c.args.work.now c.args.store.now c.args.fuel
    (record { short = omega (arith, c.if-area-gt-AREA_LIMIT.false); room = omega (arith, c.if-work-area.false); stored = omega (arith, c.if-store-lt-STORE_SIZE.false); fuelled = omega (arith, c.if-fuel-gt-FUEL_LIMIT.false) })
    _ (ap answer_of (sym c.unwrap_err.ensures) ∙ c.read_book-reading.ensures.0)
