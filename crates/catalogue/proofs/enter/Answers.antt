-- `catalogue::enter` meets its contract: each of its ways out is a law of `Ending`, the last by `enter_result`.
use mathlib.Core.Path.{sym, ◌∙◌, ap}
use Rattle.reading.specs.Answer.{answer_of}
use Rattle.catalogue.proofs.Ending.{refused-short, refused-no-catalogue, refused-unread, refused-stop, ready}
use Rattle.catalogue.proofs.enter.Goals as goal

pub returns-then-store-lt-STORE_SIZE : goal.returns-then-store-lt-STORE_SIZE
returns-then-store-lt-STORE_SIZE c = refused-short c.args.term.now c.args.store.now c.if-store-lt-STORE_SIZE.true

pub returns-in_default : goal.returns-in_default
returns-in_default c =
    refused-no-catalogue c.args.term.now c.args.store.now c.if-store-lt-STORE_SIZE.false c.in_default.ensures

pub returns-in_default-reading : goal.returns-in_default-reading
returns-in_default-reading c =
    refused-unread c.args.term.now c.args.store.now c.if-store-lt-STORE_SIZE.false c.in-Some.kept c.in-Some.ensures _
    (ap answer_of (sym c.unwrap_err.ensures) ∙ c.read-reading.ensures)

pub returns-then-has_stop : goal.returns-then-has_stop
returns-then-has_stop c =
    refused-stop c.args.term.now c.args.store.now c.if-store-lt-STORE_SIZE.false c.in-Some.kept c.in-Some.ensures
    _ c.in-Ok.ensures (sym c.has_stop.ensures ∙ c.if-has_stop.true)

pub enter_result-requires : goal.enter_result-requires
enter_result-requires c =
    ready c.args.term.now c.args.store.now c.if-store-lt-STORE_SIZE.false c.in-Some.kept c.in-Some.ensures
    _ c.in-Ok.ensures (sym c.has_stop.ensures ∙ c.if-has_stop.false)
