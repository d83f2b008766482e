-- `rows::ring` meets its contract: each of its ways out is a law of `Ending`, the last by `ring_chain`.
use mathlib.Core.Path.{sym, ◌∙◌, ap}
use Rattle.reading.specs.Answer.{answer_of}
use Rattle.rows.proofs.Ending.{refused-unread, refused-few, refused-many, refused-unchained, chained}
use Rattle.rows.proofs.ring.Goals as goal

pub returns-in_default : goal.returns-in_default
returns-in_default c =
    refused-unread c.args.term.now c.args.bells c.args.table.now _ (ap answer_of (sym c.unwrap_err.ensures) ∙ c.read-reading.ensures)

pub returns-then-bells-lt-FEWEST : goal.returns-then-bells-lt-FEWEST
returns-then-bells-lt-FEWEST c =
    refused-few c.args.term.now c.args.bells c.args.table.now c.in-Ok.size c.in-Ok.ensures c.if-bells-lt-FEWEST.true

pub returns-then-bells-gt-MOST : goal.returns-then-bells-gt-MOST
returns-then-bells-gt-MOST c =
    refused-many c.args.term.now c.args.bells c.args.table.now c.in-Ok.size c.in-Ok.ensures c.if-bells-gt-MOST.true

pub returns-then-not-is_chain : goal.returns-then-not-is_chain
returns-then-not-is_chain c =
    refused-unchained c.args.term.now c.args.bells c.args.table.now c.in-Ok.size c.in-Ok.ensures
    (sym c.is_chain.ensures ∙ c.if-not-is_chain.true)

pub ring_chain-requires : goal.ring_chain-requires
ring_chain-requires c =
    chained c.args.term.now c.args.bells c.args.table.now c.in-Ok.size c.in-Ok.ensures c.if-bells-lt-FEWEST.false
    c.if-bells-gt-MOST.false (sym c.is_chain.ensures ∙ c.if-not-is_chain.false)
