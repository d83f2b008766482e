-- `rows::ring_chain` meets its contract: each of its ways out is a law of `Ending`.
use Rattle.rows.proofs.Ending.{refused-uneven, refused-limit, refused-table, refused-bad, rung}
use Rattle.rows.proofs.ring_chain.Goals as goal

pub returns-then-struck-bells-ne0 : goal.returns-then-struck-bells-ne0
returns-then-struck-bells-ne0 c = refused-uneven c.args.chain.now c.args.bells c.args.table.now c.requires c.if-struck-bells-ne0.true

pub returns-then-count-gt-ROW_LIMIT : goal.returns-then-count-gt-ROW_LIMIT
returns-then-count-gt-ROW_LIMIT c =
    refused-limit c.args.chain.now c.args.bells c.args.table.now c.requires c.if-struck-bells-ne0.false c.if-count-gt-ROW_LIMIT.true

pub returns-then-table-count : goal.returns-then-table-count
returns-then-table-count c =
    refused-table c.args.chain.now c.args.bells c.args.table.now c.requires c.if-struck-bells-ne0.false c.if-table-count.true

pub returns-then-good-count : goal.returns-then-good-count
returns-then-good-count c =
    refused-bad c.args.chain.now c.args.bells c.args.table.now c.requires c.if-struck-bells-ne0.false
    c.if-count-gt-ROW_LIMIT.false c.if-table-count.false c.good-good.result c.good-good.ensures c.if-good-count.true

pub returns : goal.returns
returns c =
    rung c.args.chain.now c.args.bells c.args.table.now c.requires c.if-struck-bells-ne0.false
    c.if-count-gt-ROW_LIMIT.false c.if-table-count.false c.good-good.result c.lay-different.result
    c.lay-different.new.table c.zero_from.new.dst c.good-good.ensures c.if-good-count.false
    c.lay-different.ensures.wrote c.lay-different.ensures.counted c.zero_from.ensures
