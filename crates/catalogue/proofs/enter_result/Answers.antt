-- `catalogue::enter_result` meets its contract: each of its ways out is a law of `Ending`.
use Rattle.catalogue.proofs.Ending.{within, entered-known, refused-count, refused-letters, writable, entered-new}
use Rattle.catalogue.proofs.enter_result.Goals as goal

pub returns-in-Some : goal.returns-in-Some
returns-in-Some c =
    entered-known c.args.term.now c.args.store.now c.requires c.fingerprint-print.result c.fingerprint-print.ensures c.in-Some.number
    c.in-Some.ensures

pub returns-then-kept-ge-ENTRY_LIMIT : goal.returns-then-kept-ge-ENTRY_LIMIT
returns-then-kept-ge-ENTRY_LIMIT c =
    refused-count c.args.term.now c.args.store.now c.requires c.fingerprint-print.result c.fingerprint-print.ensures c.in_default.ensures
    c.if-kept-ge-ENTRY_LIMIT.true

pub overflow_sub-kept : goal.overflow_sub-kept
overflow_sub-kept c = within c.args.term.now c.args.store.now c.requires

pub returns-then-kept-term : goal.returns-then-kept-term
returns-then-kept-term c =
    refused-letters c.args.term.now c.args.store.now c.requires c.fingerprint-print.result c.fingerprint-print.ensures c.in_default.ensures
    c.if-kept-term.true

pub write-requires : goal.write-requires
write-requires c = writable c.args.term.now c.args.store.now c.requires c.if-kept-ge-ENTRY_LIMIT.false c.if-kept-term.false

pub returns : goal.returns
returns c =
    entered-new c.args.term.now c.args.store.now c.requires c.fingerprint-print.result c.fingerprint-print.ensures c.in_default.ensures
    c.if-kept-ge-ENTRY_LIMIT.false c.if-kept-term.false c.write.new.store c.write.ensures
