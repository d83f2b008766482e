use mathlib.Core.Path.{◌≡◌, sym, ◌∙◌, ap}
use native.Mathlib.Omega.{arith}
use lib.ListN.{length, get_or}
use Rattle.reading.specs.Reply.{Reply}
use Rattle.reading.proofs.Scan.{no_letter, letter, already_whole, whole, not_yet_whole, arity-few, start}
use Rattle.reading.proofs.read.Goals as goal

pub loop-at-init : goal.loop-at-init
loop-at-init c = (omega arith, start c.args.s.now)

pub returns-then-owed-eq0 : goal.returns-then-owed-eq0
returns-then-owed-eq0 c =
    sym (already_whole c.loop-at.owed c.loop-at.at c.args.s.now c.loop-at-test.true c.if-owed-eq0.true) ∙
    c.loop-at.invariant.1

pub returns-in_default : goal.returns-in_default
returns-in_default c =
    sym (no_letter c.loop-at.owed c.loop-at.at c.args.s.now c.loop-at-test.true c.if-owed-eq0.false (sym c.in_default.is ∙ c.arity.ensures)) ∙ c.loop-at.invariant.1

pub overflow_add-owed : goal.overflow_add-owed
overflow_add-owed c =
    let few = arity-few (get_or c.args.s.now c.loop-at.at 0) c.in-Some.parts (sym c.in-Some.is ∙ c.arity.ensures) in omega arith

pub loop-at-preserved : goal.loop-at-preserved
loop-at-preserved c =
    let few = arity-few (get_or c.args.s.now c.loop-at.at 0) c.in-Some.parts (sym c.in-Some.is ∙ c.arity.ensures) in
    (omega arith, letter c.loop-at.owed c.loop-at.at c.in-Some.parts c.args.s.now c.loop-at-test.true c.if-owed-eq0.false (sym c.in-Some.is ∙ c.arity.ensures) ∙ c.loop-at.invariant.1)

pub returns-then-owed-eq0-2 : goal.returns-then-owed-eq0-2
returns-then-owed-eq0-2 c =
    let end : length c.args.s.now ≡ c.loop-at.at = omega arith in
    ap Reply.answered end ∙ sym (whole c.loop-at.owed c.loop-at.at c.args.s.now (omega arith) c.if-owed-eq0-2.true) ∙ c.loop-at.invariant.1

pub returns-else-owed-eq0-2 : goal.returns-else-owed-eq0-2
returns-else-owed-eq0-2 c =
    let end : length c.args.s.now ≡ c.loop-at.at = omega arith in
    ap (Reply.refused 6) end ∙
    sym (not_yet_whole c.loop-at.owed c.loop-at.at c.args.s.now (omega arith) c.if-owed-eq0-2.false) ∙ c.loop-at.invariant.1
