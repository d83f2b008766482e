use mathlib.Core.Path.{sym, ◌∙◌}
use native.Mathlib.Omega.{arith}
use lib.ListN.{get_or}
use Rattle.reading.proofs.Scan.{arity-few}
use Rattle.book_lines.proofs.Scanning.{piece-start, nothing-owed, no_letter, one-letter}
use Rattle.book_lines.proofs.Scanning.{left_open, not-name, one-use}
use Rattle.book_lines.proofs.is_piece.Goals as goal

pub loop-at-init : goal.loop-at-init
loop-at-init c = (omega arith, omega arith, piece-start c.args.s.now)

pub returns-then-owed-eq0 : goal.returns-then-owed-eq0
returns-then-owed-eq0 c =
    nothing-owed c.loop-at.owed c.loop-at.at c.args.s.now c.loop-at-test.true
    (omega arith) ∙ c.loop-at.invariant.2

pub returns-then-s-end : goal.returns-then-s-end
returns-then-s-end c =
    left_open c.loop-at.owed c.loop-at.at c.args.s.now c.loop-at-test.true c.if-owed-eq0.false
    c.find_from-end.result c.if-s-at-eq-OPEN.true c.find_from-end.ensures (omega arith) ∙ c.loop-at.invariant.2

pub returns-then-not-is_name : goal.returns-then-not-is_name
returns-then-not-is_name c =
    not-name c.loop-at.owed c.loop-at.at c.args.s.now c.loop-at-test.true c.if-owed-eq0.false
    c.find_from-end.result c.if-s-at-eq-OPEN.true c.find_from-end.ensures c.if-s-end.false
    (sym c.is_name.ensures ∙ c.if-not-is_name.true) ∙ c.loop-at.invariant.2

pub loop-at-preserved-then-s-at-eq-OPEN : goal.loop-at-preserved-then-s-at-eq-OPEN
loop-at-preserved-then-s-at-eq-OPEN c =
    let found = c.find_from-end.ensures in
    let named = sym c.is_name.ensures ∙ c.if-not-is_name.false in (
      omega arith,
      omega arith,
      one-use c.loop-at.owed c.loop-at.at c.args.s.now c.loop-at-test.true c.if-owed-eq0.false
          c.find_from-end.result c.if-s-at-eq-OPEN.true found c.if-s-end.false named
          ∙ c.loop-at.invariant.2,
    )

pub returns-in_default : goal.returns-in_default
returns-in_default c =
    no_letter c.loop-at.owed c.loop-at.at c.args.s.now c.loop-at-test.true c.if-owed-eq0.false c.if-s-at-eq-OPEN.false
    (sym c.in_default.is ∙ c.arity.ensures) ∙ c.loop-at.invariant.2

pub overflow_add-owed : goal.overflow_add-owed
overflow_add-owed c =
    let few = arity-few (get_or c.args.s.now c.loop-at.at 0) c.in-Some.parts (sym c.in-Some.is ∙ c.arity.ensures) in
    omega arith

pub loop-at-preserved : goal.loop-at-preserved
loop-at-preserved c =
    let counts = sym c.in-Some.is ∙ c.arity.ensures in
    let few = arity-few (get_or c.args.s.now c.loop-at.at 0) c.in-Some.parts counts in (
      omega arith,
      omega arith,
      one-letter c.loop-at.owed c.loop-at.at c.args.s.now c.loop-at-test.true c.if-owed-eq0.false c.if-s-at-eq-OPEN.false c.in-Some.parts counts
          ∙ c.loop-at.invariant.2,
    )
