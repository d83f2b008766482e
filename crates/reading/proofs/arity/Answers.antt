-- `reading::arity` meets its contract: each test names a letter, and `Scan` has its count.
use mathlib.Core.Path.{sym, ◌∙◌}
use Rattle.calculus.specs.Letter.{Letter}
use Rattle.reading.proofs.Scan.{arity-byte, arity-bell, arity-none, other}
use Rattle.reading.proofs.arity.Goals as goal

pub returns-then-b-eq-J : goal.returns-then-b-eq-J
returns-then-b-eq-J c = arity-byte Letter.J c.args.b c.if-b-eq-J.true

pub returns-then-b-eq-I : goal.returns-then-b-eq-I
returns-then-b-eq-I c = arity-byte Letter.I c.args.b c.if-b-eq-I.true

pub returns-then-b-eq-R : goal.returns-then-b-eq-R
returns-then-b-eq-R c = arity-byte Letter.R c.args.b c.if-b-eq-R.true

pub returns-then-b-eq-H : goal.returns-then-b-eq-H
returns-then-b-eq-H c = arity-byte Letter.H c.args.b c.if-b-eq-H.true

pub returns-then-b-eq-A : goal.returns-then-b-eq-A
returns-then-b-eq-A c = arity-byte Letter.A c.args.b c.if-b-eq-A.true

pub returns-then-b-eq-B : goal.returns-then-b-eq-B
returns-then-b-eq-B c = arity-byte Letter.B c.args.b c.if-b-eq-B.true

pub returns-then-b-eq-STOP : goal.returns-then-b-eq-STOP
returns-then-b-eq-STOP c = arity-byte Letter.stop c.args.b c.if-b-eq-STOP.true

pub returns-then-is_bell : goal.returns-then-is_bell
returns-then-is_bell c = arity-bell c.args.b (sym c.is_bell.ensures ∙ c.if-is_bell.true)

pub returns : goal.returns
returns c =
    arity-none c.args.b
    (other c.args.b c.if-b-eq-J.false c.if-b-eq-I.false c.if-b-eq-R.false c.if-b-eq-H.false c.if-b-eq-A.false c.if-b-eq-B.false c.if-b-eq-STOP.false (sym c.is_bell.ensures ∙ c.if-is_bell.false))
