-- `emitting::close_one` meets its contract: the first frame and the part are made into one application.
use native.Mathlib.Omega.{arith}
use mathlib.Core.Path.{refl}
use Rattle.emitting.proofs.Frames.{frame-inside, joinable-argument, closed-argument, joinable-function, closed-function}
use Rattle.emitting.proofs.close_one.Goals as goal

pub offset_bounds-cells-list : goal.offset_bounds-cells-list
offset_bounds-cells-list c = omega (arith, frame-inside c.requires.closable, c.requires.closable.few)

pub bounds-cells-list : goal.bounds-cells-list
bounds-cells-list c = frame-inside c.requires.closable

pub node-requires : goal.node-requires
node-requires c =
    let joins =
    joinable-argument c.requires.closable c.letter_in.result c.first_in-other.result c.second_in-rest.result c.letter_in.ensures c.first_in-other.ensures c.second_in-rest.ensures c.if-letter_in-eq-ARGUMENT.true in
    omega (arith, joins)

pub returns-then-letter_in-eq-ARGUMENT : goal.returns-then-letter_in-eq-ARGUMENT
returns-then-letter_in-eq-ARGUMENT c =
    let closed =
    closed-argument c.requires.closable c.letter_in.result c.first_in-other.result c.second_in-rest.result c.letter_in.ensures c.first_in-other.ensures c.second_in-rest.ensures c.if-letter_in-eq-ARGUMENT.true
    c.node.new.cells c.node.ensures in
    record {
      closed = closed.0;
      nearer = (closed.1, refl);
    }

pub node-requires-2 : goal.node-requires-2
node-requires-2 c =
    let joins =
    joinable-function c.requires.closable c.letter_in.result c.first_in-other.result c.second_in-rest.result c.letter_in.ensures c.first_in-other.ensures c.second_in-rest.ensures c.requires.framed
    c.if-letter_in-eq-ARGUMENT.false in
    omega (arith, joins)

pub returns : goal.returns
returns c =
    let closed =
    closed-function c.requires.closable c.letter_in.result c.first_in-other.result c.second_in-rest.result c.letter_in.ensures c.first_in-other.ensures c.second_in-rest.ensures c.requires.framed
    c.if-letter_in-eq-ARGUMENT.false c.node-2.new.cells c.node-2.ensures in
    record {
      closed = closed.0;
      nearer = (closed.1, refl);
    }
