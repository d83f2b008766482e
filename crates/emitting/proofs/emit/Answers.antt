-- `emitting::emit` meets its contract: the letter of the part in focus is written, and what is next follows by what it is.
use native.Mathlib.Omega.{arith}
use mathlib.Core.Bool.{false≢true}
use Rattle.emitting.proofs.Letter.{cur-inside, list_inside, emitted-R, emitted-two, emitted-last, emitted-next, bare-two, bare-next}
use Rattle.emitting.proofs.Heads.{count-is, count-not}
use Rattle.emitting.proofs.emit.Goals as goal

pub offset_bounds-cells-cur : goal.offset_bounds-cells-cur
offset_bounds-cells-cur c = omega (arith, cur-inside c.requires, c.requires.room.few)

pub bounds-cells-cur : goal.bounds-cells-cur
bounds-cells-cur c = cur-inside c.requires

pub returns-then-letter-eq-R : goal.returns-then-letter-eq-R
returns-then-letter-eq-R c =
    record {
      emitted = emitted-R c.requires c.letter_in-letter.result c.letter_in-letter.ensures c.first_in.result c.if-letter-eq-R.true c.first_in.ensures;
      bare = λ e. c.requires.bare;
    }

pub link-requires : goal.link-requires
link-requires c =
    record {
      free = c.requires.room;
      short = (omega arith, omega (arith, list_inside c.requires, c.requires.room.few));
    }

pub returns-then-eq : goal.returns-then-eq
returns-then-eq c =
    record {
      emitted = emitted-two c.requires c.letter_in-letter.result c.letter_in-letter.ensures c.arity.result c.arity.ensures _ _ c.link.new.cells (count-is c.eq.ensures c.if-eq.true)
          (assumption) (assumption) c.link.ensures;
      bare = λ e. bare-two c.requires c.letter_in-letter.result c.letter_in-letter.ensures c.arity.result c.arity.ensures _ c.link.new.cells (count-is c.eq.ensures c.if-eq.true)
          (assumption) c.link.ensures;
    }

pub returns-then-list-eq0 : goal.returns-then-list-eq0
returns-then-list-eq0 c =
    record {
      emitted = emitted-last c.requires c.letter_in-letter.result c.letter_in-letter.ensures c.arity.result c.arity.ensures c.if-letter-eq-R.false (count-not c.eq.ensures c.if-eq.false) c.if-list-eq0.true;
      bare = λ e. absurd (false≢true e);
    }

pub offset_bounds-cells-list : goal.offset_bounds-cells-list
offset_bounds-cells-list c = omega (arith, list_inside c.requires, c.requires.room.few)

pub bounds-cells-list : goal.bounds-cells-list
bounds-cells-list c = list_inside c.requires

pub returns : goal.returns
returns c =
    record {
      emitted = emitted-next c.requires c.letter_in-letter.result c.letter_in-letter.ensures c.arity.result c.arity.ensures c.if-letter-eq-R.false (count-not c.eq.ensures c.if-eq.false)
          c.first_in-2.result c.second_in.result c.if-list-eq0.false c.first_in-2.ensures c.second_in.ensures;
      bare = λ e. bare-next c.requires c.second_in.result c.if-list-eq0.false c.second_in.ensures;
    }
