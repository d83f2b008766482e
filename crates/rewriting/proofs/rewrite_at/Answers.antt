-- `rewriting::rewrite_at` meets its contract: each test picks the case of its letter.
use mathlib.Core.Path.{sym, ◌∙◌, ap}
use Rattle.std.specs.Prelude.{Some}
use Rattle.calculus.specs.Letter.{Letter}
use Rattle.parts.specs.Ends.{listed}
use Rattle.rewriting.proofs.Tested.{Other, rewrite-letter, rewrite-bell, rewrite-others, rewrite_past, pair_of_lem, closure_of_lem}
use Rattle.rewriting.proofs.rewrite_at.Goals as goal

pub returns-then-text-p : goal.returns-then-text-p
returns-then-text-p c =
    let a = c.args in
    let end_of = listed a.text.ends.now in
    rewrite_past end_of a.text.letters.now a.p c.if-text-p.true

pub returns-then-head-eq-J : goal.returns-then-head-eq-J
returns-then-head-eq-J c =
    let a = c.args in
    let end_of = listed a.text.ends.now in
    ap Some c.frozen.ensures ∙ rewrite-letter end_of a.text.letters.now a.p c.letter_at-head.result c.letter_at-head.ensures Letter.J
    c.if-head-eq-J.true

pub returns-then-head-eq-R : goal.returns-then-head-eq-R
returns-then-head-eq-R c =
    let a = c.args in
    let end_of = listed a.text.ends.now in
    ap Some c.frozen-then-head-eq-R.ensures ∙ rewrite-letter end_of a.text.letters.now a.p c.letter_at-head.result c.letter_at-head.ensures Letter.R
    c.if-head-eq-R.true

pub returns-then-head-eq-H : goal.returns-then-head-eq-H
returns-then-head-eq-H c =
    let a = c.args in
    let end_of = listed a.text.ends.now in
    ap Some c.frozen-then-head-eq-H.ensures ∙ rewrite-letter end_of a.text.letters.now a.p c.letter_at-head.result c.letter_at-head.ensures Letter.H
    c.if-head-eq-H.true

pub returns-then-head-eq-I : goal.returns-then-head-eq-I
returns-then-head-eq-I c =
    let a = c.args in
    let end_of = listed a.text.ends.now in
    ap Some c.picked.ensures ∙ rewrite-letter end_of a.text.letters.now a.p c.letter_at-head.result c.letter_at-head.ensures Letter.I
    c.if-head-eq-I.true

pub returns-then-head-eq-A : goal.returns-then-head-eq-A
returns-then-head-eq-A c =
    let a = c.args in
    let end_of = listed a.text.ends.now in
    ap Some c.entered.ensures
    ∙ closure_of_lem end_of a.text.letters.now a.p c.end_of-end.result c.end_of.result c.end_of-end.ensures.value
    c.end_of.ensures.value
    ∙ rewrite-letter end_of a.text.letters.now a.p c.letter_at-head.result c.letter_at-head.ensures Letter.A c.if-head-eq-A.true

pub pair_at-requires : goal.pair_at-requires
pair_at-requires c = (c.if-text-p.false, c.end_of-end-then-head-eq-B.ensures.bounded)

pub returns-then-head-eq-B : goal.returns-then-head-eq-B
returns-then-head-eq-B c =
    let a = c.args in
    let end_of = listed a.text.ends.now in
    c.pair_at.ensures
    ∙ pair_of_lem end_of a.text.letters.now a.p c.end_of-mid.result c.end_of-end-then-head-eq-B.result c.end_of-mid.ensures.value
    c.end_of-end-then-head-eq-B.ensures.value
    ∙ rewrite-letter end_of a.text.letters.now a.p c.letter_at-head.result c.letter_at-head.ensures Letter.B c.if-head-eq-B.true

pub returns-then-is_bell : goal.returns-then-is_bell
returns-then-is_bell c =
    let a = c.args in
    let end_of = listed a.text.ends.now in
    ap Some c.frozen-then-is_bell.ensures
    ∙ rewrite-bell end_of a.text.letters.now a.p c.letter_at-head.result c.letter_at-head.ensures
    (sym c.is_bell.ensures ∙ c.if-is_bell.true)

pub returns : goal.returns
returns c =
    let a = c.args in
    let end_of = listed a.text.ends.now in
    let other : Other c.letter_at-head.result =
    record {
      no_J = c.if-head-eq-J.false;
      no_R = c.if-head-eq-R.false;
      no_H = c.if-head-eq-H.false;
      no_A = c.if-head-eq-A.false;
      no_I = c.if-head-eq-I.false;
      no_B = c.if-head-eq-B.false;
      no_bell = sym c.is_bell.ensures ∙ c.if-is_bell.false;
    } in
    rewrite-others end_of a.text.letters.now a.p c.letter_at-head.result c.letter_at-head.ensures other
