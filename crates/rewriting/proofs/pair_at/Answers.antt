-- `rewriting::pair_at` meets its contract: each test picks the case of its letter.
use mathlib.Core.Path.{sym, ◌∙◌, ap}
use Prim.Native.Nat.{ℕ, ◌+◌}
use Rattle.std.specs.Prelude.{Some, None}
use Rattle.calculus.specs.Letter.{Letter, byte}
use Rattle.parts.specs.Ends.{listed}
use Rattle.rewriting.specs.Rewriting.{between, nothing, spread}
use Rattle.rewriting.proofs.Tested.{Other, pair-letter, pair-bell, pair-others}
use Rattle.rewriting.proofs.pair_at.Goals as goal

pub returns-then-head-eq-J : goal.returns-then-head-eq-J
returns-then-head-eq-J c =
    let a = c.args in
    let end_of = listed a.text.ends.now in
    ap Some c.picked.ensures
    ∙ pair-letter end_of a.text.letters.now a.p a.mid a.end c.letter_at-head.result c.letter_at-head.ensures Letter.J
    c.if-head-eq-J.true

pub returns-then-head-eq-R : goal.returns-then-head-eq-R
returns-then-head-eq-R c =
    let a = c.args in
    let end_of = listed a.text.ends.now in
    ap Some c.picked-then-head-eq-R.ensures
    ∙ pair-letter end_of a.text.letters.now a.p a.mid a.end c.letter_at-head.result c.letter_at-head.ensures Letter.R
    c.if-head-eq-R.true

pub returns-then-head-eq-I : goal.returns-then-head-eq-I
returns-then-head-eq-I c =
    let a = c.args in
    let end_of = listed a.text.ends.now in
    ap Some c.picked-then-head-eq-I.ensures
    ∙ pair-letter end_of a.text.letters.now a.p a.mid a.end c.letter_at-head.result c.letter_at-head.ensures Letter.I
    c.if-head-eq-I.true

pub returns-then-is_bell : goal.returns-then-is_bell
returns-then-is_bell c =
    let a = c.args in
    let end_of = listed a.text.ends.now in
    ap Some c.picked-then-is_bell.ensures
    ∙ pair-bell end_of a.text.letters.now a.p a.mid a.end c.letter_at-head.result c.letter_at-head.ensures
    (sym c.is_bell.ensures ∙ c.if-is_bell.true)

pub returns-then-head-eq-H : goal.returns-then-head-eq-H
returns-then-head-eq-H c =
    let a = c.args in
    let end_of = listed a.text.ends.now in
    let pair = between a.p a.end in
    ap Some c.spread.ensures
    ∙ ap (λ (k : ℕ). Some (spread 8 (a.p + 1) None pair (between (a.end + 1) k) pair)) c.end_of-third.ensures.value
    ∙ pair-letter end_of a.text.letters.now a.p a.mid a.end c.letter_at-head.result c.letter_at-head.ensures Letter.H
    c.if-head-eq-H.true

pub returns-then-head-eq-A : goal.returns-then-head-eq-A
returns-then-head-eq-A c =
    let a = c.args in
    let end_of = listed a.text.ends.now in
    let pair = between a.p a.end in
    ap Some c.spread-then-head-eq-A.ensures
    ∙ ap (λ (k : ℕ). Some (spread 9 a.p (Some (byte Letter.A)) pair (between (a.end + 1) k) nothing)) c.end_of-third.ensures.value
    ∙ pair-letter end_of a.text.letters.now a.p a.mid a.end c.letter_at-head.result c.letter_at-head.ensures Letter.A
    c.if-head-eq-A.true

pub returns-then-head-eq-B : goal.returns-then-head-eq-B
returns-then-head-eq-B c =
    let a = c.args in
    let end_of = listed a.text.ends.now in
    let pair = between a.p a.end in
    ap Some c.spread-then-head-eq-B.ensures
    ∙ ap (λ (k : ℕ). Some (spread 11 a.p (Some (byte Letter.B)) pair (between (a.end + 1) k) pair)) c.end_of-third.ensures.value
    ∙ pair-letter end_of a.text.letters.now a.p a.mid a.end c.letter_at-head.result c.letter_at-head.ensures Letter.B
    c.if-head-eq-B.true

pub returns : goal.returns
returns c =
    let a = c.args in
    let end_of = listed a.text.ends.now in
    let other : Other c.letter_at-head.result =
    record {
      no_J = c.if-head-eq-J.false;
      no_R = c.if-head-eq-R.false;
      no_H = c.if-head-eq-H.false;
      no_A = c.if-head-eq-A.false;
      no_I = c.if-head-eq-I.false;
      no_B = c.if-head-eq-B.false;
      no_bell = sym c.is_bell.ensures ∙ c.if-is_bell.false;
    } in
    pair-others end_of a.text.letters.now a.p a.mid a.end c.letter_at-head.result c.letter_at-head.ensures other
