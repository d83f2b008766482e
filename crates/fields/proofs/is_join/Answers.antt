-- `fields::is_join` meets its contract: where the lengths fit, the byte in front and the texts decide.
use mathlib.Core.Path.{◌∙◌}
use mathlib.Core.Logic.{inl, inr}
use borrow.Author.Tests.{eq-eqb, ne_eqb}
use lib.Dec.{eqb}
use lib.Pointwise.{pointwise}
use Rattle.fields.proofs.Tests.{Second, three_made, three_missed}
use Rattle.fields.proofs.Joined.{join-length, join_decided}
use Rattle.fields.proofs.is_join.Goals.{then-first-head, else-first-head}
use Rattle.fields.proofs.is_join.Goals as goal

pub returns-then-rest-a : goal.returns-then-rest-a
returns-then-rest-a c =
    join-length c.args.w.now c.args.head c.in-Some.first.now c.args.a.now c.args.b.now c.in-Some.rest.now
    c.in-Some.ensures.cases.0 c.if-rest-a.true

pub returns-then-eq : goal.returns-then-eq
returns-then-eq c =
    let head = eqb c.in-Some.first.now c.args.head in
    let front = pointwise eqb c.split_at.result.0.now c.args.a.now in
    let came : Second head front c.if-first-head.value = elim c.if-first-head.branch [
      | then-first-head w ↦ inl (eq-eqb c.in-Some.first.now c.args.head w.if-first-head.true, w.value-is ∙ w.eq.ensures)
      | else-first-head w ↦ let apart = ne_eqb c.in-Some.first.now c.args.head w.if-first-head.false in inr (apart, w.value-is ∙ apart)
    ] in
    three_made head front (pointwise eqb c.split_at.result.1.now c.args.b.now) c.if-first-head.value c.eq-then-eq.result came c.if-eq.true
    c.eq-then-eq.ensures
    ∙ join_decided c.args.w.now c.args.head c.in-Some.first.now c.args.a.now c.args.b.now c.in-Some.rest.now
    c.in-Some.ensures.cases.0 c.split_at.result.0.now c.split_at.result.1.now c.split_at.ensures.front c.split_at.ensures.back

pub returns-else-eq : goal.returns-else-eq
returns-else-eq c =
    let head = eqb c.in-Some.first.now c.args.head in
    let front = pointwise eqb c.split_at.result.0.now c.args.a.now in
    let came : Second head front c.if-first-head.value = elim c.if-first-head.branch [
      | then-first-head w ↦ inl (eq-eqb c.in-Some.first.now c.args.head w.if-first-head.true, w.value-is ∙ w.eq.ensures)
      | else-first-head w ↦ let apart = ne_eqb c.in-Some.first.now c.args.head w.if-first-head.false in inr (apart, w.value-is ∙ apart)
    ] in
    three_missed head front (pointwise eqb c.split_at.result.1.now c.args.b.now) c.if-first-head.value came c.if-eq.false
    ∙ join_decided c.args.w.now c.args.head c.in-Some.first.now c.args.a.now c.args.b.now c.in-Some.rest.now
    c.in-Some.ensures.cases.0 c.split_at.result.0.now c.split_at.result.1.now c.split_at.ensures.front c.split_at.ensures.back
