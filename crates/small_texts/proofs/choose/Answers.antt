use Prim.Native.Nat.{ℕ, ◌+◌, ◌-◌}
use native.Mathlib.Omega.{arith}
use mathlib.Core.Path.{refl, sym, ◌∙◌, ap, subst}
use Rattle.std.specs.Option.{is_some}
use Rattle.reading.proofs.Scan.{arity-few}
use Rattle.small_texts.proofs.Choosing.{Untried, owes, some-arity, found, passed}
use Rattle.small_texts.proofs.choose.Goals as goal

pub unwrap-requires : goal.unwrap-requires
unwrap-requires c = ap is_some (c.arity.ensures ∙ sym (some-arity _ c.loop-b.b-index refl c.loop-b-test.true))

pub overflow_add-owed : goal.overflow_add-owed
overflow_add-owed c =
    let few = owes c.args.owing c.args.rest c.args.index c.requires.index_bound in
    let takes = arity-few _ c.unwrap.result (sym c.unwrap.ensures ∙ c.arity.ensures) in
    omega (arith, few, takes)

pub returns-then-left-begun : goal.returns-then-left-begun
returns-then-left-begun c =
    found c.args.owing c.args.rest c.args.index c.loop-b.b-index c.loop-b.left _ c.unwrap.result c.loop-b.invariant
    c.loop-b-test.true refl (sym c.unwrap.ensures ∙ c.arity.ensures) (omega (arith, c.if-left-begun.true, c.ways-begun.ensures))

pub loop-b-preserved : goal.loop-b-preserved
loop-b-preserved c =
    let a = c.args in
    subst (λ (k : ℕ). Untried a.owing a.rest a.index (c.loop-b.b-index + 1) (c.loop-b.left - k))
    (sym c.ways-begun.ensures)
    (passed a.owing a.rest a.index c.loop-b.b-index c.loop-b.left _ c.unwrap.result c.loop-b.invariant
    c.loop-b-test.true refl (sym c.unwrap.ensures ∙ c.arity.ensures) (omega (arith, c.if-left-begun.false, c.ways-begun.ensures)))
