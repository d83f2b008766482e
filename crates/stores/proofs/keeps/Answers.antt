use Prim.Native.Nat.{ℕ}
use mathlib.Core.Path.{sym, ◌∙◌, ap}
use mathlib.Core.Bool.{Bool}
use mathlib.Core.List.{List}
use native.Mathlib.Omega.{arith}
use lib.ListN.{length, replicate}
use Rattle.slices.specs.Same.{same}
use Rattle.stores.proofs.Replaying.{replay_start, replay-within, replay-few, replay-stop, replay-turn, replay-unused, replay-behind, replay-keeps, short-keeps}
use Rattle.stores.proofs.keeps.Goals as goal

-- all zeros, of a part
abbrev zeros : List ℕ → Bool
zeros s = same s (replicate (length s) 0)

pub returns-then-store-lt-STORE_SIZE : goal.returns-then-store-lt-STORE_SIZE
returns-then-store-lt-STORE_SIZE c = short-keeps c.args.store.now c.if-store-lt-STORE_SIZE.true

pub loop-size-init : goal.loop-size-init
loop-size-init c = (
  replay_start c.args.store.now c.if-store-lt-STORE_SIZE.false (λ i. omega (arith, c.type_inv.store i)),
  c.size_at-size.ensures,
  omega arith,
  omega arith,
)

pub returns-then-not-may_follow : goal.returns-then-not-may_follow
returns-then-not-may_follow c =
    replay-stop c.loop-size.invariant.0 c.loop-size.size c.loop-size.invariant.1 c.loop-size-test.true
    (sym c.may_follow.ensures ∙ c.if-not-may_follow.true)

pub overflow_add-kept-in-loop-size : goal.overflow_add-kept-in-loop-size
overflow_add-kept-in-loop-size c =
    let more =
    replay-turn c.loop-size.invariant.0 c.loop-size.size c.loop-size.invariant.1 c.loop-size-test.true
    (sym c.may_follow.ensures ∙ c.if-not-may_follow.false) in
    omega (arith, (replay-within more).1)

pub loop-size-smaller : goal.loop-size-smaller
loop-size-smaller c =
    let few = replay-few c.loop-size.invariant.0 c.loop-size.size c.loop-size.invariant.1 c.loop-size-test.true in
    omega arith

pub loop-size-preserved : goal.loop-size-preserved
loop-size-preserved c =
    let more =
    replay-turn c.loop-size.invariant.0 c.loop-size.size c.loop-size.invariant.1 c.loop-size-test.true
    (sym c.may_follow.ensures ∙ c.if-not-may_follow.false) in
    let within = replay-within more in
    (more, c.size_at-size-in-loop-size.ensures, within.0, within.1)

pub returns-then-not-is_zeros : goal.returns-then-not-is_zeros
returns-then-not-is_zeros c =
    replay-unused c.loop-size.invariant.0 (sym c.loop-size.invariant.1 ∙ c.loop-size-test.false)
    (ap zeros (sym c.cut.ensures) ∙ sym c.is_zeros.ensures ∙ c.if-not-is_zeros.true)

pub returns-then-not-is_zeros-2 : goal.returns-then-not-is_zeros-2
returns-then-not-is_zeros-2 c =
    replay-behind c.loop-size.invariant.0 (sym c.loop-size.invariant.1 ∙ c.loop-size-test.false)
    (ap zeros (sym c.cut-2.ensures) ∙ sym c.is_zeros-2.ensures ∙ c.if-not-is_zeros-2.true)

pub returns : goal.returns
returns c =
    replay-keeps c.loop-size.invariant.0 (sym c.loop-size.invariant.1 ∙ c.loop-size-test.false)
    (ap zeros (sym c.cut.ensures) ∙ sym c.is_zeros.ensures ∙ c.if-not-is_zeros.false)
    (ap zeros (sym c.cut-2.ensures) ∙ sym c.is_zeros-2.ensures ∙ c.if-not-is_zeros-2.false)
