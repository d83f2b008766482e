-- `loading::load_letter` meets its contract: each branch writes the cell of one kind of letter.
use native.Mathlib.Omega.{arith}
use mathlib.Core.Path.{◌≡◌, sym, ◌∙◌}
use Rattle.cells.proofs.Keeping.{kept_set}
use Rattle.loading.proofs.Stacking.{stacked-low, one-is-R, one-fits, one-stacked, two_fits, two-joinable, two-kept, two-stacked, leaf-stacked}
use Rattle.loading.proofs.load_letter.Goals as goal

pub overflow_sub-first : goal.overflow_sub-first
overflow_sub-first c = stacked-low c.requires.1.stacked

pub overflow_sub-second : goal.overflow_sub-second
overflow_sub-second c =
    let parts = rw c.arity.ensures at (sym c.unwrap_or.ensures) ∙ c.in-2.is in
    omega (arith, two_fits c.args.letter c.size_in.result c.size_in.ensures.value parts c.requires.1)

pub node-requires : goal.node-requires
node-requires c =
    let parts = rw c.arity.ensures at (sym c.unwrap_or.ensures) ∙ c.in-2.is in
    two-joinable c.args.letter c.size_in.result c.size_in.ensures.value parts c.requires.1

pub returns-in-2 : goal.returns-in-2
returns-in-2 c =
    let a = c.args in
    let parts = rw c.arity.ensures at (sym c.unwrap_or.ensures) ∙ c.in-2.is in
    record {
      kept = two-kept a.cells.now c.node.new.cells a.top a.letter c.size_in.result c.node.ensures;
      stacked = λ terms turn. two-stacked a.letter c.size_in.result c.size_in.ensures.value parts turn c.node.new.cells c.node.ensures;
    }

pub packed-requires : goal.packed-requires
packed-requires c =
    let turn = c.requires.1 in
    let parts = rw c.arity.ensures at (sym c.unwrap_or.ensures) ∙ c.in-1.is in
    let fits = one-fits c.args.letter c.size_in-size.result c.size_in-size.ensures.value (one-is-R c.args.letter parts) turn in
    let room = turn.room in
    (omega (arith, room.few, room.free), omega arith, omega (arith, room.few, room.free))

pub returns-in-1 : goal.returns-in-1
returns-in-1 c =
    let a = c.args in
    let parts = rw c.arity.ensures at (sym c.unwrap_or.ensures) ∙ c.in-1.is in
    record {
      kept = kept_set a.cells.now a.top a.top c.packed.result (omega arith);
      stacked = λ terms turn.
          one-stacked a.letter c.size_in-size.result c.size_in-size.ensures.value (one-is-R a.letter parts) turn c.packed.result
          c.packed.ensures;
    }

pub returns-in_default : goal.returns-in_default
returns-in_default c =
    let a = c.args in
    let parts = rw c.arity.ensures at c.unwrap_or.ensures in
    let not_one : c.unwrap_or.result ≡ 1 → ⊥ = search in
    let not-two : c.unwrap_or.result ≡ 2 → ⊥ = search in
    record {
      kept = kept_set a.cells.now a.top a.top c.packed-in_default.result (omega arith);
      stacked = λ terms turn.
          leaf-stacked a.letter c.packed-in_default.result (omega arith) (λ e. not_one (parts ∙ e)) (λ e. not-two (parts ∙ e)) turn
          c.packed-in_default.ensures;
    }
