-- `rows::Piece::lay` meets its contract: the keys tell the rows apart.
use Prim.Native.Nat.{ℕ}
use mathlib.Core.Path.{sym, ◌∙◌, ap}
use mathlib.Core.List.{List}
use lib.Dec.{eqb}
use lib.ListN.{length}
use Rattle.repeats.specs.Repeats.{withoutRepeats}
use Rattle.rows.proofs.Laying.{keyed-different}
use Rattle.rows.proofs.Piece.lay.Goals as goal

pub returns-clause-counted : goal.returns-clause-counted
returns-clause-counted c =
    let p = c.args.self.now in
    c.different.ensures
    ∙ ap (λ (l : List ℕ). length (withoutRepeats eqb l)) c.store.ensures.keys_after
    ∙ sym (keyed-different p.bells p.count p.chain.now p.few p.whole)
