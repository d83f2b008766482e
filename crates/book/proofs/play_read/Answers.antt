-- `book::play_read` meets its contract: what the lines left in the areas and in the store is cleared.
use Prim.Native.Nat.{ℕ}
use mathlib.Core.Path.{◌∙◌, ap}
use lib.ListN.{replicate}
use Rattle.book.proofs.Ending.{ends-played}
use Rattle.book.proofs.play_read.Goals as goal

pub returns : goal.returns
returns c =
    ends-played c.requires c.play_lent-end.result.outcome c.play_lent-end.result.line
    c.play_lent-end.result.size _ _ _ _
    c.play_lent-end.ensures.play_left c.play_lent-end.auto.area c.clear.ensures.0
    (c.clear.ensures.1 ∙ ap (λ (n : ℕ). replicate n 0) c.play_lent-end.auto.work)
    (c.clear.ensures.2 ∙ c.play_lent-end.ensures.behind)
