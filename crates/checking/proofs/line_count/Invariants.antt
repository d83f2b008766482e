-- `checking::line_count` meets its contract. The loop's invariant: the count is that of the bytes passed.
use Rattle.std.proofs.Common.{◌≡◌, ℕ, ◌==◌, count_by, take}
use Rattle.slices.specs.Split.{line_feed}
use Rattle.checking.proofs.line_count.Given as goal

abbrev pub invariant-loop-b : goal.invariant-loop-b
invariant-loop-b l = l.count ≡ count_by (λ (b : ℕ). b == line_feed) (take l.b-index l.file)
