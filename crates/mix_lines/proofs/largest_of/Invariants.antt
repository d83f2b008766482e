-- `mix_lines::largest_of` meets its contract. The invariant: the larger of what was found and of what is left is the largest of all.
use Prim.Native.Nat.{max}
use mathlib.Core.Path.{◌≡◌}
use lib.ListN.{drop}
use Rattle.mix_lines.specs.Mix.{largest_of}
use Rattle.mix_lines.proofs.largest_of.Given as goal

abbrev pub invariant-loop-count : goal.invariant-loop-count
invariant-loop-count l = max l.most (largest_of (drop l.count-index l.counts)) ≡ largest_of l.counts
