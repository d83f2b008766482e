-- Lines that all have room are one write, and how long the lines of counts are at most. Carried by `wrote_then`. Assumes nothing.
use Prim.Native.Nat.{ℕ, suc, ◌+◌, ◌*◌, ◌≤◌, ◌<◌}
use native.Mathlib.Omega.{arith}
use mathlib.Core.List.{List, [], ◌∷◌}
use mathlib.Core.Path.{refl}
use lib.ListN.{length, length-append}
use Rattle.calculus.proofs.Ranges.{Each}
use Rattle.slices.specs.Numeral.{decimal}
use Rattle.slices.specs.Put.{put, behind}
use Rattle.slices.specs.Wrote.{Wrote}
use Rattle.slices.proofs.Decimal.{decimal-length}
use Rattle.slices.proofs.Wrote.{wrote_none, wrote_put, wrote_then}
use Rattle.printing.proofs.Writing.{length-row}
use Rattle.mix_lines.specs.Mix.{bar, mix_row, rows_from}
use Rattle.mix_lines.specs.PutAll.{put_all, joined}
use Rattle.mix_lines.proofs.Bars.{bar-short}

-- lines put one behind the other, where there is room for all
pub put-all :
    (lines : List (List ℕ)) (at : ℕ) (dst : List ℕ) → at + length (joined lines) ≤ length dst →
    Wrote at (put_all lines at dst).0 (joined lines) dst (put_all lines at dst).1
put-all [] at dst room = wrote_none at dst (omega arith)
put-all (line ∷ lines) at dst room =
    let long = length-append line (joined lines) in
    let first = wrote_put at line dst (omega arith) refl refl in
    wrote_then first (put-all lines (behind at line dst) (put at line dst) (omega (arith, first.ends, first.size)))

row-length : (largest rule count : ℕ) → rule < 10000000 → count < 10000000 → length (mix_row largest rule count) ≤ 57
row-length largest rule count few low =
    omega (
      arith,
      length-row (decimal rule ∷ decimal count ∷ bar count largest ∷ []),
      decimal-length 6 rule few,
      decimal-length 6 count low,
      bar-short count largest,
    )

-- of counts of at most seven digits
pub rows-length :
    (largest rule : ℕ) (counts : List ℕ) → rule + length counts ≤ 10000000 → Each (λ (n : ℕ). n < 10000000) counts →
    length (joined (rows_from largest rule counts)) ≤ 57 * length counts
rows-length largest rule [] few low = omega arith
rows-length largest rule (count ∷ counts) few low =
    let rest = joined (rows_from largest (suc rule) counts) in
    omega (
      arith,
      length-append (mix_row largest rule count) rest,
      row-length largest rule count (omega arith) low.0,
      rows-length largest (suc rule) counts (omega arith) low.1,
    )
