-- Rows and their keys: as many of one are different as of the other. Assumes nothing.
use Prim.Native.Nat.{ℕ, ◌*◌, ◌≤◌}
use mathlib.Core.Path.{◌≡◌}
use mathlib.Core.List.{List}
use lib.Dec.{eqb}
use lib.ListN.{length}
use Rattle.slices.specs.Same.{same}
use Rattle.repeats.specs.Repeats.{withoutRepeats}
use Rattle.repeats.proofs.Repeats.{mapped-different}
use Rattle.bell_rows.specs.Row.{most, placed, Cut, cut_into}
use Rattle.bell_rows.specs.Bytes.{bells_in}
use Rattle.bell_rows.specs.Key.{key_of}
use Rattle.bell_rows.proofs.Bells.{bells-small}
use Rattle.bell_rows.proofs.Cutting.{cut-rows, each_long, each_of}
use Rattle.bell_rows.proofs.Keys.{key-tells}
use Rattle.rows.specs.Storing.{keys_of}

pub keyed-different :
    (n count : ℕ) (chain : List ℕ) → n ≤ most → length (bells_in chain) ≡ count * n →
    length (withoutRepeats same (cut_into count n (bells_in chain))) ≡ length (withoutRepeats eqb (keys_of (cut_into count n (bells_in chain))))
keyed-different n count chain few whole =
    let bells = bells_in chain in
    let rows = cut_into count n bells in
    let cut : Cut n bells rows = cut-rows n count bells whole in
    mapped-different same eqb (λ (row : List ℕ). key_of (placed row)) rows
    (λ x y mx my.
    key-tells n x y few (each_long n cut mx) (each_long n cut my)
    (λ b m. bells-small chain b (each_of n b cut mx m))
    (λ b m. bells-small chain b (each_of n b cut my m)))
