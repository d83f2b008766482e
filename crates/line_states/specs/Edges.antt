-- Inputs at the edges of a line of three fields, as rows of a table (REQUIREMENTS, Programs). `proofs/Edges.antt` has the proof that
-- covers it.
use Rattle.std.specs.Prelude.{ℕ, List, [], ◌∷◌}
use Prim.Native.String.{String}
use Rattle.std.proofs.Math.Option.{Option, none, some}
use Rattle.calculus.specs.Ascii.{ascii}
use Rattle.line_states.specs.Parts.{Parts}

pub record Row : Type 0 where
  pub input : String
  pub expected : Option Parts

abbrev pub holds : String → (first second : ℕ) (third : String) → Row
holds input first second third = record { input = input; expected = some (Parts.parts first second (ascii third)) }

abbrev pub other : String → Row
other input = record { input = input; expected = none }

abbrev pub rows : List Row
rows =
    holds "6\t12\t.BII.JRJ\n" 6 12 ".BII.JRJ" ∷
    holds "0\t1\t\n" 0 1 "" ∷
    holds "2000000\t5\t\n" 2_000_000 5 "" ∷
    holds "1111111111222222222233333333334444444444\t16384\tJ\n" 1111111111222222222233333333334444444444 16_384 "J" ∷
    holds "6\t5\tJ\r\n" 6 5 "J\r" ∷
    holds "6\t5\t\0\n" 6 5 "\0" ∷
    holds "10\t10\t10 \n" 10 10 "10 " ∷
    holds "6\t0\tJ\n" 6 0 "J" ∷
    holds "6\t16385\tJ\n" 6 16_385 "J" ∷
    holds "6\t1111111111222222222233333333334444444444\tJ\n" 6 1111111111222222222233333333334444444444 "J" ∷
    holds "12\t1000000\t16384\n" 12 1_000_000 "16384" ∷
    other "" ∷
    other "\n" ∷
    other "6\n" ∷
    other "6\t12\n" ∷
    other "6\t12\tJ" ∷
    other "6\t12\tJ\nJ" ∷
    other "6\t12\tJ\n\n" ∷
    other "6\t12\tJ\n\t" ∷
    other "\n6\t12\tJ\n" ∷
    other "6\t12\tJ\tJ\n" ∷
    other "6\t12\tJ\t\n" ∷
    other "\t12\tJ\n" ∷
    other "06\t12\tJ\n" ∷
    other "00\t12\tJ\n" ∷
    other "+6\t12\tJ\n" ∷
    other "6 \t12\tJ\n" ∷
    other " 6\t12\tJ\n" ∷
    other "6\t\tJ\n" ∷
    other "6\t012\tJ\n" ∷
    other "6\t-12\tJ\n" ∷
    []
