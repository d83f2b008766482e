-- Lines that the programs print, as rows of a table: each line and its text (REQUIREMENTS, Programs). `proofs/Examples.antt` has the proof
-- that covers it.
use Rattle.std.specs.Prelude.{ℕ, List, [], ◌∷◌}
use Prim.Native.String.{String}
use Rattle.calculus.specs.Ascii.{ascii}
use Rattle.printing.specs.Printed.{line_of, numbers_of, count_of}

pub record Print : Type 0 where
  pub line : List ℕ
  pub expected : String

abbrev pub print : List ℕ → String → Print
print line expected = record { line = line; expected = expected }

abbrev pub prints : List Print
prints =
    print (line_of (ascii "finished") 6 (ascii "J")) "finished\t6\tJ\n" ∷
    print (line_of (ascii "spent") 0 (ascii ".II")) "spent\t0\t.II\n" ∷
    print (line_of (ascii "no room") 1000000 (ascii ".BIIHJRJ")) "no room\t1000000\t.BIIHJRJ\n" ∷
    print (numbers_of (ascii "refused") 19 0) "refused\t19\t0\n" ∷
    print (numbers_of (ascii "refused") 6 16384) "refused\t6\t16384\n" ∷
    print (count_of (ascii "accepted") 1024) "accepted\t1024\n" ∷
    []
