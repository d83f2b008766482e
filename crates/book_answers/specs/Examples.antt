-- Books and what is printed of them, as rows of a table (REQUIREMENTS, Books, Programs). proofs/Examples.antt has the proof that covers it.
use Prim.Native.String.{String}
use Rattle.std.specs.Prelude.{List, [], ◌∷◌}

pub record Row : Type 0 where
  pub book : String
  pub printed : String

abbrev pub row : String → String → Row
row book printed = record { book = book; printed = printed }

abbrev pub rows : List Row
rows =
    row "a\t.II\nb\tB(a)(a)\n" "finished\t2\tBII\n" ∷
    row "a\tJ\nb\tR(a)\nc\tR(b)\n" "finished\t3\tRRJ\n" ∷
    row "a\tR(a)\n" "refused\t27\t1\n" ∷
    row "a\tJ\na\tR(b)\n" "refused\t26\t2\n" ∷
    row "a\tJ\na\tR(\n" "refused\t25\t2\n" ∷
    row "a\tJ" "refused\t12\t0\n" ∷
    row "" "refused\t11\t0\n" ∷
    []
