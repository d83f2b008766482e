-- Inputs of the program for the dearest small term and what it prints, as rows of a table (REQUIREMENTS, Programs). proofs/Examples.antt
-- has the proof that covers it.
use Rattle.std.specs.Prelude.{List, [], ◌∷◌}
use Rattle.sweep_answers.specs.Examples.{Row, row}

abbrev pub rows : List Row
rows =
    row "3\t10\t20\n" ".II\t1\n" ∷
    row "1\t0\t1\n" "I\t0\n" ∷
    row "3\t0\t3\n" "AII\t0\n" ∷
    row "4\t1000000\t16384\n" ".IRI\t1\n" ∷
    row "3\t10\t2\n" "refused\t3\t0\n" ∷
    row "0\t10\t20\n" "refused\t32\t0\n" ∷
    row "8\t10\t20\n" "refused\t32\t0\n" ∷
    row "3\t1000001\t16385\n" "refused\t4\t0\n" ∷
    row "3\t1000000\t16385\n" "refused\t1\t0\n" ∷
    row "3\t10\t1111111111222222222233333333334444444444\n" "refused\t1\t0\n" ∷
    row "3\t10\tJ\n" "refused\t32\t0\n" ∷
    row "3\t10\t20" "refused\t32\t0\n" ∷
    row "" "refused\t32\t0\n" ∷
    []
