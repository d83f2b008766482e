-- Inputs of the program for small terms and what it prints, as rows of a table (REQUIREMENTS, Programs). proofs/Examples.antt has the
-- proof that covers it.
use Prim.Native.String.{String}
use Rattle.std.specs.Prelude.{List, [], ◌∷◌}

pub record Row : Type 0 where
  pub input : String
  pub printed : String

abbrev pub row : String → String → Row
row input printed = record { input = input; printed = printed }

abbrev pub rows : List Row
rows =
    row "3\t10\t20\n" "3\t18\t0\t0\t4\t0\t4\n" ∷
    row "3\t0\t3\n" "3\t14\t4\t0\t0\t0\t0\n" ∷
    row "4\t1000000\t16384\n" "4\t50\t0\t0\t12\t0\t12\n" ∷
    row "3\t10\t0\n" "refused\t3\t0\n" ∷
    row "3\t10\t2\n" "refused\t3\t0\n" ∷
    row "0\t10\t20\n" "refused\t32\t0\n" ∷
    row "8\t10\t20\n" "refused\t32\t0\n" ∷
    row "03\t10\t20\n" "refused\t32\t0\n" ∷
    row "3\t1111111111222222222233333333334444444444\t20\n" "refused\t4\t0\n" ∷
    row "3\t10\t1111111111222222222233333333334444444444\n" "refused\t1\t0\n" ∷
    row "1111111111222222222233333333334444444444\t10\t20\n" "refused\t32\t0\n" ∷
    row "8\t1111111111222222222233333333334444444444\t20\n" "refused\t32\t0\n" ∷
    row "3\t1000001\t16385\n" "refused\t4\t0\n" ∷
    row "3\t1000000\t16385\n" "refused\t1\t0\n" ∷
    row "3\t10\t020\n" "refused\t32\t0\n" ∷
    row "3\t10\tJ\n" "refused\t32\t0\n" ∷
    row "3\t10\t\n" "refused\t32\t0\n" ∷
    row "3\t10\n" "refused\t32\t0\n" ∷
    row "3\t10\t20\t1\n" "refused\t32\t0\n" ∷
    row "3\t10\t20" "refused\t32\t0\n" ∷
    row "3\t10\t20\n\n" "refused\t32\t0\n" ∷
    row "3\t10\t20\r\n" "refused\t32\t0\n" ∷
    row "" "refused\t32\t0\n" ∷
    []
