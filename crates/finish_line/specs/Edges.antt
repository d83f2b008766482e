-- Inputs at the edges of what the finishing program's line asks for, as rows of a table (REQUIREMENTS, Programs); every edge of the shape
-- alone is a row of `line_states`. `proofs/Edges.antt` has the proof that covers it.
use Rattle.std.specs.Prelude.{ℕ, List, [], ◌∷◌}
use Prim.Native.String.{String}
use Rattle.std.proofs.Math.Option.{Option, none, some}
use Rattle.calculus.specs.Ascii.{ascii}
use Rattle.finish_line.specs.Request.{Request}

pub record Row : Type 0 where
  pub input : String
  pub expected : Option Request

abbrev pub asks : String → (fuel area : ℕ) (term : String) → Row
asks input fuel area term = record { input = input; expected = some (Request.request fuel area (ascii term)) }

abbrev pub other : String → Row
other input = record { input = input; expected = none }

abbrev pub rows : List Row
rows =
    asks "6\t12\t.BII.JRJ\n" 6 12 ".BII.JRJ" ∷
    asks "0\t1\t\n" 0 1 "" ∷
    asks "2000000\t5\t\n" 2_000_000 5 "" ∷
    asks "1111111111222222222233333333334444444444\t16384\tJ\n" 1111111111222222222233333333334444444444 16_384 "J" ∷
    asks "6\t5\tJ\r\n" 6 5 "J\r" ∷
    asks "6\t5\t\0\n" 6 5 "\0" ∷
    asks "10\t10\t10 \n" 10 10 "10 " ∷
    other "" ∷
    other "6\t12\tJ" ∷
    other "6\t12\tJ\n\n" ∷
    other "6\t12\tJ\tJ\n" ∷
    other "06\t12\tJ\n" ∷
    other "6\t0\tJ\n" ∷
    other "6\t012\tJ\n" ∷
    other "6\t16385\tJ\n" ∷
    other "6\t1111111111222222222233333333334444444444\tJ\n" ∷
    []
