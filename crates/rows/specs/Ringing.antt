-- What reading a piece as rows answers and leaves in the table, for any call (REQUIREMENTS, Rows).
use Rattle.std.specs.Prelude.{ℕ, suc, ◌-◌, ◌/◌, ◌%◌, cond, not, List, [], ◌∷◌, ◌++◌, ltb, eqb, length, replicate}
use Rattle.std.proofs.Math.Option.{Option, none, some}
use Rattle.calculus.specs.Term.{Term}
use Rattle.slices.specs.Same.{same}
use Rattle.repeats.specs.Repeats.{withoutRepeats}
use Rattle.reading.specs.Reply.{Reply, refuse_if, onward}
use Rattle.reading.specs.Reading.{term_read}
use Rattle.bell_rows.specs.Chain.{bells_of}
use Rattle.bell_rows.specs.Row.{fewest, most, is_row, cut_into, laid_out}

-- the most rows of a piece
abbrev pub row_limit : ℕ
row_limit = 1000

-- how many rows there are, and how many different ones
pub data Rung : Type 0 where
  rung : (rows different : ℕ) → Rung

-- the reply, and the table at exit
pub data After : Type 0 where
  after : (reply : Reply Rung) (table : List ℕ) → After

-- 20 if the term is no chain
abbrev pub chained : Option (List ℕ) → Reply (List ℕ)
chained none = Reply.refused 20 0
chained (some bells) = Reply.answered bells

-- or if rows have too few bells or too many
abbrev pub bells_for : (n : ℕ) → Term → Reply (List ℕ)
bells_for n t = refuse_if (ltb n fewest) 20 (refuse_if (ltb most n) 20 (chained (bells_of t)))

-- 21 if the bells are no whole number of rows, or too many rows, or more than the table holds
abbrev pub rows_for : (n : ℕ) (table bells : List ℕ) → Reply (List (List ℕ))
rows_for n table bells =
    let count = length bells / n in
    refuse_if (not (eqb (length bells % n) 0)) 21
    (refuse_if (ltb row_limit count) 21 (refuse_if (ltb (length table / most) count) 21 (Reply.answered (cut_into count n bells))))

-- how many rows stand in front of the first bad one; all of them where there is none
abbrev pub good_rows : (n : ℕ) → List (List ℕ) → ℕ
good_rows n [] = 0
good_rows n (row ∷ rows) = cond (is_row n row) (suc (good_rows n rows)) 0

-- 22 with the number of the first bad row, if there is one
abbrev pub checked_rows : (n : ℕ) → List (List ℕ) → Reply (List (List ℕ))
checked_rows n rows = cond (ltb (good_rows n rows) (length rows)) (Reply.refused 22 (suc (good_rows n rows))) (Reply.answered rows)

-- the table with the rows laid end to end, and zeros behind them
abbrev pub table_with : (rows : List (List ℕ)) (table : List ℕ) → List ℕ
table_with rows table = laid_out rows ++ replicate (length table - length (laid_out rows)) 0

-- a refusal leaves the table as it is
abbrev pub stored : Reply (List (List ℕ)) → (table : List ℕ) → After
stored (Reply.refused number place) table = After.after (Reply.refused number place) table
stored (Reply.answered rows) table =
    After.after (Reply.answered (Rung.rung (length rows) (length (withoutRepeats same rows)))) (table_with rows table)

unfoldable pub ringing_of : (bytes : List ℕ) (n : ℕ) (table : List ℕ) → After
ringing_of bytes n table = stored (onward (onward (onward (term_read bytes) (bells_for n)) (rows_for n table)) (checked_rows n)) table
