-- The rows of a chain's text, what `ring_chain` needs of it, and the keys that are stored (REQUIREMENTS, Rows).
use Rattle.std.specs.Prelude.{ℕ, ◌≤◌, ◌≡◌, List, map, length}
use Rattle.calculus.specs.Term.{Term}
use Rattle.reading.specs.Reply.{Reply}
use Rattle.reading.specs.Reading.{term_read}
use Rattle.bell_rows.specs.Row.{fewest, most, cut_into, placed}
use Rattle.bell_rows.specs.Bytes.{bells_in}
use Rattle.bell_rows.specs.Key.{key_of}
use Rattle.rows.specs.Ringing.{bells_for}

-- so many rows of n bells from the text of a chain
abbrev pub rows_in : (n count : ℕ) (chain : List ℕ) → List (List ℕ)
rows_in n count chain = cut_into count n (bells_in chain)

-- the term of the bytes is a chain of the bells that stand in them, that many, and rows may have n bells
pub record Chained (bytes : List ℕ) (n struck : ℕ) : Type 0 where
  pub enough : fewest ≤ n
  pub few : n ≤ most
  pub counted : length (bells_in bytes) ≡ struck
  pub term : Term
  pub read : term_read bytes ≡ Reply.answered term
  pub belled : bells_for n term ≡ Reply.answered (bells_in bytes)

-- each row as one number
abbrev pub keys_of : List (List ℕ) → List ℕ
keys_of rows = map (λ (row : List ℕ). key_of (placed row)) rows
