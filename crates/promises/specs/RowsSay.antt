-- What rows say of a piece (REQUIREMENTS, Rows), beside the demands: what a row is, what "different" counts, what each byte of the table
-- holds, and that the table is as good as the piece. `rows_say` of proofs/RowsSay.antt is the proof.
use Rattle.std.specs.Prelude.{ℕ, ◌+◌, ◌*◌, ◌≤◌, ◌<◌, ◌≡◌, ◌↔◌, List, length, get_or}
use Rattle.calculus.specs.Term.{Term, text}
use Rattle.reading.specs.Reply.{Reply}
use Rattle.repeats.specs.Repeats.{NoRepeats, Different}
use Rattle.bell_rows.specs.Chain.{Chain}
use Rattle.bell_rows.specs.Row.{most, times, RowOf}
use Rattle.rows.specs.Ringing.{Rung, After, ringing_of}

-- each number from 1 to n stands once among the bells, and no other stands there
pub record HoldsEachOnce (n : ℕ) (bells : List ℕ) : Type 0 where
  pub once : (k : ℕ) → 1 ≤ k → k ≤ n → times k bells ≡ 1
  pub not-below : times 0 bells ≡ 0
  pub not-above : (k : ℕ) → n < k → times k bells ≡ 0

-- `Holds bytes n count table table'`: the piece has count rows of n bells, and the table, which is as long as it was, has bell j of row i in
-- byte i * 12 + j, and zeros in all bytes that no bell stands in
pub record Holds (bytes : List ℕ) (n count : ℕ) (table table' : List ℕ) : Type 0 where
  pub piece : Term
  pub spelt : bytes ≡ text piece
  pub bells : List ℕ
  pub chain : Chain piece bells
  pub counted : length bells ≡ count * n
  pub sized : length table' ≡ length table
  pub struck : (i j : ℕ) → i < count → j < n → get_or table' (i * most + j) 0 ≡ get_or bells (i * n + j) 0
  pub unused : (i j : ℕ) → i < count → n ≤ j → j < most → get_or table' (i * most + j) 0 ≡ 0
  pub behind : (k : ℕ) → count * most ≤ k → get_or table' k 0 ≡ 0

pub record RowsSay : Type 0 where
  -- a row is that
  pub each-once : (n : ℕ) (bells : List ℕ) → RowOf n bells ↔ HoldsEachOnce n bells
  -- and so has n bells
  pub row-long : (n : ℕ) (bells : List ℕ) → RowOf n bells → length bells ≡ n
  -- how many rows are different is one number, at most that of the rows, and exactly that where no row stands twice
  pub one_number : (rows : List (List ℕ)) (j k : ℕ) → Different rows j → Different rows k → j ≡ k
  pub at_most : (rows : List (List ℕ)) (k : ℕ) → Different rows k → k ≤ length rows
  pub all-different : (rows : List (List ℕ)) → Different rows (length rows) ↔ NoRepeats rows
  -- each byte of the table
  pub byte_by_byte :
      (bytes table table' : List ℕ) (n count different : ℕ) →
      ringing_of bytes n table ≡ After.after (Reply.answered (Rung.rung count different)) table' → Holds bytes n count table table'
  -- pieces that leave the same table are the same piece, however many bells their rows are said to have
  pub read_back :
      (bytes₁ bytes₂ table₁ table₂ left : List ℕ) (n₁ n₂ : ℕ) (r₁ r₂ : Rung) →
      ringing_of bytes₁ n₁ table₁ ≡ After.after (Reply.answered r₁) left →
      ringing_of bytes₂ n₂ table₂ ≡ After.after (Reply.answered r₂) left → bytes₁ ≡ bytes₂
