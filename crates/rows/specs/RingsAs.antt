-- What reading a piece as rows answers and leaves, as a relation (REQUIREMENTS, Rows); proofs/Exactly.antt shows that it agrees with
-- the function.
use Rattle.std.specs.Prelude.{ℕ, suc, ◌*◌, ◌≤◌, ◌<◌, ◌≡◌, length}
use mathlib.Core.List.{List, ◌∷◌, ◌++◌, Memᴰ}
use Rattle.calculus.specs.Term.{Term, text}
use Rattle.repeats.specs.Repeats.{Different}
use Rattle.reading.specs.Reply.{Reply}
use Rattle.reading.specs.Reading.{ReadsAs}
use Rattle.bell_rows.specs.Chain.{Chain}
use Rattle.bell_rows.specs.Row.{fewest, most, RowOf, Cut}
use Rattle.rows.specs.Ringing.{Rung, row_limit, table_with}

-- `Written n bytes rows`: the bytes are the text of a chain whose bells are these rows of n bells, and rows may have n bells
pub record Written (n : ℕ) (bytes : List ℕ) (rows : List (List ℕ)) : Type 0 where
  pub enough : fewest ≤ n
  pub not_more : n ≤ most
  pub piece : Term
  pub spelt : bytes ≡ text piece
  pub bells : List ℕ
  pub chain : Chain piece bells
  pub cut : Cut n bells rows

-- `RingsAs bytes n table reply table'`
pub data RingsAs (bytes : List ℕ) (n : ℕ) (table : List ℕ) : Reply Rung → List ℕ → Type 0 where
  unread : {number place : ℕ} → ReadsAs bytes (Reply.refused number place) → RingsAs bytes n table (Reply.refused number place) table
  too_few : (t : Term) → bytes ≡ text t → n < fewest → RingsAs bytes n table (Reply.refused 20 0) table
  too_many : (t : Term) → bytes ≡ text t → most < n → RingsAs bytes n table (Reply.refused 20 0) table
  no_chain : (t : Term) → bytes ≡ text t → ((bells : List ℕ) → Chain t bells → ⊥) → RingsAs bytes n table (Reply.refused 20 0) table
  uneven :
      (t : Term) (bells : List ℕ) → bytes ≡ text t → Chain t bells → fewest ≤ n → n ≤ most →
      ((rows : List (List ℕ)) → Cut n bells rows → ⊥) → RingsAs bytes n table (Reply.refused 21 0) table
  past_limit :
      {rows : List (List ℕ)} → Written n bytes rows → row_limit < length rows → RingsAs bytes n table (Reply.refused 21 0) table
  past_table :
      {rows : List (List ℕ)} → Written n bytes rows → length table < most * length rows → RingsAs bytes n table (Reply.refused 21 0) table
  bad-row :
      (good : List (List ℕ)) (bad : List ℕ) (others : List (List ℕ)) → Written n bytes (good ++ (bad ∷ others)) →
      length (good ++ (bad ∷ others)) ≤ row_limit → most * length (good ++ (bad ∷ others)) ≤ length table →
      ((row : List ℕ) → Memᴰ row good → RowOf n row) → (RowOf n bad → ⊥) →
      RingsAs bytes n table (Reply.refused 22 (suc (length good))) table
  rung :
      {rows : List (List ℕ)} {different : ℕ} → Written n bytes rows → length rows ≤ row_limit → most * length rows ≤ length table →
      ((row : List ℕ) → Memᴰ row rows → RowOf n row) → Different rows different →
      RingsAs bytes n table (Reply.answered (Rung.rung (length rows) different)) (table_with rows table)
