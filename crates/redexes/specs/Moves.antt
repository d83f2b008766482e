-- The search for the redex on any bytes: from one application to the next, until a rule applies (REQUIREMENTS, Order).
-- `end_of` says where the part that begins at an index ends: `end_at s` of the bytes s, or what a table has. Assumes nothing.
use Rattle.std.specs.Prelude.{ℕ, ◌+◌, ◌≤◌, ◌<◌, ◌≡◌, List, get_or}
use Rattle.calculus.specs.Letter.{Letter, byte}

-- where the search goes from the application at p: to its function, to the argument of its pair, or no further
pub data Move (end_of : ℕ → ℕ) (s : List ℕ) (p : ℕ) : ℕ → Type 0 where
  function : get_or s (p + 1) 0 ≡ byte Letter.stop → Move end_of s p (p + 1)
  argument :
      {end : ℕ} → end ≡ end_of (p + 1) → get_or s (p + 1) 0 ≡ byte Letter.B → get_or s end 0 ≡ byte Letter.stop → Move end_of s p end
  here :
      ¬ (get_or s (p + 1) 0 ≡ byte Letter.stop) →
      (get_or s (p + 1) 0 ≡ byte Letter.B → ¬ (get_or s (end_of (p + 1)) 0 ≡ byte Letter.stop)) → Move end_of s p p

-- `Leads end_of s p r`: the moves from p, as long as they go to the right, end at r
pub data Leads (end_of : ℕ → ℕ) (s : List ℕ) : (from to : ℕ) → Type 0 where
  ends : {p q : ℕ} → Move end_of s p q → q ≤ p → Leads end_of s p p
  goes : {p q r : ℕ} → Move end_of s p q → p < q → Leads end_of s q r → Leads end_of s p r
