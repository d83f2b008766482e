-- One round of a program: a reading, then the answer to what was read (REQUIREMENTS, Programs). No contract can say what is printed; these
-- say what is called, and on what.
use Rattle.std.specs.Prelude.{ℕ, ◌≡◌, List, ⊤}
use Rattle.std.specs.Borrow.{MutBor}
use Rattle.std.specs.Fn.{Once, FnOnceReturnsAtMut}

-- a closure's two buffers
abbrev pub Lent : Type 0
Lent = MutBor (List ℕ) × (MutBor (List ℕ) × ⊤)

-- a call of f on r, at a `&mut` to x and one to y, may give n, and leave x' and y'
pub record AnswersAt {F R : Type 0} (g : Once F (R × Lent) (ℕ × Lent)) (f : F) (r : R) (x y : List ℕ) (n : ℕ) (x' y' : List ℕ) : Type 0 where
  pub shown : Lent
  pub shows : (shown.0.now ≡ x) × (shown.1.0.now ≡ y)
  pub left : Lent
  pub met : g.post f (r, shown) (n, left)
  pub leaves : (left.0.now ≡ x') × (left.1.0.now ≡ y')

-- one call of `read` at the first buffer, then one of `answer`, on what that gave, at both, lead from x and y to x' and y'
pub record Served {F G R : Type 0} (reads : Once F (MutBor (List ℕ) × ⊤) (R × (MutBor (List ℕ) × ⊤))) (answers : Once G (R × Lent) (ℕ × Lent)) (read : F) (answer : G) (x y x' y' : List ℕ) : Type 0 where
  pub got : R
  pub held : List ℕ
  pub was_read : FnOnceReturnsAtMut reads read x got held
  pub count : ℕ
  pub was_answered : AnswersAt answers answer got held y count x' y'
