-- Terms in the arena: which cell stands for which term. Its parts are cells too, and may be parts of other terms. Assumes nothing.
use Rattle.std.specs.Prelude.{ℕ, List}
use Rattle.calculus.specs.Bell.{Bell}
use Rattle.calculus.specs.Letter.{Letter, byte}
use Rattle.calculus.specs.Term.{Term, size}
use Rattle.cells.specs.Cell.{Cell}

-- `Stands cells top i t`: the cell at i stands for t, by cells below the top
pub data Stands (cells : List ℕ) (top : ℕ) : ℕ → Term → Type 0 where
  J : {i x y : ℕ} → Cell cells top i (byte Letter.J) x y 1 → Stands cells top i Term.J
  R : {i x y : ℕ} {t : Term} → Cell cells top i (byte Letter.R) x y (size (Term.R t)) → Stands cells top x t → Stands cells top i (Term.R t)
  H :
      {i x y : ℕ} {r t : Term} →
      Cell cells top i (byte Letter.H) x y (size (Term.H r t)) → Stands cells top x r → Stands cells top y t →
      Stands cells top i (Term.H r t)
  A :
      {i x y : ℕ} {s t : Term} →
      Cell cells top i (byte Letter.A) x y (size (Term.A s t)) → Stands cells top x s → Stands cells top y t →
      Stands cells top i (Term.A s t)
  I : {i x y : ℕ} → Cell cells top i (byte Letter.I) x y 1 → Stands cells top i Term.I
  B :
      {i x y : ℕ} {u s : Term} →
      Cell cells top i (byte Letter.B) x y (size (Term.B u s)) → Stands cells top x u → Stands cells top y s →
      Stands cells top i (Term.B u s)
  app :
      {i x y : ℕ} {t u : Term} →
      Cell cells top i (byte Letter.stop) x y (size (Term.app t u)) → Stands cells top x t → Stands cells top y u →
      Stands cells top i (Term.app t u)
  bell : {i x y : ℕ} {k : Bell} → Cell cells top i (byte (Letter.bell k)) x y 1 → Stands cells top i (Term.bell k)

-- a letter that takes two terms, and the node that it makes
pub data Two : ℕ → (Term → Term → Term) → Type 0 where
  two-H : Two (byte Letter.H) Term.H
  two-A : Two (byte Letter.A) Term.A
  two-B : Two (byte Letter.B) Term.B
  two-app : Two (byte Letter.stop) Term.app
