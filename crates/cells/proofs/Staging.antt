-- Where the machine is, by whether it is told that a part is left. Assumes nothing.
use Prim.Native.Nat.{ℕ}
use mathlib.Core.Path.{◌≡◌, sym}
use mathlib.Core.Bool.{Bool, true, false, false≢true}
use mathlib.Core.List.{List}
use Rattle.calculus.specs.Term.{Term, text}
use Rattle.cells.specs.Stage.{Stage, At}

module _ {cells : List ℕ} {top cur list : ℕ} {front : List ℕ} {t : Term} where
  -- where one is left, it is in the term
  pub part_left : {left : Bool} → At cells top cur list front t left → left ≡ true → Stage cells top cur list front t
  part_left (At.part s) e = s
  part_left (At.end k) e = absurd (false≢true e)

  -- where none is, the whole text stands in front
  pub none_left : {left : Bool} → At cells top cur list front t left → left ≡ false → text t ≡ front
  none_left (At.part s) e = absurd (false≢true (sym e))
  none_left (At.end k) e = k
