-- The applications around a part of a term on the way of the order, and the terms behind it (REQUIREMENTS, Order). Assumes nothing.
use Rattle.std.specs.Prelude.{ℕ, List, [], ◌∷◌, ◌++◌}
use Rattle.calculus.specs.Term.{Term, text}

-- an application around a part: the part is the function and that its argument, or the part is the argument of that pair
pub data Frame : Type 0 where
  argument : (a : Term) → Frame
  function : (u s : Term) → Frame

-- the part with its frames around it, the innermost first
abbrev pub plugged : Term → List Frame → Term
plugged t [] = t
plugged t (Frame.argument a ∷ frames) = plugged (Term.app t a) frames
plugged t (Frame.function u s ∷ frames) = plugged (Term.app (Term.B u s) t) frames

-- the texts of terms, one behind the other
abbrev pub texts : List Term → List ℕ
texts [] = []
texts (t ∷ terms) = text t ++ texts terms
