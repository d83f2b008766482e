-- A line that is printed is any that it equals. Assumes nothing.
use Prim.Native.Nat.{ℕ}
use mathlib.Core.Path.{◌≡◌, subst}
use mathlib.Core.List.{List}
use Rattle.slices.proofs.Appending.{Appends}

pub prints :
    (out : List ℕ) (n : ℕ) (out' : List ℕ) {line line' : List ℕ} → line ≡ line' → Appends 0 line out n out' → Appends 0 line' out n out'
prints out n out' e h = subst (λ (l : List ℕ). Appends 0 l out n out') e h
