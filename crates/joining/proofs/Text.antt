-- The text of a join is made of the texts of its terms, and it has twelve letters more than they have. Assumes nothing.
use Prim.Native.Nat.{ℕ}
use native.Mathlib.Omega.{arith}
use mathlib.Core.Path.{◌≡◌, sym, ◌∙◌, ap}
use mathlib.Core.List.{List, ◌∷◌, ◌++◌, append_assoc}
use lib.ListN.{length}
use Rattle.calculus.specs.Letter.{Letter, byte}
use Rattle.calculus.specs.Term.{Term, text, size}
use Rattle.calculus.proofs.PrefixCode.{length-text}
use Rattle.joining.specs.Join.{in_turn, join, join_text, join_size}

-- the size
pub size-join : (f g : Term) → size (join f g) ≡ join_size (size f) (size g)
size-join f g = omega arith

-- the text
pub text-join : (f g : Term) → join_text (text f) (text g) ≡ text (join f g)
text-join f g =
    let last = text Term.I in
    let body = text in_turn in
    let b = byte Letter.B in
    ap (λ (l : List ℕ). byte Letter.A ∷ b ∷ l)
    (ap (λ (l : List ℕ). text f ++ (b ∷ l)) (sym (append_assoc (text g) last body))
    ∙ sym (append_assoc (text f) (b ∷ (text g ++ last)) body))

-- both, of the bytes
pub length-join : (f g : Term) → join_size (length (text f)) (length (text g)) ≡ size (join f g)
length-join f g = omega (arith, size-join f g, length-text f, length-text g)
