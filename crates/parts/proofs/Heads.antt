-- The byte of a term's first letter stands where the text of the term begins. Assumes nothing.
use Prim.Native.Nat.{ℕ}
use native.Mathlib.Nat.{add-zero}
use mathlib.Core.Path.{◌≡◌, refl, sym, ◌∙◌, ap₂}
use mathlib.Core.List.{List, ◌++◌}
use lib.ListN.{length, get_or}
use lib.Seq.{get_or-append-add}
use Rattle.calculus.specs.Letter.{byte}
use Rattle.calculus.specs.Term.{Term, text}
use Rattle.calculus.proofs.Heads.{head_of}

head_first : (t : Term) (z : List ℕ) → get_or (text t ++ z) 0 0 ≡ byte (head_of t)
head_first Term.J z = refl
head_first (Term.R t) z = refl
head_first (Term.H r t) z = refl
head_first (Term.A s t) z = refl
head_first Term.I z = refl
head_first (Term.B u s) z = refl
head_first (Term.app t u) z = refl
head_first (Term.bell k) z = refl

-- the byte where the text of t begins is that of its first letter
pub head_at : (s x : List ℕ) (t : Term) (z : List ℕ) (at : ℕ) → s ≡ x ++ (text t ++ z) → at ≡ length x → get_or s at 0 ≡ byte (head_of t)
head_at s x t z at e n =
    ap₂ (λ (l : List ℕ) (i : ℕ). get_or l i 0) e (n ∙ sym (add-zero (length x)))
    ∙ get_or-append-add x (text t ++ z) 0 0
    ∙ head_first t z
