-- Lists in pieces: the part between two seams of a list is the pieces between them, and the text of a term that is a piece ends at its
-- seam. These say what stands at which index of a text. Assumes nothing.
use Prim.Native.Nat.{ℕ, ◌+◌, ◌-◌}
use native.Mathlib.Omega.{arith}
use mathlib.Core.Path.{◌≡◌, refl, sym, ◌∙◌, ap}
use mathlib.Core.List.{List, [], ◌∷◌, ◌++◌, append_assoc}
use lib.ListN.{length, get_or, take, drop, length-append, take-append-drop}
use lib.Seq.{take_at, drop_at}
use Rattle.calculus.specs.Letter.{byte}
use Rattle.calculus.specs.Term.{Term, text, size}
use Rattle.slices.specs.Part.{part}
use Rattle.parts.specs.Skip.{end_at}
use Rattle.parts.proofs.Skip.{end-text}
use Rattle.calculus.proofs.Heads.{head_of}
use Rattle.parts.proofs.Heads.{head_at}

-- the pieces one behind the other, and the sum of their lengths
abbrev pub flat : List (List ℕ) → List ℕ
flat [] = []
flat (x ∷ xs) = x ++ flat xs

abbrev pub sizes : List (List ℕ) → ℕ
sizes [] = 0
sizes (x ∷ xs) = length x + sizes xs

flat_append : (xs ys : List (List ℕ)) → flat (xs ++ ys) ≡ flat xs ++ flat ys
flat_append [] ys = refl
flat_append (x ∷ xs) ys = ap (λ (l : List ℕ). x ++ l) (flat_append xs ys) ∙ sym (append_assoc x (flat xs) (flat ys))

-- a seam between pieces
seam : (i : ℕ) (xs : List (List ℕ)) → flat xs ≡ flat (take i xs) ++ flat (drop i xs)
seam i xs = ap flat (sym (take-append-drop i xs)) ∙ flat_append (take i xs) (drop i xs)

pub length-flat : (xs : List (List ℕ)) → length (flat xs) ≡ sizes xs
length-flat [] = refl
length-flat (x ∷ xs) = length-append x (flat xs) ∙ ap (λ (n : ℕ). length x + n) (length-flat xs)

module _ {s : List ℕ} (xs : List (List ℕ)) (e : s ≡ flat xs) where
  -- the part of k pieces behind the first i
  pub part-flat :
      (i k from to : ℕ) → from ≡ sizes (take i xs) → to ≡ from + sizes (take k (drop i xs)) → part from to s ≡ flat (take k (drop i xs))
  part-flat i k from to n m =
      let long : to - from ≡ length (flat (take k (drop i xs))) = omega (arith, length-flat (take k (drop i xs))) in
      let behind : drop from s ≡ flat (drop i xs) =
      ap (drop from) (e ∙ seam i xs) ∙ drop_at (flat (take i xs)) (flat (drop i xs)) from (length-flat (take i xs) ∙ sym n) in
      ap (take (to - from)) (behind ∙ seam k (drop i xs))
      ∙ take_at (flat (take k (drop i xs))) (flat (drop k (drop i xs))) (to - from) (sym long)

  -- behind the first i pieces stands the text of t
  module _ (i : ℕ) (t : Term) (rest : List (List ℕ)) (q : drop i xs ≡ text t ∷ rest) (at : ℕ) (n : at ≡ sizes (take i xs)) where
    text-laid : s ≡ flat (take i xs) ++ (text t ++ flat rest)
    text-laid = e ∙ seam i xs ∙ ap (λ (l : List (List ℕ)). flat (take i xs) ++ flat l) q

    pub end-flat : end_at s at ≡ at + size t
    end-flat = end-text s (flat (take i xs)) t (flat rest) at text-laid (n ∙ sym (length-flat (take i xs)))

    pub head-flat : get_or s at 0 ≡ byte (head_of t)
    head-flat = head_at s (flat (take i xs)) t (flat rest) at text-laid (n ∙ sym (length-flat (take i xs)))
