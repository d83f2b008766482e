-- The laws of `skip` and `end_at`: terms one behind the other are skipped one after the other, a letter is skipped with the terms that
-- it takes, and the text of a term takes as many bytes as the term is large. Assumes nothing.
use Prim.Native.Nat.{ℕ, zero, suc, ◌+◌, ◌-◌, ◌≤◌, ◌<◌}
use native.Mathlib.Nat.{zero-add, suc-add}
use native.Mathlib.Numerals.{add-one}
use native.Mathlib.Omega.{arith}
use mathlib.Core.Path.{◌≡◌, refl, sym, ◌∙◌, ap}
use mathlib.Core.List.{List, [], ◌∷◌, ◌++◌, append_assoc}
use mathlib.Core.Option.{Option, none, some}
use lib.ListN.{length, get_or, drop, length-drop, drop_of_length-le}
use lib.Seq.{drop-cons, drop-drop, drop_at}
use Rattle.std.specs.Prelude.{unwrap_or}
use Rattle.calculus.specs.Letter.{Letter, letter_of}
use Rattle.calculus.specs.Term.{Term, text, size}
use Rattle.calculus.proofs.PrefixCode.{letter_of-byte}
use Rattle.reading.specs.Arity.{arity_of_letter, arity_of}
use Rattle.parts.specs.Skip.{owed_behind, skip, end_at}

-- no terms take no bytes
skip-none : (s : List ℕ) → skip 0 s ≡ 0
skip-none [] = refl
skip-none (b ∷ s) = refl

-- terms take no more bytes than there are
pub skip-within : (k : ℕ) (s : List ℕ) → skip k s ≤ length s
skip-within k [] = omega arith
skip-within zero (b ∷ s) = omega arith
skip-within (suc k) (b ∷ s) = omega (arith, skip-within (owed_behind (letter_of b) k) s)

owed_add : (o : Option Letter) (j k : ℕ) → owed_behind o (j + k) ≡ owed_behind o j + k
owed_add none j k = refl
owed_add (some Letter.J) j k = refl
owed_add (some Letter.R) j k = omega arith
owed_add (some Letter.H) j k = omega arith
owed_add (some Letter.A) j k = omega arith
owed_add (some Letter.I) j k = refl
owed_add (some Letter.B) j k = omega arith
owed_add (some Letter.stop) j k = omega arith
owed_add (some (Letter.bell b)) j k = refl

-- j terms and then k terms
skip_add : (s : List ℕ) (j k : ℕ) → skip (j + k) s ≡ skip j s + skip k (drop (skip j s) s)
skip_add [] j k = refl
skip_add (b ∷ s) zero k = rw (zero-add k) (sym (zero-add (skip k (b ∷ s))))
skip_add (b ∷ s) (suc j) k =
    let o = letter_of b in
    let later : skip (owed_behind o (j + k)) s ≡ skip (owed_behind o j) s + skip k (drop (skip (owed_behind o j) s) s) =
    ap (λ (n : ℕ). skip n s) (owed_add o j k) ∙ skip_add s (owed_behind o j) k in
    rw (suc-add j k) (omega arith)

-- ---- the end of a part

-- a part's end lies below what bounds its beginning and the list
pub end_below : (s : List ℕ) (at end n : ℕ) → end ≡ end_at s at → at ≤ n → length s ≤ n → end ≤ n
end_below s at end n e h k = omega (arith, skip-within 1 (drop at s), length-drop at s)

-- past the end there is no part
pub end_past : (s : List ℕ) (at : ℕ) → length s ≤ at → at ≡ end_at s at
end_past s at h = omega (arith, ap (skip 1) (drop_of_length-le s h))

-- the terms that a byte takes end the part that begins with it
pub end-letter :
    (s : List ℕ) (at k : ℕ) → at < length s → k ≡ owed_behind (letter_of (get_or s at 0)) 0 → at + 1 + skip k (drop (at + 1) s) ≡ end_at s at
end-letter s at k h e =
    let here : skip 1 (drop at s) ≡ suc (skip k (drop (at + 1) s)) =
    ap (skip 1) (drop-cons s at 0 h)
    ∙ ap (λ (n : ℕ). suc (skip n (drop (suc at) s))) (sym e)
    ∙ ap (λ (n : ℕ). suc (skip k (drop n s))) (sym (add-one at)) in
    omega arith

-- a byte takes as many terms as its arity says, and none where it is no letter
pub taken : (b : ℕ) → unwrap_or (arity_of b) 0 ≡ owed_behind (letter_of b) 0
unfolding arity_of
taken b = go (letter_of b)
  where
    go : (o : Option Letter) → unwrap_or (arity_of_letter o) 0 ≡ owed_behind o 0
    go none = refl
    go (some l) = refl

-- of the n terms that a byte takes, those behind the first i are skipped one by one
pub end-next :
    (s : List ℕ) (at n i : ℕ) → i < n → end_at s at + skip (n - (i + 1)) (drop (end_at s at) s) ≡ at + skip (n - i) (drop at s)
end-next s at n i h =
    let here = drop at s in
    let rest = n - (i + 1) in
    let more : 1 + rest ≡ n - i = omega arith in
    let split : skip (n - i) here ≡ skip 1 here + skip rest (drop (skip 1 here) here) =
    ap (λ (k : ℕ). skip k here) (sym more) ∙ skip_add here 1 rest in
    omega (arith, ap (skip rest) (drop-drop (skip 1 here) at s))

-- and behind the last, the part ends
pub end-last : (s : List ℕ) (at end n i : ℕ) → n ≤ i → end + skip (n - i) (drop end s) ≡ end_at s at → end ≡ end_at s at
end-last s at end n i h e =
    let none : n - i ≡ 0 = omega arith in
    omega (arith, ap (λ (k : ℕ). skip k (drop end s)) none, skip-none (drop end s))

-- ---- parts of parts

-- what begins within k terms ends within them
skip_nested : (s : List ℕ) (k i : ℕ) → i < skip k s → i + skip 1 (drop i s) ≤ skip k s
skip_nested [] k i h = absurd (omega arith)
skip_nested (b ∷ s) zero i h = absurd (omega arith)
skip_nested (b ∷ s) (suc k) zero h =
    let more : suc k ≡ 1 + k = omega arith in
    omega (arith, ap (λ (n : ℕ). skip n (b ∷ s)) more, skip_add (b ∷ s) 1 k)
skip_nested (b ∷ s) (suc k) (suc i) h = omega (arith, skip_nested s (owed_behind (letter_of b) k) i (omega arith))

-- a part that begins in another ends in it
pub end_nested : (s : List ℕ) (from i : ℕ) → from ≤ i → i < end_at s from → end_at s i ≤ end_at s from
end_nested s from i h k =
    let j = i - from in
    let sum : from + j ≡ i = omega arith in
    let there : drop j (drop from s) ≡ drop i s = drop-drop j from s ∙ ap (λ (n : ℕ). drop n s) sum in
    omega (arith, skip_nested (drop from s) 1 j (omega arith), ap (skip 1) there)

-- ---- texts

-- the text of t, whatever stands behind it, takes the bytes of one term
abbrev Sized : Term → Type 0
Sized t = (k : ℕ) (z : List ℕ) → skip (suc k) (text t ++ z) ≡ size t + skip k z

-- the texts of two terms take the bytes of two
sized-both :
    (t u : Term) → Sized t → Sized u →
    (k : ℕ) (z : List ℕ) → skip (suc (suc k)) ((text t ++ text u) ++ z) ≡ size t + size u + skip k z
sized-both t u first second k z =
    let apart : skip (suc (suc k)) ((text t ++ text u) ++ z) ≡ size t + skip (suc k) (text u ++ z) =
    ap (skip (suc (suc k))) (append_assoc (text t) (text u) z) ∙ first (suc k) (text u ++ z) in
    omega (arith, second k z)

sized : (t : Term) (k : ℕ) (z : List ℕ) → skip (suc k) (text t ++ z) ≡ size t + skip k z
unfolding letter_of
sized Term.J k z = omega arith
sized (Term.R t) k z = omega (arith, sized t k z)
sized (Term.H r t) k z = omega (arith, sized-both r t (sized r) (sized t) k z)
sized (Term.A s t) k z = omega (arith, sized-both s t (sized s) (sized t) k z)
sized Term.I k z = omega arith
sized (Term.B u s) k z = omega (arith, sized-both u s (sized u) (sized s) k z)
sized (Term.app t u) k z = omega (arith, sized-both t u (sized t) (sized u) k z)
sized (Term.bell b) k z = omega (arith, ap (λ (o : Option Letter). skip (owed_behind o k) z) (letter_of-byte (Letter.bell b)))

-- the part that begins with the text of t ends behind it
pub end-text : (s x : List ℕ) (t : Term) (z : List ℕ) (at : ℕ) → s ≡ x ++ (text t ++ z) → at ≡ length x → end_at s at ≡ at + size t
end-text s x t z at e n =
    let here : drop at s ≡ text t ++ z = ap (drop at) e ∙ drop_at x (text t ++ z) at (sym n) in
    omega (arith, ap (skip 1) here, sized t 0 z, skip-none z)
