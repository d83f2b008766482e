-- Chains of terms and their texts: the function on terms is the relation, and both are what the bytes say. Assumes nothing.
use Prim.Native.Nat.{ℕ}
use native.Mathlib.Omega.{arith}
use mathlib.Core.Path.{◌≡◌, refl, sym, ◌∙◌, ap, subst}
use mathlib.Core.Bool.{Bool, true, false, ◌&&◌, not, cond}
use borrow.Author.Tests.{not-true}
use mathlib.Core.List.{List, [], ◌∷◌, ◌++◌}
use mathlib.Core.Option.{Option, none, some}
use lib.Dec.{eqb}
use Rattle.calculus.specs.Bell.{byte_in, is_bell}
use Rattle.calculus.specs.Letter.{Letter, byte}
use Rattle.calculus.specs.Term.{Term, text}
use Rattle.calculus.proofs.Bells.{each-bell, bell-letter}
use Rattle.bell_rows.specs.Chain.{Chain, before, bells_of}
use Rattle.bell_rows.specs.Bytes.{bell_number, is_chain_text, bells_in}
use Rattle.bell_rows.proofs.Numbers.{number-bell}

-- ---- the function is the relation

-- what the function says is a chain is one
abbrev Found : Term → Option (List ℕ) → Type 0
Found t none = Unit {0}
Found t (some bells) = Chain t bells

found : (t : Term) → Found t (bells_of t)
found Term.J = tt
found (Term.R t) = tt
found (Term.H r t) = tt
found (Term.A s t) = tt
found Term.I = Chain.ended
found (Term.B Term.J s) = tt
found (Term.B (Term.R t) s) = tt
found (Term.B (Term.H r t) s) = tt
found (Term.B (Term.A r t) s) = tt
found (Term.B Term.I s) = tt
found (Term.B (Term.B u r) s) = tt
found (Term.B (Term.app t u) s) = tt
found (Term.B (Term.bell k) s) = go (bells_of s) (found s)
  where
    go : (o : Option (List ℕ)) → Found s o → Found (Term.B (Term.bell k) s) (before k o)
    go none f = tt
    go (some bells) f = Chain.linked k f
found (Term.app t u) = tt
found (Term.bell k) = tt

-- a chain's bells are found
pub chain-bells : {t : Term} {bells : List ℕ} → Chain t bells → bells_of t ≡ some bells
chain-bells Chain.ended = refl
chain-bells (Chain.linked k c) = ap (before k) (chain-bells c)

pub bells-chain : (t : Term) (bells : List ℕ) → bells_of t ≡ some bells → Chain t bells
bells-chain t bells e = subst (Found t) e (found t)

abbrev how_many : Option (List ℕ) → ℕ
how_many none = 0
how_many (some bells) = 1

-- where none are found there is no chain
pub no_chain : (t : Term) → bells_of t ≡ none → (bells : List ℕ) → Chain t bells → ⊥
no_chain t e bells c = let both : ◌≡◌ {A = ℕ} 0 1 = ap how_many (sym e ∙ chain-bells c) in omega arith

-- ---- the text of a chain

-- bytes that begin with neither `B` nor `I` are no chain's
other_head : (b : ℕ) (rest : List ℕ) → eqb b (byte Letter.B) ≡ false → eqb b (byte Letter.I) ≡ false → is_chain_text (b ∷ rest) ≡ false
other_head b [] p q = q
other_head b (c ∷ rest) p q = ap (λ (t : Bool). t && (is_bell c && is_chain_text rest)) p

-- nor are those with anything but a bell behind the first `B`
other-second : (c : ℕ) (rest : List ℕ) → is_bell c ≡ false → is_chain_text (byte Letter.B ∷ c ∷ rest) ≡ false
other-second c rest e = ap (λ (t : Bool). t && is_chain_text rest) e

abbrev pub some_if : Bool → List ℕ → Option (List ℕ)
some_if test bells = cond test (some bells) none

-- bytes that are no chain's
not-chain : (bytes : List ℕ) → is_chain_text bytes ≡ false → none ≡ some_if (is_chain_text bytes) (bells_in bytes)
not-chain bytes e = ap (λ (t : Bool). some_if t (bells_in bytes)) (sym e)

-- what the bytes of a term's text say is what the term says
pub chain-text : (t : Term) → bells_of t ≡ some_if (is_chain_text (text t)) (bells_in (text t))
unfolding is_bell
chain-text Term.J = refl
chain-text (Term.R t) = not-chain (text (Term.R t)) (other_head 82 (text t) refl refl)
chain-text (Term.H r t) = not-chain (text (Term.H r t)) (other_head 72 (text r ++ text t) refl refl)
chain-text (Term.A s t) = not-chain (text (Term.A s t)) (other_head 65 (text s ++ text t) refl refl)
chain-text Term.I = refl
chain-text (Term.B Term.J s) = refl
chain-text (Term.B (Term.R t) s) = refl
chain-text (Term.B (Term.H r t) s) = refl
chain-text (Term.B (Term.A r t) s) = refl
chain-text (Term.B Term.I s) = refl
chain-text (Term.B (Term.B u r) s) = refl
chain-text (Term.B (Term.app t u) s) = refl
chain-text (Term.B (Term.bell k) s) =
    ap (before k) (chain-text s) ∙ go (is_chain_text (text s))
    ∙ ap (λ (t : Bool). some_if (t && is_chain_text (text s)) (bell_number (byte_in k) ∷ bells_in (text s))) (sym (bell-letter k))
  where
    go : (t : Bool) → before k (some_if t (bells_in (text s))) ≡ some_if t (bell_number (byte_in k) ∷ bells_in (text s))
    go true = ap (λ (n : ℕ). some (n ∷ bells_in (text s))) (sym (number-bell k))
    go false = refl
chain-text (Term.app t u) = not-chain (text (Term.app t u)) (other_head 46 (text t ++ text u) refl refl)
chain-text (Term.bell k) =
    not-chain (text (Term.bell k)) (not-true (eqb (byte_in k) (byte Letter.I)) (each-bell (λ b. not (eqb b (byte Letter.I))) refl k))
