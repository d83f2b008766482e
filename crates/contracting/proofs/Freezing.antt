-- Rules 1 to 3 and 12: which of them it is by the function's letter, and the frozen application that they build. Assumes nothing.
use Prim.Native.Nat.{ℕ, ◌+◌}
use native.Mathlib.Omega.{arith}
use mathlib.Core.Path.{◌≡◌, refl, sym, ◌∙◌, subst}
use mathlib.Core.List.{List}
use lib.ListN.{get_or}
use Rattle.calculus.specs.Letter.{Letter, byte}
use Rattle.calculus.specs.Term.{Term}
use Rattle.calculus.specs.Order.{Next, next}
use Rattle.calculus.proofs.PrefixCode.{byte_injective}
use Rattle.cells.specs.Cell.{letter_in, Joinable}
use Rattle.cells.specs.Stands.{Stands, Two}
use Rattle.cells.proofs.Building.{joinable}
use Rattle.contracting.specs.Contracting.{Redex, Contractible, Contracts}
use Rattle.contracting.specs.Groups.{Freezes}
use Rattle.contracting.proofs.Nodes.{room-there, Written, Node, kept-below, joined}

-- ---- the rule

-- behind `J` it is rule 1
pub freezes_1 : {l : ℕ} → l ≡ byte Letter.J → (t u : Term) → Freezes l t → next (Term.app t u) ≡ Next.step 1 (Term.H t u)
freezes_1 e t u Freezes.freezes_J = refl
freezes_1 e t u Freezes.freezes_R = absurd (omega arith)
freezes_1 e t u Freezes.freezes_H = absurd (omega arith)
freezes_1 e t u (Freezes.freezes_bell {k = k}) =
    let z : ◌≡◌ {A = ℕ} 0 1 = cc (byte_injective (Letter.bell k) Letter.J e) in
    absurd (omega arith)

-- behind `R` it is rule 2
pub freezes_2 : {l : ℕ} → l ≡ byte Letter.R → (t u : Term) → Freezes l t → next (Term.app t u) ≡ Next.step 2 (Term.H t u)
freezes_2 e t u Freezes.freezes_J = absurd (omega arith)
freezes_2 e t u Freezes.freezes_R = refl
freezes_2 e t u Freezes.freezes_H = absurd (omega arith)
freezes_2 e t u (Freezes.freezes_bell {k = k}) =
    let z : ◌≡◌ {A = ℕ} 0 1 = cc (byte_injective (Letter.bell k) Letter.R e) in
    absurd (omega arith)

-- behind `H` it is rule 3
pub freezes_3 : {l : ℕ} → l ≡ byte Letter.H → (t u : Term) → Freezes l t → next (Term.app t u) ≡ Next.step 3 (Term.H t u)
freezes_3 e t u Freezes.freezes_J = absurd (omega arith)
freezes_3 e t u Freezes.freezes_R = absurd (omega arith)
freezes_3 e t u Freezes.freezes_H = refl
freezes_3 e t u (Freezes.freezes_bell {k = k}) =
    let z : ◌≡◌ {A = ℕ} 0 1 = cc (byte_injective (Letter.bell k) Letter.H e) in
    absurd (omega arith)

-- behind a bell it is rule 12
pub freezes_12 :
    {l : ℕ} → ¬ (l ≡ byte Letter.J) → ¬ (l ≡ byte Letter.R) → ¬ (l ≡ byte Letter.H) → (t u : Term) → Freezes l t →
    next (Term.app t u) ≡ Next.step 12 (Term.H t u)
freezes_12 j r h t u Freezes.freezes_J = absurd (j refl)
freezes_12 j r h t u Freezes.freezes_R = absurd (r refl)
freezes_12 j r h t u Freezes.freezes_H = absurd (h refl)
freezes_12 j r h t u Freezes.freezes_bell = refl

-- a function that is no pair, closure, `I` or application is one of them
freezes :
    {cells : List ℕ} {top i : ℕ} {t : Term} → Stands cells top i t → ¬ (letter_in (get_or cells i 0) ≡ byte Letter.B) →
    ¬ (letter_in (get_or cells i 0) ≡ byte Letter.A) → ¬ (letter_in (get_or cells i 0) ≡ byte Letter.I) →
    ¬ (letter_in (get_or cells i 0) ≡ byte Letter.stop) → Freezes (letter_in (get_or cells i 0)) t
freezes {t = t} (Stands.J c) b a i s = subst (λ (l : ℕ). Freezes l t) (sym c.lettered) Freezes.freezes_J
freezes {t = t} (Stands.R c x) b a i s = subst (λ (l : ℕ). Freezes l t) (sym c.lettered) Freezes.freezes_R
freezes {t = t} (Stands.H c x y) b a i s = subst (λ (l : ℕ). Freezes l t) (sym c.lettered) Freezes.freezes_H
freezes (Stands.A c x y) b a i s = absurd (a c.lettered)
freezes (Stands.I c) b a i s = absurd (i c.lettered)
freezes (Stands.B c x y) b a i s = absurd (b c.lettered)
freezes (Stands.app c x y) b a i s = absurd (s c.lettered)
freezes {t = t} (Stands.bell c) b a i s = subst (λ (l : ℕ). Freezes l t) (sym c.lettered) Freezes.freezes_bell

-- ---- the node

module _ {cells : List ℕ} {top f a : ℕ} (given : Contractible cells top f a) where
  -- a function and its argument can be joined
  pub freeze-first : Joinable cells top f a
  freeze-first =
      joinable cells top (room-there given) given.redex.function-stands given.redex.argument-stands
      (omega (arith, given.small))

  -- the node of both, with the rule of the function's letter
  pub freeze-gives :
      {cells' : List ℕ} {letter rule : ℕ} → Written cells top (byte Letter.H) f a cells' → letter ≡ letter_in (get_or cells f 0) →
      ¬ (letter ≡ byte Letter.B) → ¬ (letter ≡ byte Letter.A) → ¬ (letter ≡ byte Letter.I) →
      ((t u : Term) → Freezes letter t → next (Term.app t u) ≡ Next.step rule (Term.H t u)) → (t u : Term) → Redex cells top f a t u →
      Contracts cells top t u cells' rule (top + 1) top
  freeze-gives {cells'} written e b a' i by t u r =
      let n : Node cells top (top + 1) (byte Letter.H) f a cells' =
      record { room = room-there given; next-top = refl; written = written } in
      let kind =
      freezes r.function-stands (λ (h : letter_in (get_or cells f 0) ≡ byte Letter.B). b (e ∙ h))
      (λ (h : letter_in (get_or cells f 0) ≡ byte Letter.A). a' (e ∙ h)) (λ (h : letter_in (get_or cells f 0) ≡ byte Letter.I). i (e ∙ h))
      r.no_function in
      record {
        kept = kept-below n;
        higher = omega arith;
        few-more = omega arith;
        reduct = Term.H t u;
        step = by t u (subst (λ (l : ℕ). Freezes l t) (sym e) kind);
        stands = joined n Two.two-H r.function-stands r.argument-stands;
      }
