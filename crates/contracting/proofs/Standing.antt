-- Rules 5, 6, 10 and 13: nothing is built, since what they give stands already. Assumes nothing.
use Prim.Native.Nat.{ℕ}
use native.Mathlib.Omega.{arith}
use mathlib.Core.Path.{◌≡◌, refl, sym, ◌∙◌, ap, ap₂, subst}
use mathlib.Core.List.{List}
use lib.ListN.{get_or}
use Rattle.calculus.specs.Letter.{Letter, byte}
use Rattle.calculus.specs.Term.{Term}
use Rattle.calculus.specs.Order.{Next, next}
use Rattle.cells.specs.Cell.{letter_in, first_in}
use Rattle.cells.specs.Stands.{Stands, Two}
use Rattle.cells.proofs.Opening.{opened-J, opened-I, opened-two, opened-bell}
use Rattle.contracting.specs.Contracting.{Redex, Contracts}

-- what a rule gives where nothing is built
there :
    {cells : List ℕ} {top i : ℕ} (rule : ℕ) (t u : Term) {v : Term} → next (Term.app t u) ≡ Next.step rule v → Stands cells top i v →
    Contracts cells top t u cells rule top i
there rule t u {v} step s =
    record { kept = λ j h. refl; higher = omega arith; few-more = omega arith; reduct = v; step = step; stands = s }

module _ {cells : List ℕ} {top f a : ℕ} where
  -- rule 5 gives the argument
  pub rule-5-gives :
      letter_in (get_or cells f 0) ≡ byte Letter.I → (t u : Term) → Redex cells top f a t u → Contracts cells top t u cells 5 top a
  rule-5-gives e t u r = there 5 t u (ap (λ (p : Term). next (Term.app p u)) (opened-I r.function-stands e)) r.argument-stands

  module _ (kind : letter_in (get_or cells f 0) ≡ byte Letter.B) where
    -- rule 6 gives the pair's first part
    pub rule-6-gives :
        {x : ℕ} → x ≡ first_in (get_or cells f 0) → letter_in (get_or cells a 0) ≡ byte Letter.J → (t u : Term) → Redex cells top f a t u →
        Contracts cells top t u cells 6 top x
    rule-6-gives ex e t u r =
        let (v, s, p, v-stands, s-stands) = opened-two Two.two-B r.function-stands kind in
        there 6 t u (ap₂ (λ (p q : Term). next (Term.app p q)) p (opened-J r.argument-stands e))
        (subst (λ (i : ℕ). Stands cells top i v) (sym ex) v-stands)

    -- rule 10 gives the argument
    pub rule-10-gives :
        letter_in (get_or cells a 0) ≡ byte Letter.I → (t u : Term) → Redex cells top f a t u → Contracts cells top t u cells 10 top a
    rule-10-gives e t u r =
        let (v, s, p, v-stands, s-stands) = opened-two Two.two-B r.function-stands kind in
        let q = opened-I r.argument-stands e in
        there 10 t u (ap₂ (λ (p q : Term). next (Term.app p q)) p q) (subst (Stands cells top a) q r.argument-stands)

    -- rule 13 gives the argument, a bell
    pub rule-13-gives :
        {letter : ℕ} → letter ≡ letter_in (get_or cells a 0) → ¬ (letter ≡ byte Letter.J) → ¬ (letter ≡ byte Letter.R) →
        ¬ (letter ≡ byte Letter.H) → ¬ (letter ≡ byte Letter.B) → ¬ (letter ≡ byte Letter.A) → ¬ (letter ≡ byte Letter.I) →
        (t u : Term) → Redex cells top f a t u → Contracts cells top t u cells 13 top a
    rule-13-gives {letter} e no_J no_R no_H no_B no_A no_I t u r =
        let (v, s, p, v-stands, s-stands) = opened-two Two.two-B r.function-stands kind in
        let other : (l : ℕ) → ¬ (letter ≡ l) → ¬ (letter_in (get_or cells a 0) ≡ l) = λ l no h. no (e ∙ h) in
        let (k, q) =
        opened-bell r.argument-stands (other 74 no_J) (other 82 no_R) (other 72 no_H) (other 65 no_A) (other 73 no_I) (other 66 no_B)
        (r.no_argument kind) in
        there 13 t u (ap₂ (λ (p q : Term). next (Term.app p q)) p q) (subst (Stands cells top a) q r.argument-stands)
