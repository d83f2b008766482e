-- Rules 7 and 9: the application of the pair's second part to what a successor follows, and the pair's application in the environment of a
-- closure. Assumes nothing.
use Prim.Native.Nat.{ℕ, ◌+◌}
use native.Mathlib.Omega.{arith}
use mathlib.Core.Path.{◌≡◌, refl, sym, ◌∙◌, ap, ap₂, subst}
use mathlib.Core.List.{List}
use lib.ListN.{get_or}
use Rattle.calculus.specs.Letter.{Letter, byte}
use Rattle.calculus.specs.Term.{Term, size}
use Rattle.calculus.specs.Order.{Next, next}
use Rattle.cells.specs.Cell.{letter_in, first_in, second_in, Free, Joinable}
use Rattle.cells.specs.Stands.{Stands, Two}
use Rattle.cells.proofs.Keeping.{kept_again}
use Rattle.cells.proofs.Opening.{opened-R, opened-two}
use Rattle.cells.proofs.Building.{joinable}
use Rattle.contracting.specs.Contracting.{Redex, Contractible, Contracts}
use Rattle.contracting.proofs.Nodes.{Opened, opened, room-there, Written, Node, room-above, kept-below, stands_on, joined}

module _ {cells : List ℕ} {top f a : ℕ} (given : Contractible cells top f a) (kind : letter_in (get_or cells f 0) ≡ byte Letter.B) where
  -- ---- rule 7

  module _
      {x y : ℕ} (ex : x ≡ second_in (get_or cells f 0)) (ey : y ≡ first_in (get_or cells a 0))
      (successor : letter_in (get_or cells a 0) ≡ byte Letter.R) where
    -- the pair's second part and what the successor follows can be joined
    pub rule-7-first : Joinable cells top x y
    rule-7-first =
        let r = given.redex in
        let (v, s, p, v-stands, s-stands) = opened-two Two.two-B r.function-stands kind in
        let (w, q, w-stands) = opened-R r.argument-stands successor in
        joinable cells top (room-there given) (subst (λ (i : ℕ). Stands cells top i s) (sym ex) s-stands)
        (subst (λ (i : ℕ). Stands cells top i w) (sym ey) w-stands) (omega (arith, ap size p, ap size q, given.small))

    -- what rule 7 gives
    pub rule-7-gives :
        {cells₁ : List ℕ} → Written cells top (byte Letter.stop) x y cells₁ → (t u : Term) → Redex cells top f a t u →
        Contracts cells top t u cells₁ 7 (top + 1) top
    rule-7-gives {cells₁} written t u r =
        let node₁ : Node cells top (top + 1) (byte Letter.stop) x y cells₁ =
        record { room = room-there given; next-top = refl; written = written } in
        let (v, s, p, v-stands, s-stands) = opened-two Two.two-B r.function-stands kind in
        let (w, q, w-stands) = opened-R r.argument-stands successor in
        record {
          kept = kept-below node₁;
          higher = omega arith;
          few-more = omega arith;
          reduct = Term.app s w;
          step = ap₂ (λ (p q : Term). next (Term.app p q)) p q;
          stands =
              joined node₁ Two.two-app (subst (λ (i : ℕ). Stands cells top i s) (sym ex) s-stands)
              (subst (λ (i : ℕ). Stands cells top i w) (sym ey) w-stands);
        }

  -- ---- rule 9

  module _
      {x y : ℕ} (ex : x ≡ first_in (get_or cells a 0)) (ey : y ≡ second_in (get_or cells a 0))
      (is-closure : letter_in (get_or cells a 0) ≡ byte Letter.A) where
    -- the argument is a closure
    closure : {t u : Term} → Redex cells top f a t u → Opened cells top x y Term.A u
    closure r = opened Two.two-A r.argument-stands is-closure ex ey

    -- the pair and the environment can be joined
    pub rule-9-first : Joinable cells top f x
    rule-9-first =
        let r = given.redex in
        joinable cells top (room-there given) r.function-stands (closure r).first-stands
        (omega (arith, ap size (closure r).is, given.small))

    module _ {cells₁ : List ℕ} (written₁ : Written cells top (byte Letter.stop) f x cells₁) where
      -- the first node, and the room above it
      node₁ : Node cells top (top + 1) (byte Letter.stop) f x cells₁
      node₁ = record { room = room-there given; next-top = refl; written = written₁ }

      room₁ : Free cells₁ (top + 1)
      room₁ = room-above node₁ (omega (arith, given.room))

      -- the pair's application to the environment
      applied : {t u : Term} (r : Redex cells top f a t u) → Stands cells₁ (top + 1) top (Term.app t (closure r).first)
      applied r = joined node₁ Two.two-app r.function-stands (closure r).first-stands

      -- that and the body can be joined
      pub rule-9-second : Joinable cells₁ (top + 1) top y
      rule-9-second =
          let r = given.redex in
          joinable cells₁ (top + 1) room₁ (applied r) (stands_on node₁ (closure r).second-stands)
          (omega (arith, ap size (closure r).is, given.small))

      -- what rule 9 gives
      pub rule-9-gives :
          {cells₂ : List ℕ} → Written cells₁ (top + 1) (byte Letter.A) top y cells₂ → (t u : Term) → Redex cells top f a t u →
          Contracts cells top t u cells₂ 9 (top + 2) (top + 1)
      rule-9-gives {cells₂} written₂ t u r =
          let node₂ : Node cells₁ (top + 1) (top + 2) (byte Letter.A) top y cells₂ =
          record { room = room₁; next-top = omega arith; written = written₂ } in
          let o = closure r in
          let (v, s, p, v-stands, s-stands) = opened-two Two.two-B r.function-stands kind in
          record {
            kept = kept_again cells cells₁ cells₂ (omega arith) (kept-below node₁) (kept-below node₂);
            higher = omega arith;
            few-more = omega arith;
            reduct = Term.A (Term.app t o.first) o.second;
            step =
                ap₂ (λ (p q : Term). next (Term.app p q)) p o.is
                ∙ ap (λ (p : Term). Next.step 9 (Term.A (Term.app p o.first) o.second)) (sym p);
            stands = joined node₂ Two.two-A (applied r) (stands_on node₁ o.second-stands);
          }
