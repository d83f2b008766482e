-- Rules 8 and 11: the pair's applications to both parts of the argument, and the node of them. Assumes nothing.
use Prim.Native.Nat.{ℕ, suc, ◌+◌}
use native.Mathlib.Omega.{arith}
use mathlib.Core.Path.{◌≡◌, refl, sym, ◌∙◌, ap, ap₂, subst}
use mathlib.Core.List.{List}
use lib.ListN.{get_or}
use Rattle.calculus.specs.Letter.{Letter, byte}
use Rattle.calculus.specs.Term.{Term, size}
use Rattle.calculus.specs.Order.{Next, next}
use Rattle.cells.specs.Cell.{letter_in, first_in, second_in, Free, Joinable}
use Rattle.cells.specs.Stands.{Stands, Two}
use Rattle.cells.proofs.Keeping.{kept_again}
use Rattle.cells.proofs.Opening.{opened-two}
use Rattle.cells.proofs.Building.{joinable}
use Rattle.contracting.specs.Contracting.{Redex, Contractible, Contracts}
use Rattle.contracting.specs.Groups.{Spreads}
use Rattle.contracting.proofs.Nodes.{Opened, opened, room-there, long, Written, Node, room-above, kept-below, stands_on, joined}

-- the node that the argument is and the node that is built, with the step from one to the other
record Shape (l letter rule : ℕ) : Type 0 where
  from : Term → Term → Term
  to : Term → Term → Term
  from-two : Two l from
  to-two : Two letter to
  sized : (r t : Term) → size (from r t) ≡ suc (size r + size t)
  step :
      (u s r t : Term) →
      next (Term.app (Term.B u s) (from r t)) ≡ Next.step rule (to (Term.app (Term.B u s) r) (Term.app (Term.B u s) t))

-- which they are behind each letter
shape : {l letter rule : ℕ} → Spreads l letter rule → Shape l letter rule
shape Spreads.spreads_H =
    record {
      from = Term.H;
      to = Term.app;
      from-two = Two.two-H;
      to-two = Two.two-app;
      sized = λ r t. refl;
      step = λ u s r t. refl;
    }
shape Spreads.spreads_B =
    record {
      from = Term.B;
      to = Term.B;
      from-two = Two.two-B;
      to-two = Two.two-B;
      sized = λ r t. refl;
      step = λ u s r t. refl;
    }

-- behind `H` the pair's applications are applied, by rule 8
pub spreads_8 : {l m : ℕ} → l ≡ m → l ≡ byte Letter.H → Spreads m (byte Letter.stop) 8
spreads_8 e h = subst (λ (k : ℕ). Spreads k (byte Letter.stop) 8) (sym h ∙ e) Spreads.spreads_H

-- behind `B` they are a pair, by rule 11
pub spreads_11 : {l m : ℕ} → l ≡ m → l ≡ byte Letter.B → Spreads m (byte Letter.B) 11
spreads_11 e h = subst (λ (k : ℕ). Spreads k (byte Letter.B) 11) (sym h ∙ e) Spreads.spreads_B

module _
    {cells : List ℕ} {top f a x y letter rule : ℕ} (given : Contractible cells top f a) (kind : letter_in (get_or cells f 0) ≡ byte Letter.B)
    (spreads : Spreads (letter_in (get_or cells a 0)) letter rule)
    (ex : x ≡ first_in (get_or cells a 0)) (ey : y ≡ second_in (get_or cells a 0)) where
  -- the argument has two parts
  parts : {t u : Term} → Redex cells top f a t u → Opened cells top x y (shape spreads).from u
  parts r = opened (shape spreads).from-two r.argument-stands refl ex ey

  -- its size is theirs and its letter
  parts-size : {t u : Term} (r : Redex cells top f a t u) → size u ≡ suc (size (parts r).first + size (parts r).second)
  parts-size r = ap size (parts r).is ∙ (shape spreads).sized (parts r).first (parts r).second

  -- the pair and the first part can be joined
  pub spread-first : Joinable cells top f x
  spread-first =
      let r = given.redex in
      joinable cells top (room-there given) r.function-stands (parts r).first-stands
      (omega (arith, parts-size r, given.small))

  module _ {cells₁ : List ℕ} (written₁ : Written cells top (byte Letter.stop) f x cells₁) where
    -- the first node, and the room above it
    node₁ : Node cells top (top + 1) (byte Letter.stop) f x cells₁
    node₁ = record { room = room-there given; next-top = refl; written = written₁ }

    room₁ : Free cells₁ (top + 1)
    room₁ = room-above node₁ (omega (arith, given.room))

    -- the pair and the second part can be joined
    pub spread-second : Joinable cells₁ (top + 1) f y
    spread-second =
        let r = given.redex in
        joinable cells₁ (top + 1) room₁ (stands_on node₁ r.function-stands) (stands_on node₁ (parts r).second-stands)
        (omega (arith, parts-size r, given.small))

    module _ {cells₂ : List ℕ} (written₂ : Written cells₁ (top + 1) (byte Letter.stop) f y cells₂) where
      -- the second node, and the room above it
      node₂ : Node cells₁ (top + 1) (top + 2) (byte Letter.stop) f y cells₂
      node₂ = record { room = room₁; next-top = omega arith; written = written₂ }

      room₂ : Free cells₂ (top + 2)
      room₂ = room-above node₂ (omega (arith, long node₁, given.room))

      -- the pair's application to the first part
      applied-first : {t u : Term} (r : Redex cells top f a t u) → Stands cells₂ (top + 2) top (Term.app t (parts r).first)
      applied-first r = stands_on node₂ (joined node₁ Two.two-app r.function-stands (parts r).first-stands)

      -- and to the second
      applied-second : {t u : Term} (r : Redex cells top f a t u) → Stands cells₂ (top + 2) (top + 1) (Term.app t (parts r).second)
      applied-second r = joined node₂ Two.two-app (stands_on node₁ r.function-stands) (stands_on node₁ (parts r).second-stands)

      -- both can be joined
      pub spread-third : Joinable cells₂ (top + 2) top (top + 1)
      spread-third =
          let r = given.redex in
          joinable cells₂ (top + 2) room₂ (applied-first r) (applied-second r) (omega (arith, parts-size r, given.small))

      -- what rules 8 and 11 give
      pub spread-gives :
          {cells₃ : List ℕ} → Written cells₂ (top + 2) letter top (top + 1) cells₃ → (t u : Term) → Redex cells top f a t u →
          Contracts cells top t u cells₃ rule (top + 3) (top + 2)
      spread-gives {cells₃} written₃ t u r =
          let node₃ : Node cells₂ (top + 2) (top + 3) letter top (top + 1) cells₃ =
          record { room = room₂; next-top = omega arith; written = written₃ } in
          let o = parts r in
          let (v, s, e, v-stands, s-stands) = opened-two Two.two-B r.function-stands kind in
          record {
            kept =
                kept_again cells cells₂ cells₃ (omega arith)
                (kept_again cells cells₁ cells₂ (omega arith) (kept-below node₁) (kept-below node₂))
                (kept-below node₃);
            higher = omega arith;
            few-more = omega arith;
            reduct = (shape spreads).to (Term.app t o.first) (Term.app t o.second);
            step =
                ap₂ (λ (p q : Term). next (Term.app p q)) e o.is ∙ (shape spreads).step v s o.first o.second
                ∙ ap (λ (p : Term). Next.step rule ((shape spreads).to (Term.app p o.first) (Term.app p o.second))) (sym e);
            stands = joined node₃ (shape spreads).to-two (applied-first r) (applied-second r);
          }
