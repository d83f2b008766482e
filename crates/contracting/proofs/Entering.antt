-- Rule 4: the pair of argument and environment, and its application to the body. Assumes nothing.
use Prim.Native.Nat.{ℕ, ◌+◌}
use native.Mathlib.Omega.{arith}
use mathlib.Core.Path.{◌≡◌, refl, ap}
use mathlib.Core.List.{List}
use lib.ListN.{get_or}
use Rattle.calculus.specs.Letter.{Letter, byte}
use Rattle.calculus.specs.Term.{Term, size}
use Rattle.calculus.specs.Order.{next}
use Rattle.cells.specs.Cell.{letter_in, first_in, second_in, Free, Joinable}
use Rattle.cells.specs.Stands.{Stands, Two}
use Rattle.cells.proofs.Keeping.{kept_again}
use Rattle.cells.proofs.Building.{joinable}
use Rattle.contracting.specs.Contracting.{Redex, Contractible, Contracts}
use Rattle.contracting.proofs.Nodes.{Opened, opened, room-there, Written, Node, room-above, kept-below, stands_on, joined}

module _
    {cells : List ℕ} {top f a x y : ℕ} (given : Contractible cells top f a)
    (kind : letter_in (get_or cells f 0) ≡ byte Letter.A) (ex : x ≡ first_in (get_or cells f 0)) (ey : y ≡ second_in (get_or cells f 0)) where
  -- the function is a closure
  closure : {t u : Term} → Redex cells top f a t u → Opened cells top x y Term.A t
  closure r = opened Two.two-A r.function-stands kind ex ey

  -- the argument and the environment can be joined
  pub enter-first : Joinable cells top a x
  enter-first =
      let o = closure given.redex in
      joinable cells top (room-there given) given.redex.argument-stands o.first-stands
      (omega (arith, ap size o.is, given.small))

  module _ {cells₁ : List ℕ} (written₁ : Written cells top (byte Letter.B) a x cells₁) where
    -- the first node, and the room above it
    node₁ : Node cells top (top + 1) (byte Letter.B) a x cells₁
    node₁ = record { room = room-there given; next-top = refl; written = written₁ }

    room₁ : Free cells₁ (top + 1)
    room₁ = room-above node₁ (omega (arith, given.room))

    -- the pair of both
    pair : {t u : Term} (r : Redex cells top f a t u) → Stands cells₁ (top + 1) top (Term.B u (closure r).first)
    pair r = joined node₁ Two.two-B r.argument-stands (closure r).first-stands

    -- the body is where it was
    body : {t u : Term} (r : Redex cells top f a t u) → Stands cells₁ (top + 1) y (closure r).second
    body r = stands_on node₁ (closure r).second-stands

    -- the pair and the body can be joined
    pub enter-second : Joinable cells₁ (top + 1) top y
    enter-second =
        let o = closure given.redex in
        joinable cells₁ (top + 1) room₁ (pair given.redex) (body given.redex) (omega (arith, ap size o.is, given.small))

    -- what rule 4 gives
    pub enter-gives :
        {cells₂ : List ℕ} → Written cells₁ (top + 1) (byte Letter.stop) top y cells₂ → (t u : Term) → Redex cells top f a t u →
        Contracts cells top t u cells₂ 4 (top + 2) (top + 1)
    enter-gives {cells₂} written₂ t u r =
        let o = closure r in
        let node₂ : Node cells₁ (top + 1) (top + 2) (byte Letter.stop) top y cells₂ =
        record { room = room₁; next-top = omega arith; written = written₂ } in
        record {
          kept = kept_again cells cells₁ cells₂ (omega arith) (kept-below node₁) (kept-below node₂);
          higher = omega arith;
          few-more = omega arith;
          reduct = Term.app (Term.B u o.first) o.second;
          step = ap (λ (c : Term). next (Term.app c u)) o.is;
          stands = joined node₂ Two.two-app (pair r) (body r);
        }
