-- What a call of stepping comes to: a refusal with the areas as they were, or the step that the order names. Assumes nothing.
use Prim.Native.Nat.{ℕ, ◌≤◌, ◌<◌, min}
use native.Mathlib.Omega.{arith}
use mathlib.Core.Path.{◌≡◌, refl, sym, ◌∙◌}
use mathlib.Core.Bool.{Bool, true, false}
use mathlib.Core.List.{List, [], ◌∷◌}
use borrow.Author.Tests.{leb-true, leb-false, ltb-false}
use lib.Dec.{leb, ltb}
use lib.ListN.{length, take, length-take}
use Rattle.calculus.specs.Limits.{area_limit}
use Rattle.calculus.specs.Term.{Term, size, Normal}
use Rattle.calculus.specs.Order.{Next, next, Step}
use Rattle.calculus.proofs.PrefixCode.{text_injective}
use Rattle.calculus.proofs.Order.{next-is-stop, next-is-step}
use Rattle.reading.specs.Reply.{Reply, refuse_if, Refuses}
use Rattle.reading.specs.Reading.{term_read}
use Rattle.reading.proofs.Numbers.{Unread, widened, term_passed, term-refused}
use Rattle.reading.proofs.Refusing.{passed, passed_on_lem, refused_by}
use Rattle.reading.specs.Area.{holding, cleared}
use Rattle.stepping.specs.Areas.{refused_areas}
use Rattle.stepping.specs.Held.{Holds}
use Rattle.stepping.specs.Stepping.{After, Stepped, admitted, step_to, step_next, step_admitted, stepping_of}

-- the areas of a call that is not refused by 1, 2 or 3
pub record Areas (area : List ℕ) (len : ℕ) (work : List ℕ) : Type 0 where
  pub short : length area ≤ area_limit
  pub room : length area ≤ length work
  pub within : len ≤ length area

pub areas_passed :
    {X : Type 0} (area : List ℕ) (len : ℕ) (work : List ℕ) (other : Reply X) (x : X) →
    refused_areas area len work other ≡ Reply.answered x → Areas area len work × (other ≡ Reply.answered x)
areas_passed area len work other x e =
    let third = refuse_if (ltb (length area) len) 3 other in
    let second = refuse_if (ltb (length work) (length area)) 2 third in
    let e₂ = passed_on_lem (ltb area_limit (length area)) 1 second x e in
    let e₃ = passed_on_lem (ltb (length work) (length area)) 2 third x e₂ in (
      record {
        short = ltb-false area_limit (length area) (passed (ltb area_limit (length area)) 1 second x e);
        room = ltb-false (length work) (length area) (passed (ltb (length work) (length area)) 2 third x e₂);
        within = ltb-false (length area) len (passed (ltb (length area) len) 3 other x e₃);
      },
      passed_on_lem (ltb (length area) len) 3 other x e₃,
    )

-- what 1, 2 and 3 pass on is refused behind them, of a length within the limit
pub areas-refused :
    {X : Type 0} (area : List ℕ) (len : ℕ) (work : List ℕ) (other : Reply X) (plain placed : List ℕ) (least most n p : ℕ) →
    (len ≤ area_limit → other ≡ Reply.refused n p → Refuses plain placed least most n p) →
    refused_areas area len work other ≡ Reply.refused n p → Refuses (1 ∷ 2 ∷ 3 ∷ plain) placed least most n p
areas-refused area len work other plain placed least most n p rest =
    refused_by (ltb area_limit (length area)) 1 n p _ (2 ∷ 3 ∷ plain) placed least most
    (λ short.
    refused_by (ltb (length work) (length area)) 2 n p _ (3 ∷ plain) placed least most
    (λ room.
    refused_by (ltb (length area) len) 3 n p other plain placed least most
    (λ within. rest (omega (arith, ltb-false area_limit (length area) short, ltb-false (length area) len within)))))

-- the term in the area is one
pub held_unique : (area : List ℕ) (len : ℕ) (t u : Term) → Holds area len t → Holds area len u → t ≡ u
held_unique area len t u a b = text_injective t u (sym a.written ∙ b.written)

-- what stepping answers of t where it does not refuse
pub data Answers (area work : List ℕ) (t : Term) : After → Type 0 where
  normal : Normal t → Answers area work t (After.after (Reply.answered (Stepped.normal (size t))) (holding t area) (cleared work))
  no_room :
      {rule : ℕ} {u : Term} → Step rule t u → length area < size u →
      Answers area work t (After.after (Reply.answered (Stepped.no_room (size t))) (holding t area) (cleared work))
  stepped :
      {rule : ℕ} {u : Term} → Step rule t u → size u ≤ length area →
      Answers area work t (After.after (Reply.answered (Stepped.stepped rule (size u))) (holding u area) (cleared work))

answers : (area work : List ℕ) (t : Term) → Answers area work t (step_next t (next t) area work)
answers area work t = go (next t) refl
  where
    room :
        (rule : ℕ) (u : Term) → Step rule t u → (fits : Bool) → leb (size u) (length area) ≡ fits →
        Answers area work t (step_to fits t rule u area work)
    room rule u s true e = Answers.stepped s (leb-true (size u) (length area) e)
    room rule u s false e = Answers.no_room s (leb-false (size u) (length area) e)

    go : (x : Next) → next t ≡ x → Answers area work t (step_next t x area work)
    go Next.stop e = Answers.normal ((next-is-stop t).0 e)
    go (Next.step rule u) e = room rule u ((next-is-step rule t u).0 e) (leb (size u) (length area)) refl

-- a call of stepping: refused with the areas as they were, or answered
pub data Call (area : List ℕ) (len : ℕ) (work : List ℕ) : After → Type 0 where
  refused :
      {number place : ℕ} → Refuses (1 ∷ 2 ∷ 3 ∷ []) (5 ∷ 6 ∷ 7 ∷ []) 0 (min len area_limit) number place →
      Call area len work (After.after (Reply.refused number place) area work)
  made : {after : After} (t : Term) → Areas area len work → Holds area len t → Answers area work t after → Call area len work after

-- what reading refuses of the first len bytes is at a place up to len
pub within-term :
    (area : List ℕ) (len n p : ℕ) → len ≤ area_limit → term_read (take len area) ≡ Reply.refused n p → Unread (min len area_limit) n p
within-term area len n p short e =
    let most : length (take len area) ≤ min len area_limit = omega (arith, length-take len area) in
    widened (omega arith) most (term-refused (take len area) n p e)

pub call : (area : List ℕ) (len : ℕ) (work : List ℕ) → Call area len work (stepping_of area len work)
unfolding stepping_of
call area len work = go (admitted area len work) refl
  where
    go : (x : Reply Term) → admitted area len work ≡ x → Call area len work (step_admitted x area work)
    go (Reply.refused n p) e =
        Call.refused
        (areas-refused area len work (term_read (take len area)) [] (5 ∷ 6 ∷ 7 ∷ []) 0 (min len area_limit) n p (within-term area len n p) e)
    go (Reply.answered t) e =
        let (areas, read) = areas_passed area len work (term_read (take len area)) t e in
        Call.made t areas (record { within = areas.within; written = term_passed (take len area) t read }) (answers area work t)
