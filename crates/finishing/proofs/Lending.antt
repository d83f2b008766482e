-- A step in the front of the areas, as far as the next term can need, is the step in the whole areas. Assumes nothing.
use Prim.Native.Nat.{ℕ, ◌-◌, ◌*◌, ◌≤◌, min}
use native.Mathlib.Omega.{arith}
use mathlib.Core.Path.{◌≡◌, refl, sym, ◌∙◌, ap, subst}
use mathlib.Core.Bool.{Bool, true, false}
use mathlib.Core.List.{List, ◌++◌, append_assoc}
use borrow.Author.Tests.{le-ltb, leb-true, leb-false}
use lib.Dec.{leb}
use lib.ListN.{length, take, drop, replicate, length-append, length-take}
use lib.Seq.{take-take, take_at, length-take-le}
use Rattle.std.specs.Prelude.{Result, Ok, Err, IsOk}
use Rattle.calculus.specs.Term.{Term, text, size}
use Rattle.calculus.specs.Order.{Next, next}
use Rattle.calculus.proofs.PrefixCode.{length-text}
use Rattle.calculus.proofs.Sizes.{next-size}
use Rattle.reading.specs.Reply.{Reply}
use Rattle.reading.specs.Reading.{term_read}
use Rattle.reading.specs.Area.{holding}
use Rattle.reading.proofs.Terms.{term-read}
use Rattle.stepping.specs.Held.{Holds}
use Rattle.stepping.specs.declared.Stepped.{Stepped as Declared}
use Rattle.stepping.specs.declared.Refused.{Refused}
use Rattle.stepping.specs.Answer.{answer_of}
use Rattle.stepping.specs.Stepping.{Stepped, After, step_to, step_next, step_admitted, stepping_of}
use Rattle.finishing.specs.Loop.{StepsOn}

-- the length is the size of the term
pub held-size : {area : List ℕ} {len : ℕ} {t : Term} → Holds area len t → len ≡ size t
held-size {area} {len} {t} h = sym (length-take-le len area h.within) ∙ ap length h.written ∙ length-text t

-- stepping makes the next step of the term that it is lent
stepping_held :
    (area : List ℕ) (len : ℕ) (work : List ℕ) (t : Term) → length area ≤ 16384 → length area ≤ length work → Holds area len t →
    stepping_of area len work ≡ step_next t (next t) area work
unfolding stepping_of
stepping_held area len work t short room h =
    let within : len ≤ length area = h.within in
    rw (le-ltb _ _ short, le-ltb _ _ room, le-ltb _ _ within) (ap (λ (x : Reply Term). step_admitted x area work) (ap term_read h.written ∙ term-read t))

-- what stands at the front of a part stands at the front of the whole
held-front : (part rest area : List ℕ) (t : Term) → area ≡ holding t part → Holds (area ++ rest) (size t) t
held-front part rest area t e =
    let zeros : List ℕ = replicate (length part - size t) 0 in
    let whole : area ++ rest ≡ text t ++ (zeros ++ rest) = ap (λ (l : List ℕ). l ++ rest) e ∙ append_assoc (text t) zeros rest in
    record {
      within = omega (arith, ap length whole, length-append (text t) (zeros ++ rest), length-text t);
      written = ap (take (size t)) whole ∙ take_at (text t) (zeros ++ rest) (size t) (length-text t);
    }

module _ (area : List ℕ) (len : ℕ) (work : List ℕ) (n : ℕ) (t : Term) (reply : Reply Stepped) (area' work' : List ℕ) where
  -- the next term fits the part exactly where it fits the whole
  lent-next :
      n ≡ min (length area) (2 * len) → len ≡ size t → (x : Next) → next t ≡ x →
      After.after reply area' work' ≡ step_next t x (take n area) (take n work) → StepsOn area (area' ++ drop n area) t reply
  lent-next part sized Next.stop f e =
      let answer : reply ≡ Reply.answered (Stepped.normal (size t)) = cc in
      let held : area' ≡ holding t (take n area) = cc in
      subst (StepsOn area (area' ++ drop n area) t) (sym answer) (StepsOn.normal f (held-front (take n area) (drop n area) area' t held))
  lent-next part sized (Next.step rule u) f e = go (leb (size u) (length (take n area))) refl e
    where
      long : length (take n area) ≡ n
      long = omega (arith, length-take n area)

      go :
          (fits : Bool) → leb (size u) (length (take n area)) ≡ fits →
          After.after reply area' work' ≡ step_to fits t rule u (take n area) (take n work) → StepsOn area (area' ++ drop n area) t reply
      go true b e =
          let answer : reply ≡ Reply.answered (Stepped.stepped rule (size u)) = cc in
          let held : area' ≡ holding u (take n area) = cc in
          subst (StepsOn area (area' ++ drop n area) t) (sym answer)
          (StepsOn.stepped f (omega (arith, long, leb-true (size u) (length (take n area)) b)) (held-front (take n area) (drop n area) area' u held))
      go false b e =
          let answer : reply ≡ Reply.answered (Stepped.no_room (size t)) = cc in
          let held : area' ≡ holding t (take n area) = cc in
          subst (StepsOn area (area' ++ drop n area) t) (sym answer)
          (StepsOn.no_room f (omega (arith, long, leb-false (size u) (length (take n area)) b, next-size t f)) (held-front (take n area) (drop n area) area' t held))

  -- what stepping makes of the fronts is what comes next in the whole
  pub lent-steps :
      n ≡ min (length area) (2 * len) → length area ≤ 16384 → length area ≤ length work → Holds area len t →
      After.after reply area' work' ≡ stepping_of (take n area) len (take n work) → StepsOn area (area' ++ drop n area) t reply
  lent-steps part short room h e =
      let long : length (take n area) ≡ n = omega (arith, length-take n area) in
      let enough : length (take n work) ≡ n = omega (arith, length-take n work) in
      let sized : len ≡ size t = held-size h in
      let within : len ≤ n = omega (arith, h.within) in
      let front : Holds (take n area) len t = record { within = omega arith; written = take-take len n area within ∙ h.written } in
      lent-next part sized (next t) refl (e ∙ stepping_held (take n area) len (take n work) t (omega arith) (omega arith) front)

-- stepping did not refuse
pub never-refused : {area area' : List ℕ} {t : Term} (r : Result Declared Refused) → StepsOn area area' t (answer_of r) → IsOk r
never-refused (Ok x) s = refl
never-refused (Err e) s = elim s [ ]
