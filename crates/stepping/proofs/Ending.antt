-- From the rewrite, what was written and what was cleared to the reply and the areas: each way out of `advance` and of `step` as one law.
-- Assumes nothing.
use Prim.Native.Nat.{ℕ, ◌-◌, ◌≤◌, ◌<◌}
use native.Mathlib.Omega.{arith}
use mathlib.Core.Path.{◌≡◌, sym, ◌∙◌, ap, ap₂}
use mathlib.Core.Bool.{Bool}
use mathlib.Core.List.{List, ◌++◌}
use borrow.Author.Tests.{le-ltb, le-leb, lt-leb}
use lib.Dec.{leb}
use lib.ListN.{length, take, replicate, length-take}
use lib.Seq.{length-take-le}
use Rattle.std.specs.Prelude.{Option}
use Rattle.calculus.specs.Limits.{area_limit}
use Rattle.calculus.specs.Term.{Term, text, size}
use Rattle.calculus.specs.Order.{Next, next}
use Rattle.calculus.proofs.PrefixCode.{length-text}
use Rattle.reading.specs.Reply.{Reply, passed_on}
use Rattle.reading.specs.Reading.{reading_of, term_read}
use Rattle.reading.specs.Answer.{refusal_of}
use Rattle.reading.specs.Area.{holding, cleared}
use Rattle.reading.specs.declared.Misread.{Misread}
use Rattle.reading.proofs.Terms.{whole-read, unread}
use Rattle.rewriting.specs.declared.Rewrite.{Rewrite}
use Rattle.rewriting.specs.Text.{rewritten}
use Rattle.reducing.specs.Makes.{Makes, NextBy}
use Rattle.writing.specs.Back.{Back}
use Rattle.stepping.specs.Held.{Holds}
use Rattle.stepping.specs.Stepping.{Stepped, After, step_to, step_next, step_admitted, stepping_of}

-- ---- the ways out of `advance`

module _ {area : List ℕ} {len : ℕ} {t : Term} (h : Holds area len t) where
  held-size : len ≡ size t
  held-size = omega (arith, length-take-le len area h.within, ap length h.written, length-text t)

  -- zeros behind the term
  holding-held : take len area ++ replicate (length area - len) 0 ≡ holding t area
  holding-held = ap₂ (λ (l : List ℕ) (n : ℕ). l ++ replicate (length area - n) 0) h.written held-size

  -- what is said of any text within the limit holds of the text of t
  pub held_next :
      (w : Option Rewrite) → length area ≤ area_limit →
      ((u : Term) → take len area ≡ text u → length (take len area) ≤ area_limit → NextBy u w) → NextBy t w
  held_next w short says = says t h.written (omega (arith, length-take len area, h.within))

  module _ (work : List ℕ) where
    -- where nothing comes next
    pub after-normal :
        {area' work' : List ℕ} → next t ≡ Next.stop →
        area' ≡ take len area ++ replicate (length area - len) 0 → work' ≡ cleared work →
        After.after (Reply.answered (Stepped.normal len)) area' work' ≡ step_next t (next t) area work
    after-normal e a w =
        ap₂ (λ (x y : List ℕ). After.after (Reply.answered (Stepped.normal len)) x y) (a ∙ holding-held) w
        ∙ ap (λ (n : ℕ). After.after (Reply.answered (Stepped.normal n)) (holding t area) (cleared work)) held-size
        ∙ sym (ap (λ (x : Next). step_next t x area work) e)

    module _ {w : Rewrite} (makes : Makes t w) where
      -- the step that comes next, by whether its term fits
      next-step : step_next t (next t) area work ≡ step_to (leb (size makes.reduct) (length area)) t w.rule makes.reduct area work
      next-step = ap (λ (x : Next). step_next t x area work) makes.step

      -- where it does not fit
      pub after-no-room :
          {g : ℕ} {area' work' : List ℕ} → g ≡ w.again.to - w.again.from → length area - len < g →
          area' ≡ take len area ++ replicate (length area - len) 0 → work' ≡ cleared work →
          After.after (Reply.answered (Stepped.no_room len)) area' work' ≡ step_next t (next t) area work
      after-no-room {g} e q a c =
          let large : length area < size makes.reduct = omega (arith, makes.exact (omega arith), held-size, h.within) in
          ap₂ (λ (x y : List ℕ). After.after (Reply.answered (Stepped.no_room len)) x y) (a ∙ holding-held) c
          ∙ ap (λ (n : ℕ). After.after (Reply.answered (Stepped.no_room n)) (holding t area) (cleared work)) held-size
          ∙ sym (next-step ∙ ap (λ (b : Bool). step_to b t w.rule makes.reduct area work) (lt-leb _ _ large))

      -- where it fits
      pub after-step :
          {g n : ℕ} {area' work' : List ℕ} → g ≡ w.again.to - w.again.from → g ≤ length area - len → length area ≤ length work →
          (length (rewritten w (take len area)) ≤ length area → length (rewritten w (take len area)) ≤ length work →
          Back (rewritten w (take len area)) area n area') →
          work' ≡ cleared work → After.after (Reply.answered (Stepped.stepped w.rule n)) area' work' ≡ step_next t (next t) area work
      after-step {g} {n} e q m back c =
          let u = makes.reduct in
          let small : size u ≤ length area = omega (arith, makes.grows, held-size, h.within) in
          let spelt : rewritten w (take len area) ≡ text u = ap (rewritten w) h.written ∙ makes.spelt in
          let long : length (rewritten w (take len area)) ≡ size u = ap length spelt ∙ length-text u in
          let written = back (omega arith) (omega arith) in
          ap₂
          (λ (x y : List ℕ). After.after (Reply.answered (Stepped.stepped w.rule n)) x y)
          (written.left ∙ ap₂ (λ (l : List ℕ) (k : ℕ). l ++ replicate (length area - k) 0) spelt long)
          c
          ∙ ap
          (λ (k : ℕ). After.after (Reply.answered (Stepped.stepped w.rule k)) (holding u area) (cleared work))
          (written.ends ∙ long)
          ∙ sym (next-step ∙ ap (λ (b : Bool). step_to b t w.rule u area work) (le-leb _ _ small))

-- ---- the ways out of `step`

module _
    (area : List ℕ) (len : ℕ) (work : List ℕ) (short : length area ≤ area_limit) (enough : length area ≤ length work) (within : len ≤ length area)
  where
    -- what is read decides
    read-decides : (r : Reply Term) → term_read (take len area) ≡ r → stepping_of area len work ≡ step_admitted r area work
    unfolding stepping_of
    read-decides r e = rw (le-ltb _ _ short, le-ltb _ _ enough, le-ltb _ _ within) (ap (λ (x : Reply Term). step_admitted x area work) e)

    -- what reading refuses
    pub reading_refused :
        (r : Misread) → passed_on (refusal_of r) ≡ reading_of (take len area) →
        After.after (passed_on (refusal_of r)) area work ≡ stepping_of area len work
    reading_refused r e = sym (read-decides (passed_on (refusal_of r)) (unread (take len area) r e))

    -- what reading answers
    pub reading-answered :
        (n : ℕ) → Reply.answered n ≡ reading_of (take len area) →
        (t : Term) × Holds area n t × (stepping_of area len work ≡ step_next t (next t) area work)
    reading-answered n e =
        let (t, written, sized, read) = whole-read (take len area) n e in
        let same : n ≡ len = omega (arith, sized, length-text t, ap length written, length-take len area) in (
          t,
          record { within = omega arith; written = ap (λ (k : ℕ). take k area) same ∙ written },
          read-decides (Reply.answered t) read,
        )
