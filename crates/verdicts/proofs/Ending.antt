-- From what was admitted and what the two runs reached to the reply and the areas: each way out of `compare` as one law.
-- Assumes nothing.
use Prim.Native.Nat.{ℕ, ◌-◌}
use mathlib.Core.Path.{◌≡◌, refl, sym, ◌∙◌, ap, ap₂}
use mathlib.Core.List.{List}
use lib.ListN.{length, take, replicate, length-replicate}
use lib.Seq.{take_at}
use Rattle.std.specs.Prelude.{Result, Ok, Err, IsOk}
use Rattle.slices.specs.Part.{part}
use Rattle.slices.proofs.Part.{part-front}
use Rattle.calculus.specs.Term.{Term, text, size}
use Rattle.calculus.specs.Run.{Outcome, run, outcome, reached}
use Rattle.calculus.specs.Run as calculus
use Rattle.calculus.proofs.PrefixCode.{length-text}
use Rattle.reading.specs.Reply.{Reply, passed_on}
use Rattle.reading.specs.Area.{holding, cleared}
use Rattle.admission.specs.Admission.{admitted, admission}
use Rattle.admission.specs.Answer.{refusal_of}
use Rattle.admission.specs.declared.Refused.{Refused}
use Rattle.admission.proofs.Answers.{admission-refused, admission-answered}
use Rattle.finishing.specs.Finishing.{After as Finish, record_of, finishing_of}
use Rattle.finishing.specs.Answer.{outcome_of, ran_of, reply_of, ran_in}
use Rattle.finishing.specs.declared.Run.{Run}
use Rattle.finishing.proofs.RunOf.{run_of, run-finishes}
use Rattle.verdicts.specs.Answer.{compared_of, answer_of}
use Rattle.verdicts.specs.Comparing.{Compared, After, verdict, first_admitted, comparing_of}
use Rattle.verdicts.specs.declared.Verdict.{Verdict}
use Rattle.verdicts.specs.Turning.{SameIfTurned}
use Rattle.verdicts.proofs.Turning.{same_if_turned}

-- ---- one run

-- the run r from t, as finishing left it
record Finishes (t : Term) (r : calculus.Run) (one : Run) (area work area' work' : List ℕ) : Type 0 where
  ends : outcome_of one.outcome ≡ outcome r
  result : part 0 one.size area' ≡ text (reached t r)
  held : area' ≡ holding (reached t r) area
  clear : work' ≡ cleared work

finishes :
    (area : List ℕ) (len : ℕ) (work : List ℕ) (fuel : ℕ) (t : Term) → admitted area len work fuel ≡ Reply.answered t →
    (one : Run) (area' work' : List ℕ) →
    Finish.after (Reply.answered tt) (ran_of one) area' work' ≡ finishing_of area len work fuel →
    Finishes t (run fuel (length area) t) one area work area' work'
finishes area len work fuel t e one area' work' is =
    let r = run fuel (length area) t in
    let end = reached t r in
    let zeros : List ℕ = replicate (length area - size end) 0 in
    let whole :
    Finish.after (Reply.answered tt) (ran_of one) area' work' ≡ Finish.after (Reply.answered tt) (record_of t r) (holding end area) (cleared work) =
    is ∙ run-finishes (run_of e) in
    let ends : outcome_of one.outcome ≡ outcome r = cc in
    let sized : one.size ≡ size end = cc in
    let held : area' ≡ holding end area = cc in
    let clear : work' ≡ cleared work = cc in
    record {
      ends = ends;
      result = part-front one.size area' ∙ ap₂ take sized held ∙ take_at (text end) zeros (size end) (length-text end);
      held = held;
      clear = clear;
    }

-- of the work area its length alone is tested
admitted_work :
    (area : List ℕ) (len : ℕ) (work work' : List ℕ) (fuel : ℕ) → length work' ≡ length work →
    admitted area len work' fuel ≡ admitted area len work fuel
admitted_work area len work work' fuel e = rw e

-- a call that is admitted is not refused
pub admitted-finishes :
    (area : List ℕ) (len : ℕ) (work work' : List ℕ) (fuel : ℕ) (r : Result Run Refused) (area' after : List ℕ) →
    length work' ≡ length work → Reply.answered tt ≡ admission (admitted area len work fuel) →
    Finish.after (reply_of r) (ran_in r) area' after ≡ finishing_of area len work' fuel → IsOk r
admitted-finishes area len work work' fuel (Ok one) area' after wide said is = refl
admitted-finishes area len work work' fuel (Err refused) area' after wide said is =
    let (t, e) = admission-answered (admitted area len work fuel) said in
    cc (is ∙ run-finishes (run_of (admitted_work area len work work' fuel wide ∙ e)))

-- ---- the ways out of `compare`

-- both promises, of an answer and the areas at exit
abbrev Promised :
    (first : List ℕ) (len₁ : ℕ) (second : List ℕ) (len₂ : ℕ) (work : List ℕ) (fuel : ℕ) → Reply Compared → (first' second' work' : List ℕ) →
    Type 0
Promised first len₁ second len₂ work fuel answer first' second' work' =
    (After.after answer first' second' work' ≡ comparing_of first len₁ second len₂ work fuel) × SameIfTurned answer first len₁ second len₂ work fuel

module _ (first : List ℕ) (len₁ : ℕ) (second : List ℕ) (len₂ : ℕ) (work : List ℕ) (fuel : ℕ) where
  -- the first is the second's reason
  promised :
      (answer : Reply Compared) (first' second' work' : List ℕ) →
      After.after answer first' second' work' ≡ comparing_of first len₁ second len₂ work fuel →
      Promised first len₁ second len₂ work fuel answer first' second' work'
  promised answer first' second' work' e = (e, same_if_turned answer first' second' work' first len₁ second len₂ work fuel e)

  -- what is refused of the first
  pub after-first-refused :
      (e : Refused) → passed_on (refusal_of e) ≡ admission (admitted first len₁ work fuel) →
      Promised first len₁ second len₂ work fuel (answer_of (Err e)) first second work
  unfolding comparing_of
  after-first-refused e said =
      promised (answer_of (Err e)) first second work
      (sym (ap (λ (x : Reply Term). first_admitted x (admitted second len₂ work fuel) first second work fuel) (admission-refused (admitted first len₁ work fuel) said)))

  module _ (said₁ : Reply.answered tt ≡ admission (admitted first len₁ work fuel)) where
    -- what is refused of the second
    pub after-second-refused :
        (e : Refused) → passed_on (refusal_of e) ≡ admission (admitted second len₂ work fuel) →
        Promised first len₁ second len₂ work fuel (answer_of (Err e)) first second work
    unfolding comparing_of
    after-second-refused e said =
        let (t, d) = admission-answered (admitted first len₁ work fuel) said₁ in
        promised (answer_of (Err e)) first second work
        (sym (ap₂ (λ (x y : Reply Term). first_admitted x y first second work fuel) d (admission-refused (admitted second len₂ work fuel) said)))

    -- both runs
    pub after_both :
        Reply.answered tt ≡ admission (admitted second len₂ work fuel) →
        (one two : Run) (first' second' work₁ work₂ : List ℕ) (v : Verdict) →
        Finish.after (Reply.answered tt) (ran_of one) first' work₁ ≡ finishing_of first len₁ work fuel →
        Finish.after (Reply.answered tt) (ran_of two) second' work₂ ≡ finishing_of second len₂ work₁ fuel →
        compared_of v ≡ verdict (outcome_of one.outcome) (outcome_of two.outcome) (part 0 one.size first') (part 0 two.size second') →
        Promised first len₁ second len₂ work fuel (answer_of (Ok v)) first' second' work₂
    unfolding comparing_of
    after_both said₂ one two first' second' work₁ work₂ v is₁ is₂ says =
        let (t, e) = admission-answered (admitted first len₁ work fuel) said₁ in
        let (u, f) = admission-answered (admitted second len₂ work fuel) said₂ in
        let r = run fuel (length first) t in
        let s = run fuel (length second) u in
        let ran₁ = finishes first len₁ work fuel t e one first' work₁ is₁ in
        let wide : length work₁ ≡ length work = ap length ran₁.clear ∙ length-replicate (length work) 0 in
        let ran₂ = finishes second len₂ work₁ fuel u (admitted_work second len₂ work work₁ fuel wide ∙ f) two second' work₂ is₂ in
        let clear : work₂ ≡ cleared work = ran₂.clear ∙ ap (λ (n : ℕ). replicate n 0) wide in
        let said : compared_of v ≡ verdict (outcome r) (outcome s) (text (reached t r)) (text (reached u s)) =
        says
        ∙ ap₂ (λ (o p : Outcome). verdict o p (part 0 one.size first') (part 0 two.size second')) ran₁.ends ran₂.ends
        ∙ ap₂ (λ (x y : List ℕ). verdict (outcome r) (outcome s) x y) ran₁.result ran₂.result in
        promised (answer_of (Ok v)) first' second' work₂
        (ap₂ (λ (x : Compared) (w : List ℕ). After.after (Reply.answered x) first' second' w) said clear
        ∙ ap₂ (λ (x y : List ℕ). After.after (Reply.answered (verdict (outcome r) (outcome s) (text (reached t r)) (text (reached u s)))) x y (cleared work)) ran₁.held ran₂.held
        ∙ sym (ap₂ (λ (x y : Reply Term). first_admitted x y first second work fuel) e f))
