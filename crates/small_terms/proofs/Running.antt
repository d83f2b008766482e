-- The run of a small term by its index: the text that was written is that of the term, so finishing runs it. Assumes nothing.
use Prim.Native.Nat.{ℕ, ◌≤◌, ◌<◌}
use native.Mathlib.Omega.{arith}
use Rattle.std.proofs.Common.{Result, Ok, Err, IsOk}
use mathlib.Core.Path.{◌≡◌, refl, sym, ◌∙◌, ap}
use mathlib.Core.List.{List, ◌++◌}
use lib.ListN.{length, take, drop}
use lib.Seq.{take_at, length-take-le, length_front}
use Rattle.calculus.specs.Term.{Term, text}
use Rattle.calculus.specs.Run.{Outcome, run, outcome, count}
use Rattle.reading.specs.Reply.{Reply}
use Rattle.reading.specs.Reading.{term_read}
use Rattle.reading.proofs.Terms.{term-read}
use Rattle.admission.specs.Admission.{admitted}
use Rattle.admission.proofs.Admitting.{read-decides}
use Rattle.finishing.specs.Finishing.{Ran as Record, After, ran_from, finishing_of}
use Rattle.finishing.specs.Answer.{outcome_of, ran_of, reply_of, ran_in}
use Rattle.finishing.specs.declared.Run.{Run as Made}
use Rattle.admission.specs.declared.Refused.{Refused}
use Rattle.finishing.proofs.RunOf.{run_of, run-finishes}
use Rattle.small_texts.specs.Texts.{text_at, term_at, ways}
use Rattle.small_texts.specs.Writing.{written}
use Rattle.small_texts.proofs.Indexed.{text_at_lem, text-long, text-written}
use Rattle.small_terms.specs.Loop.{Ready, Ran}

-- the parts of what finishing answers and leaves
abbrev reply_in : After → Reply Unit
reply_in (After.after reply made area work) = reply

abbrev outcome_in : After → Outcome
outcome_in (After.after reply (Record.ran o k uses size) area work) = o

abbrev count_in : After → ℕ
count_in (After.after reply (Record.ran o k uses size) area work) = k

-- what is not refused is a run
answered-ok : (r : Result Made Refused) → reply_of r ≡ Reply.answered tt → IsOk r
answered-ok (Ok made) e = refl
answered-ok (Err refused) e = cc

-- what finishing answers, once the text is written to the front of the area
module _ (n i fuel : ℕ) (area work : List ℕ) (ready : Ready n fuel area work) (inside : i < ways 1 n)
    (front : List ℕ) (says : front ≡ written i (take n area)) (r : Result Made Refused) (area' work' : List ℕ)
    (e : After.after (reply_of r) (ran_in r) area' work' ≡ finishing_of (front ++ drop n area) n work fuel) where
  abbrev t : Term
  t = term_at n i

  whole : front ≡ text_at n i
  whole = says ∙ text-written n i (take n area) (length-take-le n area ready.asked.room) ready.asked.small.1 inside

  level : length (front ++ drop n area) ≡ length area
  level = length_front area front n (ap length whole ∙ text-long n i inside ∙ sym (length-take-le n area ready.asked.room))

  held : take n (front ++ drop n area) ≡ text t
  held = take_at front (drop n area) n (ap length whole ∙ text-long n i inside) ∙ whole ∙ text_at_lem n i inside

  admits : admitted (front ++ drop n area) n work fuel ≡ Reply.answered t
  admits =
      read-decides (front ++ drop n area) n work fuel (omega (arith, level, ready.asked.short)) (omega (arith, level, ready.level))
      (omega (arith, level, ready.asked.room)) ready.asked.fuelled (Reply.answered t) (ap term_read held ∙ term-read t)

  ran :
      After.after (reply_of r) (ran_in r) area' work' ≡ ran_from t (run fuel (length (front ++ drop n area)) t) (front ++ drop n area) work
  ran = e ∙ run-finishes (run_of {area = front ++ drop n area} {work = work} {len = n} {fuel = fuel} {t = t} admits)

  -- is a run
  pub runs-one : IsOk r
  runs-one = answered-ok r (ap reply_in ran)

  -- that of the term
  pub ran-one : (made : Made) → r ≡ Ok made → made.count ≤ fuel → Ran n i fuel (length area) (outcome_of made.outcome) made.count
  ran-one made is bounded =
      let same :
      After.after (Reply.answered tt) (ran_of made) area' work'
      ≡ ran_from t (run fuel (length (front ++ drop n area)) t) (front ++ drop n area) work
      = ap (λ (x : Result Made Refused). After.after (reply_of x) (ran_in x) area' work') (sym is) ∙ ran in
      record {
        ends = ap outcome_in same ∙ ap (λ (a : ℕ). outcome (run fuel a t)) level;
        counts = ap count_in same ∙ ap (λ (a : ℕ). count (run fuel a t)) level;
        bounded = omega (arith, ready.asked.fuelled);
      }
