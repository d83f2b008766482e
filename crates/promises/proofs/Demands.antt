-- The demands hold: each by the cases of a call, which `Calls` of each operation's crate has, and by what holds of every run. Assumes nothing.
use Prim.Native.Nat.{ℕ, ◌≤◌, ◌<◌}
use native.Mathlib.Omega.{arith}
use mathlib.Core.Path.{◌≡◌, refl, sym, ◌∙◌, ap, subst, subst₂}
use mathlib.Core.Logic.{◌↔◌, ◌⊎◌, inl, inr, ⊎_elim}
use mathlib.Core.List.Memᴰ
use mathlib.Core.List.{List, ◌∷◌, ◌++◌}
use lib.ListN.{length, take, drop, length-append}
use lib.Seq.{take_at}
use Rattle.calculus.specs.Term.{Term, text, size, Normal}
use Rattle.calculus.specs.Order.{Step}
use Rattle.calculus.specs.Turning.{Turn}
use Rattle.calculus.specs.Run.{Outcome, run, reached}
use Rattle.calculus.proofs.PrefixCode.{length-text}
use Rattle.calculus.proofs.Counts.{uses-total}
use Rattle.reading.specs.Reply.{Reply, Refuses}
use Rattle.reading.specs.Reading.{ReadsAs}
use Rattle.reading.proofs.Numbers.{Unread, reading_refused}
use Rattle.reading.proofs.Whole.{reads_as, reads_as_only}
use Rattle.reading.specs.Area.{holding, cleared}
use Rattle.stepping.specs.Held.{Holds}
use Rattle.stepping.specs.Stepping as stepping
use Rattle.stepping.proofs.Calls as step
use Rattle.finishing.specs.Finishing as finishing
use Rattle.finishing.proofs.Calls as finish
use Rattle.finishing.proofs.RunOf.{run_of, run-finishes, results_exactly, run-keeps}
use Rattle.words.specs.Word.{words_of}
use Rattle.counting.specs.Counting as counting
use Rattle.counting.proofs.Calls as counted
use Rattle.verdicts.specs.Comparing as comparing
use Rattle.verdicts.proofs.Calls as compare
use Rattle.joining.specs.Joins.{JoinsAs}
use Rattle.joining.proofs.Calls.{joins_exactly}
use Rattle.rows.specs.RingsAs.{RingsAs}
use Rattle.rows.proofs.Exactly.{rings_exactly}
use Rattle.entries.proofs.Exactly.{entering_refuses, enters_exactly}
use Rattle.entries.proofs.Calls.{number-bytes}
use Rattle.books.proofs.Exactly.{playing_refuses, plays_exactly}
use Rattle.small_admission.specs.Admission.{Refused}
use Rattle.small_terms.specs.Sweep.{SweepsAs}
use Rattle.small_terms.specs.Dearest.{FindsAs}
use Rattle.small_terms.proofs.Sweeps.{sweeps-exactly}
use Rattle.small_terms.proofs.Dearer.{finds-exactly}
use Rattle.derivation_files.specs.Checks.{ChecksAs}
use Rattle.derivation_files.proofs.Listed.{checking_refused}
use Rattle.derivation_files.proofs.Files.{accepted_exactly, claim_unique, claimed, accepted-derivable}
use Rattle.derivation_files.proofs.Checks.{checks_as, checks_as_only}
use Rattle.derivation_files.proofs.LaidOut.{laid_out}
use Rattle.matching.proofs.Claims.{match-exactly}
use Rattle.matching.proofs.Calls.{match_refused}
use Rattle.codes.proofs.InC.{in_c}
use Rattle.promises.specs.Demands.{StepRefuses, FinishRefuses, JoinRefuses, RowsRefuse, SmallTermsRefuse, SteppedTo, RanTo, ComparedTo, Demands}

step-refused :
    {area work area' work' : List ℕ} {len number place : ℕ} →
    step.Call area len work (stepping.After.after (Reply.refused number place) area' work') →
    StepRefuses len number place × (area' ≡ area) × (work' ≡ work)
step-refused (step.Call.refused m) = (m, refl, refl)
step-refused (step.made t _ _ x) = elim x [ ]

step-stepped :
    {area work area' work' : List ℕ} {len rule s : ℕ} →
    step.Call area len work (stepping.After.after (Reply.answered (stepping.Stepped.stepped rule s)) area' work') → SteppedTo area len work rule s area' work'
step-stepped (step.Call.made t areas held (step.Answers.stepped {u = u} step fits)) =
    record { start = t; next = u; held = held; step = step; fits = fits; sized = refl; area-holds = refl; work_cleared = refl }

step-normal :
    {area work area' work' : List ℕ} {len s : ℕ} →
    step.Call area len work (stepping.After.after (Reply.answered (stepping.Stepped.normal s)) area' work') →
    (t : Term) × Holds area len t × Normal t × (size t ≡ s) × (area' ≡ holding t area) × (work' ≡ cleared work)
step-normal (step.Call.made t areas held (step.Answers.normal n)) = (t, held, n, refl, refl, refl)

step_no_room :
    {area work area' work' : List ℕ} {len s : ℕ} →
    step.Call area len work (stepping.After.after (Reply.answered (stepping.Stepped.no_room s)) area' work') →
    (t : Term) × (rule : ℕ) × (u : Term) × Holds area len t × Step rule t u × (length area < size u) × (size t ≡ s) × (area' ≡ holding t area) × (work' ≡ cleared work)
step_no_room (step.Call.made t areas held (step.Answers.no_room {rule = rule} {u = u} step larger)) = (t, rule, u, held, step, larger, refl, refl, refl)

finish-refused :
    {area work area' work' : List ℕ} {len fuel number place : ℕ} {r : finishing.Ran} →
    finish.Call area len work fuel (finishing.After.after (Reply.refused number place) r area' work') →
    FinishRefuses len number place × (r ≡ finishing.no_run) × (area' ≡ area) × (work' ≡ work)
finish-refused (finish.Call.refused m) = (m, refl, refl, refl)

finish-ran :
    {area work area' work' : List ℕ} {len fuel n s : ℕ} {k : List ℕ} {o : Outcome} →
    finish.Call area len work fuel (finishing.After.after (Reply.answered tt) (finishing.Ran.ran o n k s) area' work') →
    RanTo area len work fuel o n k s area' work'
finish-ran {area = area} {fuel = fuel} (finish.Call.made t admits) =
    record {
      start = t;
      run = run fuel (length area) t;
      held = admits.held;
      run_of = run_of admits.admits;
      ends = refl;
      counted = refl;
      used = refl;
      together = uses-total fuel (length area) t;
      sized = refl;
      area-holds = refl;
      work_cleared = refl;
    }

count-refused :
    {area work counts area' work' counts' : List ℕ} {len fuel number place : ℕ} {r : finishing.Ran} →
    counted.Call area len work fuel counts (counting.After.after (Reply.refused number place) r area' work' counts') →
    FinishRefuses len number place × (r ≡ finishing.no_run) × (area' ≡ area) × (work' ≡ work) × (counts' ≡ counts)
count-refused (counted.Call.refused m) = (m, refl, refl, refl, refl)

count-ran :
    {area work counts area' work' counts' : List ℕ} {len fuel n s : ℕ} {k : List ℕ} {o : Outcome} →
    counted.Call area len work fuel counts (counting.After.after (Reply.answered tt) (finishing.Ran.ran o n k s) area' work' counts') →
    RanTo area len work fuel o n k s area' work' ×
    (counting.counts_size ≤ length counts) × (counts' ≡ words_of k ++ drop counting.counts_size counts)
count-ran {area = area} (counted.Call.made t room admits) = (finish-ran (finish.Call.made t admits), room, refl)

compare-ran :
    {first second work first' second' work' : List ℕ} {len₁ len₂ fuel : ℕ} {c : comparing.Compared} →
    compare.Call first len₁ second len₂ work fuel (comparing.After.after (Reply.answered c) first' second' work') →
    ComparedTo first len₁ second len₂ work fuel c first' second' work'
compare-ran {first = first} {second = second} {fuel = fuel} (compare.Call.made t u admits₁ admits₂) =
    record {
      start₁ = t;
      start₂ = u;
      run₁ = run fuel (length first) t;
      run₂ = run fuel (length second) u;
      held₁ = admits₁.held;
      held₂ = admits₂.held;
      run-of₁ = run_of admits₁.admits;
      run-of₂ = run_of admits₂.admits;
      verdict = refl;
      first_holds = refl;
      second_holds = refl;
      work_cleared = refl;
    }

compare-refused :
    {first second work first' second' work' : List ℕ} {len₁ len₂ fuel number place : ℕ} →
    compare.Call first len₁ second len₂ work fuel (comparing.After.after (Reply.refused number place) first' second' work') →
    (FinishRefuses len₁ number place ⊎ FinishRefuses len₂ number place) × (first' ≡ first) × (second' ≡ second) × (work' ≡ work)
compare-refused (compare.Call.first-refused m) = (inl m, refl, refl, refl)
compare-refused (compare.Call.second-refused m) = (inr m, refl, refl, refl)

-- a refusal of reading is one of joining
of_reading_lem : {term : List ℕ} {number place : ℕ} → ReadsAs term (Reply.refused number place) → JoinRefuses term number place
of_reading_lem {term} {number} {place} r = listed (reading_refused term number place (reads_as_only r))
  where
    listed : Unread (length term) number place → JoinRefuses term number place
    listed (Refuses.at_zero m here) = absurd (elim m [ ])
    listed (Refuses.at_place m low high) = Refuses.at_place m low high

join-refused :
    {f g area area' : List ℕ} {number place : ℕ} → JoinsAs f g area (Reply.refused number place) area' →
    (JoinRefuses f number place ⊎ JoinRefuses g number place) × (area' ≡ area)
join-refused (JoinsAs.first-refused r) = (inl (of_reading_lem r), refl)
join-refused (JoinsAs.second-refused t e r) = (inr (of_reading_lem r), refl)
join-refused (JoinsAs.too_large t u d e large) = (inl (Refuses.at_zero (Memᴰ.head refl) refl), refl)

rows-refused :
    {bytes table table' : List ℕ} {n number place : ℕ} → RingsAs bytes n table (Reply.refused number place) table' →
    RowsRefuse bytes number place × (table' ≡ table)
rows-refused {bytes = bytes} {number = number} {place = place} (RingsAs.unread r) =
    (listed (reading_refused bytes number place (reads_as_only r)), refl)
  where
    listed : Unread (length bytes) number place → RowsRefuse bytes number place
    listed (Refuses.at_zero m here) = absurd (elim m [ ])
    listed (Refuses.at_place m low high) = inl (Refuses.at_place m low high)
rows-refused (RingsAs.too_few t e few) = (inl (Refuses.at_zero (Memᴰ.head refl) refl), refl)
rows-refused (RingsAs.too_many t e many) = (inl (Refuses.at_zero (Memᴰ.head refl) refl), refl)
rows-refused (RingsAs.no_chain t e none) = (inl (Refuses.at_zero (Memᴰ.head refl) refl), refl)
rows-refused (RingsAs.uneven t bells e c low high none) = (inl (Refuses.at_zero (Memᴰ.tail (Memᴰ.head refl)) refl), refl)
rows-refused (RingsAs.past_limit w large) = (inl (Refuses.at_zero (Memᴰ.tail (Memᴰ.head refl)) refl), refl)
rows-refused (RingsAs.past_table w large) = (inl (Refuses.at_zero (Memᴰ.tail (Memᴰ.head refl)) refl), refl)
rows-refused (RingsAs.bad-row good bad others w limited room all-good is-bad) =
    let before = length-append good (bad ∷ others) in
    (inr (Refuses.at_place (Memᴰ.head refl) (omega arith) (omega arith)), refl)

small-refused : {n fuel area number : ℕ} → Refused n fuel area number → SmallTermsRefuse number 0
small-refused (Refused.not-small h) = Refuses.at_zero (Memᴰ.head refl) refl
small-refused (Refused.fuel_too_high s h) = Refuses.at_zero (Memᴰ.tail (Memᴰ.head refl)) refl
small-refused (Refused.area_too_long s f h) = Refuses.at_zero (Memᴰ.tail (Memᴰ.tail (Memᴰ.head refl))) refl
small-refused (Refused.area_too_short s f a h) =
    Refuses.at_zero (Memᴰ.tail (Memᴰ.tail (Memᴰ.tail (Memᴰ.head refl)))) refl

sweep-refused : {n fuel area number place : ℕ} → SweepsAs n fuel area (Reply.refused number place) → SmallTermsRefuse number place
sweep-refused (SweepsAs.refuses r) = small-refused r

dearest-refused : {n fuel area number place : ℕ} → FindsAs n fuel area (Reply.refused number place) → SmallTermsRefuse number place
dearest-refused (FindsAs.refuses r) = small-refused r

-- the area of a run that is not refused holds the text of the term reached at its start
reached-text :
    {area work area' work' : List ℕ} {len fuel n s : ℕ} {k : List ℕ} {o : Outcome} (r : RanTo area len work fuel o n k s area' work') →
    take s area' ≡ text (reached r.start r.run)
reached-text {s = s} r =
    let left = reached r.start r.run in
    ap (take s) r.area-holds ∙ take_at (text left) _ s (length-text left ∙ r.sized)

-- the results of two finished runs are equal exactly when their first terms turn into each other
results_of_lem :
    {area₁ work₁ area₁' work₁' area₂ work₂ area₂' work₂' : List ℕ} {len₁ fuel₁ n₁ s₁ len₂ fuel₂ n₂ s₂ : ℕ} {k₁ k₂ : List ℕ}
    (r₁ : RanTo area₁ len₁ work₁ fuel₁ Outcome.finished n₁ k₁ s₁ area₁' work₁')
    (r₂ : RanTo area₂ len₂ work₂ fuel₂ Outcome.finished n₂ k₂ s₂ area₂' work₂') →
    (take s₁ area₁' ≡ take s₂ area₂') ↔ Turn r₁.start r₂.start
results_of_lem r₁ r₂ =
    let exactly = results_exactly r₁.run_of r₂.run_of r₁.ends r₂.ends in
    (λ e. exactly.0 (sym (reached-text r₁) ∙ e ∙ reached-text r₂), λ turns. reached-text r₁ ∙ exactly.1 turns ∙ sym (reached-text r₂))

-- a finished call of finishing ran
ran_of_lem :
    (area work area' work' : List ℕ) (len fuel : ℕ) (o : Outcome) (n : ℕ) (k : List ℕ) (s : ℕ) →
    finishing.finishing_of area len work fuel ≡ finishing.After.after (Reply.answered tt) (finishing.Ran.ran o n k s) area' work' →
    RanTo area len work fuel o n k s area' work'
ran_of_lem area work area' work' len fuel o n k s e = finish-ran (subst (finish.Call area len work fuel) e (finish.call area len work fuel))

-- so they are of two terms' runs
equal_of :
    (area₁ work₁ area₁' work₁' area₂ work₂ area₂' work₂' : List ℕ) (len₁ fuel₁ n₁ s₁ len₂ fuel₂ n₂ s₂ : ℕ) (k₁ k₂ : List ℕ) (t u : Term) →
    Holds area₁ len₁ t →
    Holds area₂ len₂ u →
    finishing.finishing_of area₁ len₁ work₁ fuel₁ ≡ finishing.After.after (Reply.answered tt) (finishing.Ran.ran Outcome.finished n₁ k₁ s₁) area₁' work₁' →
    finishing.finishing_of area₂ len₂ work₂ fuel₂ ≡ finishing.After.after (Reply.answered tt) (finishing.Ran.ran Outcome.finished n₂ k₂ s₂) area₂' work₂' →
    (take s₁ area₁' ≡ take s₂ area₂') ↔ Turn t u
equal_of area₁ work₁ area₁' work₁' area₂ work₂ area₂' work₂' len₁ fuel₁ n₁ s₁ len₂ fuel₂ n₂ s₂ k₁ k₂ t u held₁ held₂ e₁ e₂ =
    let r₁ = ran_of_lem area₁ work₁ area₁' work₁' len₁ fuel₁ Outcome.finished n₁ k₁ s₁ e₁ in
    let r₂ = ran_of_lem area₂ work₂ area₂' work₂' len₂ fuel₂ Outcome.finished n₂ k₂ s₂ e₂ in
    subst₂ (λ (x y : Term). (take s₁ area₁' ≡ take s₂ area₂') ↔ Turn x y)
    (step.held_unique area₁ len₁ r₁.start t r₁.held held₁)
    (step.held_unique area₂ len₂ r₂.start u r₂.held held₂)
    (results_of_lem r₁ r₂)

pub demands : Demands
demands =
    record {
      reading_refuses = reading_refused;
      stepping_refuses = λ area work area' work' len number place e. step-refused (subst (step.Call area len work) e (step.call area len work));
      finishing_refuses =
          λ area work area' work' len fuel number place r e. finish-refused (subst (finish.Call area len work fuel) e (finish.call area len work fuel));
      counting_refuses =
          λ area work counts area' work' counts' len fuel number place r e.
          count-refused (subst (counted.Call area len work fuel counts) e (counted.call area len work fuel counts));
      comparing_refuses =
          λ first second work first' second' work' len₁ len₂ fuel number place e.
          compare-refused (subst (compare.Call first len₁ second len₂ work fuel) e (compare.call first len₁ second len₂ work fuel));
      joining_refuses = λ f g area area' number place e. join-refused ((joins_exactly f g area area' (Reply.refused number place)).0 e);
      rows_refuse = λ bytes n table table' number place e. rows-refused ((rings_exactly bytes n table table' (Reply.refused number place)).0 e);
      entering_refuses = entering_refuses;
      playing_refuses = playing_refuses;
      sweep-refuses = λ n fuel area number place e. sweep-refused ((sweeps-exactly n fuel area (Reply.refused number place)).0 e);
      dearest-refuses = λ n fuel area number place e. dearest-refused ((finds-exactly n fuel area (Reply.refused number place)).0 e);
      checking_refuses = checking_refused;
      matching_refuses =
          λ first second number line e.
          ⊎_elim (λ f. inl (checking_refused first number line f)) (λ f. inr (checking_refused second number line f))
          (match_refused first second number line e);
      in_c = in_c;
      reads = λ bytes reply. (λ e. subst (ReadsAs bytes) e (reads_as bytes), reads_as_only);
      stepped = λ area work area' work' len rule s e. step-stepped (subst (step.Call area len work) e (step.call area len work));
      normal = λ area work area' work' len s e. step-normal (subst (step.Call area len work) e (step.call area len work));
      no_room = λ area work area' work' len s e. step_no_room (subst (step.Call area len work) e (step.call area len work));
      ran = ran_of_lem;
      counted =
          λ area work counts area' work' counts' len fuel o n k s e.
          count-ran (subst (counted.Call area len work fuel counts) e (counted.call area len work fuel counts));
      compared =
          λ first second work first' second' work' len₁ len₂ fuel c e.
          compare-ran (subst (compare.Call first len₁ second len₂ work fuel) e (compare.call first len₁ second len₂ work fuel));
      run-finishes = λ area work len fuel t r. run-finishes;
      joins = joins_exactly;
      rings = rings_exactly;
      enters = enters_exactly;
      plays = plays_exactly;
      sweeps = sweeps-exactly;
      finds = finds-exactly;
      checks = λ file reply. (λ e. subst (ChecksAs file) e (checks_as file), λ c. sym (checks_as_only file reply c));
      accepted_exactly = accepted_exactly;
      claimed = λ file n. claimed;
      one-claim = λ file j k c d. claim_unique c d;
      claim-derivable = λ file j claims. accepted-derivable claims;
      laid_out = λ j earlier. laid_out;
      matched = λ first second G D t u W X. match-exactly;
      equal_exactly = equal_of;
      results_exactly = λ area₁ work₁ area₂ work₂ len₁ fuel₁ len₂ fuel₂ t u r s. results_exactly;
      one_number =
          λ area₁ work₁ area₁' work₁' area₂ work₂ area₂' work₂' len₁ fuel₁ n₁ s₁ len₂ fuel₂ n₂ s₂ k₁ k₂ t u store store' calls e₁ e₂ held₁ held₂
          ran₁ ran₂ led m₁ m₂.
          let numbers = number-bytes store store' (take s₁ area₁') (take s₂ area₂') calls e₁ e₂ led m₁ m₂ in
          let terms =
          equal_of area₁ work₁ area₁' work₁' area₂ work₂ area₂' work₂' len₁ fuel₁ n₁ s₁ len₂ fuel₂ n₂ s₂ k₁ k₂ t u held₁ held₂ ran₁ ran₂ in
          (λ e. terms.0 (numbers.0 e), λ turns. numbers.1 (terms.1 turns));
      kept = λ file G t W area work len fuel r claims run_of. run-keeps G W run_of (accepted-derivable claims);
    }
