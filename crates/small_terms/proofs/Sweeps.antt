-- The sweep as a function and as a relation agree: each reply has its condition, and the numbers are those of every small term's run.
-- Carried by `run` being finishing's loop, and by the one list of small terms. Assumes nothing.
use Prim.Native.Nat.{ℕ, suc, ◌+◌, ◌*◌, ◌≤◌}
use native.Mathlib.Omega.{arith}
use mathlib.Core.Path.{◌≡◌, refl, sym, ◌∙◌, ap, subst}
use mathlib.Core.Logic.{◌↔◌}
use mathlib.Core.List.Memᴰ
use mathlib.Core.List.{List, [], ◌∷◌, map, Memᴰ}
use lib.ListN.{length, length-map}
use Rattle.calculus.specs.Term.{Term}
use Rattle.calculus.specs.Run.{Outcome, Run, Runs, run, outcome, count}
use Rattle.calculus.proofs.Runs.{run-runs, runs-run}
use Rattle.reading.specs.Reply.{Reply, passed_on}
use Rattle.small_texts.specs.Texts.{small_terms, ways}
use Rattle.small_texts.proofs.Each.{each-small, each_unique}
use Rattle.small_admission.specs.Admission.{admitted, if_admitted, Admitted}
use Rattle.small_terms.specs.Sweep.{Swept, ending, steps_of, swept_of, sweep_of, Sums, SweepsAs}
use Rattle.small_admission.specs.Answer.{refusal_of}
use Rattle.small_terms.specs.Loop.{Summed}
use Rattle.small_admission.specs.declared.Refused.{Refused}
use Rattle.small_admission.proofs.Admitting.{refused-is, admitted-is, Decided, decided}
use Rattle.small_terms.proofs.Summing.{held_by, summed-all}
use Rattle.small_admission.proofs.Replies.{said-refused, said-answered}
use Rattle.small_terms.proofs.Finished.{some-finished, counts-parted, steps-fuel, all_end}

-- ---- what runs come to

-- one run in front of others
abbrev in_front : Outcome → ℕ → Swept → Swept
in_front Outcome.finished k (Swept.swept f s n steps) = Swept.swept (suc f) s n (k + steps)
in_front Outcome.spent k (Swept.swept f s n steps) = Swept.swept f (suc s) n steps
in_front Outcome.no_room k (Swept.swept f s n steps) = Swept.swept f s (suc n) steps

swept_cons : (r : Run) (rs : List Run) → swept_of (r ∷ rs) ≡ in_front (outcome r) (count r) (swept_of rs)
swept_cons r rs = go (outcome r)
  where
    go :
        (x : Outcome) →
        Swept.swept (length (held_by r rs Outcome.finished x)) (length (held_by r rs Outcome.spent x))
        (length (held_by r rs Outcome.no_room x)) (steps_of (held_by r rs Outcome.finished x))
        ≡ in_front x (count r) (swept_of rs)
    go Outcome.finished = refl
    go Outcome.spent = refl
    go Outcome.no_room = refl

-- a run in front of others adds to the relation's numbers what it adds to the function's
sums_cons :
    (fuel area : ℕ) (t : Term) (ts : List Term) (r : Run) (w : Swept) → Runs fuel area 0 t r → Sums fuel area ts w →
    Sums fuel area (t ∷ ts) (in_front (outcome r) (count r) w)
sums_cons fuel area t ts r (Swept.swept f s n k) runs rest = go (outcome r) refl
  where
    go : (o : Outcome) → outcome r ≡ o → Sums fuel area (t ∷ ts) (in_front o (count r) (Swept.swept f s n k))
    go Outcome.finished e = Sums.finishes runs e rest
    go Outcome.spent e = Sums.is-spent runs e rest
    go Outcome.no_room e = Sums.has_no_room runs e rest

-- the relation holds of the function's numbers
pub sums_of : (fuel area : ℕ) (ts : List Term) → Sums fuel area ts (swept_of (map (run fuel area) ts))
sums_of fuel area [] = Sums.nothing
sums_of fuel area (t ∷ ts) =
    subst (Sums fuel area (t ∷ ts)) (sym (swept_cons (run fuel area t) (map (run fuel area) ts)))
    (sums_cons fuel area t ts (run fuel area t) (swept_of (map (run fuel area) ts)) (run-runs fuel area t) (sums_of fuel area ts))

-- numbers that are the function's stay so with one run in front
same-front :
    (fuel area : ℕ) (t : Term) (ts : List Term) (r : Run) (o : Outcome) (w : Swept) → Runs fuel area 0 t r → outcome r ≡ o →
    w ≡ swept_of (map (run fuel area) ts) → in_front o (count r) w ≡ swept_of (map (run fuel area) (t ∷ ts))
same-front fuel area t ts r o w runs e rest =
    let same : run fuel area t ≡ r = runs-run runs in
    ap (λ (x : Outcome). in_front x (count r) w) (sym e)
    ∙ ap (λ (x : Run). in_front (outcome x) (count x) w) (sym same)
    ∙ ap (in_front (outcome (run fuel area t)) (count (run fuel area t))) rest
    ∙ sym (swept_cons (run fuel area t) (map (run fuel area) ts))

-- and of no others
pub sums-only : {fuel area : ℕ} {ts : List Term} {w : Swept} → Sums fuel area ts w → w ≡ swept_of (map (run fuel area) ts)
sums-only Sums.nothing = refl
sums-only {fuel} {area} (Sums.finishes {t = t} {ts = ts} {r = r} {f = f} {s = s} {n = n} {k = k} runs e rest) =
    same-front fuel area t ts r Outcome.finished (Swept.swept f s n k) runs e (sums-only rest)
sums-only {fuel} {area} (Sums.is-spent {t = t} {ts = ts} {r = r} {f = f} {s = s} {n = n} {k = k} runs e rest) =
    same-front fuel area t ts r Outcome.spent (Swept.swept f s n k) runs e (sums-only rest)
sums-only {fuel} {area} (Sums.has_no_room {t = t} {ts = ts} {r = r} {f = f} {s = s} {n = n} {k = k} runs e rest) =
    same-front fuel area t ts r Outcome.no_room (Swept.swept f s n k) runs e (sums-only rest)

-- ---- each reply

module _ (n fuel area : ℕ) where
  -- what the runs of all small terms come to
  abbrev whole : Swept
  whole = swept_of (map (run fuel area) (small_terms n))

  -- what the relation says is answered
  pub as-answered : {reply : Reply Swept} → SweepsAs n fuel area reply → sweep_of n fuel area ≡ reply
  unfolding sweep_of
  as-answered (SweepsAs.refuses r) = ap (λ (u : Reply Unit). if_admitted u whole) (refused-is r)
  as-answered (SweepsAs.sweeps {ts = ts} {w = w} a each sums) =
      ap (λ (u : Reply Unit). if_admitted u whole) (admitted-is a)
      ∙ ap (λ (us : List Term). Reply.answered (swept_of (map (run fuel area) us))) (each_unique n (small_terms n) ts (each-small n) each)
      ∙ ap (λ (x : Swept). Reply.answered x) (sym (sums-only sums))

  -- what is answered the relation says
  pub answered-as : SweepsAs n fuel area (sweep_of n fuel area)
  unfolding sweep_of
  answered-as = go (decided n fuel area)
    where
      go : {reply : Reply Unit} → Decided n fuel area reply → SweepsAs n fuel area (if_admitted reply whole)
      go (Decided.refuses r) = SweepsAs.refuses r
      go (Decided.admits a) = SweepsAs.sweeps a (each-small n) (sums_of fuel area (small_terms n))

  -- so a reply is the answer exactly where the relation says it
  pub sweeps-exactly : (reply : Reply Swept) → (sweep_of n fuel area ≡ reply) ↔ SweepsAs n fuel area reply
  sweeps-exactly reply = (λ e. subst (SweepsAs n fuel area) e answered-as, as-answered)

-- ---- the ways out of `sweep`

module _ (n fuel area : ℕ) where
  pub sweep-refused : (e : Refused) → passed_on (refusal_of e) ≡ admitted n fuel area → passed_on (refusal_of e) ≡ sweep_of n fuel area
  unfolding sweep_of
  sweep-refused e said = said-refused n fuel area (whole n fuel area) e said

  pub sweep-answered :
      Reply.answered tt ≡ admitted n fuel area → (w : Swept) → Summed n fuel area (ways 1 n) w → Reply.answered w ≡ sweep_of n fuel area
  unfolding sweep_of
  sweep-answered said w r =
      ap (λ (x : Swept). Reply.answered x) (summed-all n fuel area (ways 1 n) w r (omega arith))
      ∙ said-answered n fuel area said (whole n fuel area)

-- ---- what the numbers of any answer are

-- an answer's numbers are those of all runs, of a size that is run
pub answer-sums :
    (n fuel area : ℕ) (w : Swept) → sweep_of n fuel area ≡ Reply.answered w →
    Admitted n fuel area × (w ≡ swept_of (map (run fuel area) (small_terms n)))
unfolding sweep_of
answer-sums n fuel area w e = go (decided n fuel area) e
  where
    go :
        {reply : Reply Unit} → Decided n fuel area reply → if_admitted reply (whole n fuel area) ≡ Reply.answered w →
        Admitted n fuel area × (w ≡ whole n fuel area)
    go (Decided.refuses r) q = let z : ◌≡◌ {A = ℕ} 0 1 = cc in absurd (omega arith)
    go (Decided.admits a) q = (a, cc)

module _ (n fuel area finished spent no_room steps : ℕ)
    (e : sweep_of n fuel area ≡ Reply.answered (Swept.swept finished spent no_room steps)) where
  -- some run finished
  pub never_none : 1 ≤ finished
  never_none =
      let (allowed, same) = answer-sums n fuel area (Swept.swept finished spent no_room steps) e in
      let first : finished ≡ length (ending Outcome.finished (map (run fuel area) (small_terms n))) = cc same in
      omega (arith, some-finished n fuel area allowed.small.0)

  -- the three counts make up all small terms
  pub all-counted : finished + spent + no_room ≡ length (small_terms n)
  all-counted =
      let (allowed, same) = answer-sums n fuel area (Swept.swept finished spent no_room steps) e in
      let rs = map (run fuel area) (small_terms n) in
      let a : finished ≡ length (ending Outcome.finished rs) = cc same in
      let b : spent ≡ length (ending Outcome.spent rs) = cc same in
      let c : no_room ≡ length (ending Outcome.no_room rs) = cc same in
      omega (arith, a, b, c, counts-parted n fuel area)

  -- and the steps are at most the fuel for each of them
  pub steps-few : steps ≤ fuel * length (small_terms n)
  steps-few =
      let (allowed, same) = answer-sums n fuel area (Swept.swept finished spent no_room steps) e in
      let a : steps ≡ steps_of (ending Outcome.finished (map (run fuel area) (small_terms n))) = cc same in
      subst (λ (k : ℕ). k ≤ fuel * length (small_terms n)) (sym a) (steps-fuel n fuel area)

  -- where as many runs finish as there are terms, each does
  pub each-finishes :
      finished ≡ length (small_terms n) → (t : Term) → Memᴰ t (small_terms n) → outcome (run fuel area t) ≡ Outcome.finished
  each-finishes all t m =
      let (allowed, same) = answer-sums n fuel area (Swept.swept finished spent no_room steps) e in
      let rs = map (run fuel area) (small_terms n) in
      let a : finished ≡ length (ending Outcome.finished rs) = cc same in
      all_end Outcome.finished rs (sym a ∙ all ∙ sym (length-map (small_terms n) (run fuel area))) (run fuel area t)
      (Memᴰ.map (run fuel area) m)
