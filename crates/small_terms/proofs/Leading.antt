-- The dearest of the runs so far, run by run, and that the dearest of all is the dearest small term. Carried by each small term having an
-- index, and earlier ones the smaller. Assumes nothing.
use Prim.Native.Nat.{ℕ, ◌+◌, ◌≤◌, ◌<◌}
use native.Mathlib.Decide.{dec_le}
use native.Mathlib.Omega.{arith}
use mathlib.Core.Path.{◌≡◌, refl, sym, ◌∙◌, ap, subst}
use mathlib.Core.List.{List}
use borrow.Author.Count.{below_more}
use borrow.Author.Tests.{le-leb, lt-leb}
use Rattle.std.proofs.Common.{Option, Some, None}
use Rattle.std.specs.Option.{IsSome}
use Rattle.calculus.specs.Term.{Term, text}
use Rattle.calculus.specs.Run.{Outcome, run, outcome, count}
use Rattle.calculus.proofs.Runs.{run-runs, runs-run}
use Rattle.small_texts.specs.Small.{Small, Before}
use Rattle.small_texts.specs.Texts.{text_at, term_in, term_at, ways}
use Rattle.small_texts.proofs.Each.{term_in_lem}
use Rattle.small_texts.proofs.Indexed.{is-text, text_at_lem, has_place, earlier-place}
use Rattle.small_terms.specs.Answer.{lead_in}
use Rattle.small_terms.specs.declared.Lead.{Lead as Leader}
use Rattle.small_terms.specs.Dearest.{Finishes, Dearest}
use Rattle.small_terms.specs.Loop.{Ran, Lead, overtaken, with_later, FinishesAt, Leading, Leads}
use Rattle.small_terms.proofs.Finished.{some-finishes}

-- ---- one run more

module _ (n fuel area i : ℕ) where
  -- a run that finished without more steps than the dearest, or did not finish, changes nothing
  passed :
      {index k : ℕ} → Leading n fuel area i index k → ((m : ℕ) → FinishesAt n fuel area i m → m ≤ k) →
      Leading n fuel area (i + 1) index k
  passed {index} {k} l here =
      record {
        inside = omega (arith, l.inside);
        finishes = l.finishes;
        none_more = below_more (λ j. (m : ℕ) → FinishesAt n fuel area j m → m ≤ k) i l.none_more here;
        none-earlier = l.none-earlier;
      }

  -- one that finished with more leads
  taken :
      (k : ℕ) → ((j : ℕ) → j < i → (m : ℕ) → FinishesAt n fuel area j m → m < k) → FinishesAt n fuel area i k →
      Leading n fuel area (i + 1) i k
  taken k fewer f =
      record {
        inside = omega arith;
        finishes = f;
        none_more =
            below_more (λ j. (m : ℕ) → FinishesAt n fuel area j m → m ≤ k) i (λ j h m g. omega (arith, fewer j h m g))
            (λ m g. omega (arith, f.counts, g.counts));
        none-earlier = fewer;
      }

  -- one that did not finish changes nothing
  kept : (l : Option Lead) → Leads n fuel area i l → ((m : ℕ) → ¬ FinishesAt n fuel area i m) → Leads n fuel area (i + 1) l
  kept None l never = below_more (λ j. (m : ℕ) → ¬ FinishesAt n fuel area j m) i l never
  kept (Some (Lead.lead index k)) l never = passed l (λ m f. absurd (never m f))

  -- run i, behind those before it
  pub lead-later :
      (l : Option Lead) (o : Outcome) (k : ℕ) → Leads n fuel area i l → Ran n i fuel area o k →
      Leads n fuel area (i + 1) (with_later o i k l)
  lead-later None Outcome.finished k l r =
      taken k (λ j h m f. absurd (l j h m f)) (record { ends = sym r.ends; counts = sym r.counts })
  lead-later (Some (Lead.lead index steps)) Outcome.finished k l r = go (dec_le k steps)
    where
      go : Dec (k ≤ steps) → Leads n fuel area (i + 1) (overtaken i k (Some (Lead.lead index steps)))
      go (yes h) = rw (le-leb k steps h) (passed l (λ m f. omega (arith, f.counts, r.counts)))
      go (no h) =
          rw (lt-leb k steps (omega arith))
          (taken k (λ j before m f. omega (arith, l.none_more j before m f)) (record { ends = sym r.ends; counts = sym r.counts }))
  lead-later l Outcome.spent k h r = kept l h (λ m f. let e : Outcome.spent ≡ Outcome.finished = r.ends ∙ f.ends in cc)
  lead-later l Outcome.no_room k h r = kept l h (λ m f. let e : Outcome.no_room ≡ Outcome.finished = r.ends ∙ f.ends in cc)

-- ---- all of them

-- a run that finishes, and the record of it
pub finishes-at : (fuel area : ℕ) (t : Term) (k : ℕ) → Finishes fuel area t k
    → (outcome (run fuel area t) ≡ Outcome.finished) × (count (run fuel area t) ≡ k)
finishes-at fuel area t k f = let e = runs-run f.runs in (ap outcome e ∙ f.ends, ap count e ∙ f.counts)

module _ (n fuel area : ℕ) where
  -- a small term that finishes does so under its index
  place-finishes : (t : Term) (k : ℕ) → Small n t → Finishes fuel area t k
      → (i : ℕ) × (i < ways 1 n) × (text t ≡ text_at n i) × FinishesAt n fuel area i k
  place-finishes t k small f =
      let (i, inside, e) = has_place n t small in
      let same : t ≡ term_at n i = sym (term_in_lem t) ∙ ap term_in e in
      let (ends, counts) = finishes-at fuel area t k f in (
        i,
        inside,
        e,
        record {
          ends = subst (λ (u : Term). outcome (run fuel area u) ≡ Outcome.finished) same ends;
          counts = subst (λ (u : Term). count (run fuel area u) ≡ k) same counts;
        },
      )

  -- some run finishes, so one leads
  pub some-lead : (l : Option Leader) → Leads n fuel area (ways 1 n) (lead_in l) → 1 ≤ n → IsSome l
  some-lead (Some l) h sized = refl
  some-lead None never sized =
      let (t, small, done) = some-finishes n fuel area sized in
      let f : Finishes fuel area t (count (run fuel area t)) =
      record { made = run fuel area t; runs = run-runs fuel area t; ends = done; counts = refl } in
      let (i, inside, e, at) = place-finishes t (count (run fuel area t)) small f in
      absurd (never i inside (count (run fuel area t)) at)

  -- it is the dearest one
  pub lead-dearest : (index k : ℕ) → Leading n fuel area (ways 1 n) index k → Dearest n fuel area (term_at n index) k
  lead-dearest index k l =
      let (t, e, small) = is-text n index l.inside in
      let same : t ≡ term_at n index = sym (term_in_lem t) ∙ sym (ap term_in e) in
      record {
        small = subst (Small n) same small;
        finishes =
            record {
              made = run fuel area (term_at n index);
              runs = run-runs fuel area (term_at n index);
              ends = l.finishes.ends;
              counts = l.finishes.counts;
            };
        none_more = λ u m small f. let (j, below, s, g) = place-finishes u m small f in l.none_more j below m g;
        none-earlier =
            λ u small before f.
            let (j, below, s, g) = place-finishes u k small f in
            let spelled : Before (text_at n j) (text (term_at n index)) =
            subst (λ (x : List ℕ). Before x (text (term_at n index))) s before in
            let earlier : Before (text_at n j) (text_at n index) = subst (Before (text_at n j)) (sym (text_at_lem n index l.inside)) spelled in
            omega (arith, l.none-earlier j (earlier-place n j index below l.inside earlier) k g);
      }
