-- Finishing's loop: its invariant, how steps keep it, and what it comes to at each way out. Assumes nothing.
use Prim.Native.Nat.{ℕ, ◌+◌, ◌-◌, ◌≤◌, ◌<◌}
use native.Mathlib.Omega.{arith}
use mathlib.Core.Path.{◌≡◌, refl, sym, ◌∙◌, ap, subst}
use mathlib.Core.Bool.{Bool, true, false, cond}
use mathlib.Core.List.{List, [], ◌++◌}
use lib.ListN.{length, take, length-append}
use Rattle.calculus.specs.Term.{Term, size}
use Rattle.calculus.specs.Steps.{Steps}
use Rattle.calculus.specs.Run.{Outcome, run, count, reached}
use Rattle.calculus.specs.Counts.{tally, uses}
use Rattle.stepping.specs.Held.{Holds}
use Rattle.stepping.proofs.Calls.{held_unique}
use Rattle.reading.specs.Stop.{has_stop}
use Rattle.finishing.specs.Finishing.{Ran, no_uses}
use Rattle.finishing.specs.Loop.{end_without_fuel, Ready, MovesOn, Reaches}
use Rattle.finishing.proofs.Passing.{Passes, passes-start, passes-steps, Comes, comes-finished, comes-spent, comes_no_room}
use Rattle.finishing.proofs.Stops.{no_stop-next, stop-next}
use Rattle.finishing.proofs.Lending.{held-size}
use Rattle.finishing.proofs.Moving.{stays}

-- with that many steps made the area holds a term that the run of the first passes, and the counts are those of the rules used so far
pub record At (fuel : ℕ) (area₀ : List ℕ) (len made : ℕ) (counts area : List ℕ) (size : ℕ) (work : List ℕ) : Type 0 where
  pub ready : Ready area size work
  pub long : length area ≡ length area₀
  pub within : made ≤ fuel
  pub used : List ℕ
  pub counted : length used ≡ made
  pub tallied : counts ≡ tally used
  pub passes : (t : Term) → Holds area₀ len t → Passes fuel (length area₀) t used ready.term

-- it holds with no step made
pub at-start :
    (fuel : ℕ) (area : List ℕ) (len : ℕ) (work : List ℕ) → Ready area len work →
    At fuel area len 0 no_uses area len work
at-start fuel area len work ready =
    record {
      ready = ready;
      long = refl;
      within = omega arith;
      used = [];
      counted = refl;
      tallied = refl;
      passes =
          λ t h. subst (Passes fuel (length area) t []) (held_unique area len t ready.term h ready.held)
          (passes-start fuel (length area) t);
    }

-- the record of a run that has come to its end, beside the term that the area holds
reaches :
    {fuel len : ℕ} {area counts : List ℕ} {size' made : ℕ} {used : List ℕ} {t u : Term} (o : Outcome) →
    length used ≡ made → counts ≡ tally used →
    Comes fuel len t used u o → Holds area size' u → Reaches t (run fuel len t) (Ran.ran o made counts size') area
reaches {fuel} {len} {area} {counts} {size'} {made} {used} {t} {u} o counted tallied come held =
    let end = reached t (run fuel len t) in
    let sized : size' ≡ size end = held-size held ∙ sym (ap size come.reaches) in
    let steps : made ≡ count (run fuel len t) = sym counted ∙ sym (ap length come.by_rules) in
    let mix : counts ≡ uses (run fuel len t) = tallied ∙ sym (ap tally come.by_rules) in
    record {
      records = cc (come.ends, steps, mix, sized);
      held = subst (λ (n : ℕ). Holds area n end) sized (subst (Holds area size') (sym come.reaches) held);
    }

module _
    {fuel : ℕ} {area₀ : List ℕ} {len made : ℕ} {counts area : List ℕ} {size : ℕ} {work : List ℕ}
    (at : At fuel area₀ len made counts area size work)
  where
    -- ---- one pass

    module _
        {more : ℕ} {later : List ℕ} {size' : ℕ} {area' : List ℕ} (left : made < fuel)
        (moves : (t : Term) → Holds area size t → MovesOn area t (fuel - made) more later size' area')
      where
        -- the steps from the term that the area holds
        now : MovesOn area at.ready.term (fuel - made) more later size' area'
        now = moves at.ready.term at.ready.held

        -- the steps made are within the fuel
        pub at-few : made + more ≤ fuel
        at-few = omega (arith, now.advances.few, now.advances.counted)

        -- steps keep the invariant
        pub at-batch :
            {counts' work' : List ℕ} →
            ((used rules : List ℕ) → counts ≡ tally used → later ≡ tally rules → counts' ≡ tally (used ++ rules)) →
            length area' ≡ length area → length work' ≡ length work → At fuel area₀ len (made + more) counts' area' size' work'
        at-batch sum long wide =
            let a = now.advances in
            let room : Steps (length area₀) at.ready.term a.rules a.term =
            subst (λ (n : ℕ). Steps n at.ready.term a.rules a.term) at.long a.steps in
            record {
              ready =
                  record { short = omega (arith, at.ready.short); room = omega (arith, at.ready.room); term = a.term; held = a.held };
              long = long ∙ at.long;
              within = at-few;
              used = at.used ++ a.rules;
              counted = omega (arith, length-append at.used a.rules, at.counted, a.counted);
              tallied = sum at.used a.rules at.tallied a.tallied;
              passes = λ t h. passes-steps (at.passes t h) room (omega (arith, at-few, at.counted, a.counted));
            }

        -- a full stop, and no step: no room
        pub at-stuck :
            more ≡ 0 → true ≡ has_stop (take size area) → (t : Term) → Holds area₀ len t →
            Reaches t (run fuel (length area₀) t) (Ran.ran Outcome.no_room made counts size) area'
        at-stuck none e t h =
            let (n, u, f) = stop-next at.ready.term (ap has_stop (sym at.ready.held.written) ∙ sym e) in
            let held = (stays now.advances (omega arith)).1 in
            reaches Outcome.no_room at.counted at.tallied
            (comes_no_room (at.passes t h) (omega (arith, at.counted)) f (omega (arith, now.stuck none n u f, at.long)))
            (subst (λ (m : ℕ). Holds area' m at.ready.term) (held-size held ∙ sym (held-size at.ready.held)) held)

    -- ---- with no step to make

    -- no full stop: finished
    pub at-no-stop :
        false ≡ has_stop (take size area) → (t : Term) → Holds area₀ len t →
        Reaches t (run fuel (length area₀) t) (Ran.ran Outcome.finished made counts size) area
    at-no-stop e t h =
        reaches Outcome.finished at.counted at.tallied
        (comes-finished (at.passes t h) (no_stop-next at.ready.term (ap has_stop (sym at.ready.held.written) ∙ sym e)))
        at.ready.held

    -- a full stop, and no fuel left: spent
    at-stop :
        fuel ≤ made → true ≡ has_stop (take size area) → (t : Term) → Holds area₀ len t →
        Reaches t (run fuel (length area₀) t) (Ran.ran Outcome.spent made counts size) area
    at-stop all e t h =
        let (n, u, f) = stop-next at.ready.term (ap has_stop (sym at.ready.held.written) ∙ sym e) in
        reaches Outcome.spent at.counted at.tallied
        (comes-spent (at.passes t h) (omega (arith, at.within, at.counted)) f)
        at.ready.held

    -- no fuel left: the one or the other
    pub at-end :
        {o : Outcome} → fuel ≤ made → o ≡ end_without_fuel (take size area) → (t : Term) → Holds area₀ len t →
        Reaches t (run fuel (length area₀) t) (Ran.ran o made counts size) area
    at-end all e t h =
        subst (λ (x : Outcome). Reaches t (run fuel (length area₀) t) (Ran.ran x made counts size) area) (sym e)
        (go (has_stop (take size area)) refl)
      where
        go :
            (b : Bool) → has_stop (take size area) ≡ b →
            Reaches t (run fuel (length area₀) t) (Ran.ran (cond b Outcome.spent Outcome.finished) made counts size) area
        go true f = at-stop all (sym f) t h
        go false f = at-no-stop (sym f) t h
