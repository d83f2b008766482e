-- From several steps, and what stepping answered, to how far the term has come: each way out of `make_steps` as one law. Assumes nothing.
use Prim.Native.Nat.{ℕ, ◌≤◌, ◌<◌}
use native.Mathlib.Omega.{arith}
use mathlib.Core.Path.{◌≡◌, refl, sym, ◌∙◌, ap, subst}
use mathlib.Core.List.{List, [], ◌∷◌, Memᴰ}
use lib.ListN.{length}
use Rattle.calculus.specs.Term.{Term, size}
use Rattle.calculus.specs.Order.{Next, next}
use Rattle.calculus.specs.Rule.{rule_numbers}
use Rattle.calculus.specs.Steps.{Steps}
use Rattle.calculus.specs.Counts.{tally}
use Rattle.calculus.proofs.Steps.{steps-one, next-listed}
use Rattle.reading.specs.Reply.{Reply}
use Rattle.stepping.specs.Held.{Holds}
use Rattle.stepping.specs.Stepping.{Stepped}
use Rattle.stepping.specs.Batch.{Advances}
use Rattle.stepping.specs.Answer.{stepped_of}
use Rattle.stepping.specs.declared.Stepped.{Stepped as Declared}
use Rattle.stepping.specs.declared.Stepped.TheVariants.{Normal, NoRoom, Done}
use Rattle.tallies.specs.Tallies.{Countable, bumped}
use Rattle.tallies.proofs.Uses.{use-counted, use-tallied}
use Rattle.finishing.specs.Loop.{Ready, StepsOn, MovesOn}
use Rattle.finishing.proofs.Lending.{held-size}

-- ---- no step

-- no rule used: the term is the first
no_steps : {area : ℕ} {t u : Term} {rules : List ℕ} → Steps area t rules u → length rules ≤ 0 → (rules ≡ []) × (u ≡ t)
no_steps Steps.none h = (refl, refl)
no_steps (Steps.more e fits rest) h = absurd (omega arith)

-- no step made: the area holds the same term, and no rule is counted
pub stays :
    {area : List ℕ} {t : Term} {most made : ℕ} {counts : List ℕ} {size' : ℕ} {area' : List ℕ} →
    Advances area t most made counts size' area' → made ≤ 0 → (counts ≡ tally []) × Holds area' size' t
stays {size' = size'} {area' = area'} a h =
    let (empty, same) = no_steps a.steps (omega (arith, a.counted)) in
    (a.tallied ∙ ap tally empty, subst (Holds area' size') same a.held)

-- ---- what stepping answered

module _ {area area' : List ℕ} {t : Term} where
  -- the rule of a step that was made is listed
  step-listed : {rule n : ℕ} → StepsOn area area' t (Reply.answered (Stepped.stepped rule n)) → Memᴰ rule rule_numbers
  step-listed (StepsOn.stepped f fits held) = next-listed t f

  -- no step: what comes next, if anything, is larger than the area
  answered-none :
      (x : Declared) → ((rule n : ℕ) → ¬ (x ≡ Done rule n)) → StepsOn area area' t (Reply.answered (stepped_of x)) →
      ((rule : ℕ) (u : Term) → next t ≡ Next.step rule u → length area < size u) × Holds area' (size t) t
  answered-none (Normal n) k (StepsOn.normal e held) = (λ rule u f. let wrong : ◌≡◌ {A = ℕ} 0 1 = cc (e, f) in absurd (omega arith), held)
  answered-none (NoRoom n) k (StepsOn.no_room {u = w} e larger held) =
      (λ rule u f. let same : u ≡ w = cc (e, f) in subst (λ (x : Term). length area < size x) (sym same) larger, held)
  answered-none (Done rule n) k s = absurd (k rule n refl)

-- ---- the ways out

module _
    {area : List ℕ} {size' : ℕ} {work : List ℕ} {most made : ℕ} {counts : List ℕ} {size₁ : ℕ} {area₁ : List ℕ}
    (ready : Ready area size' work)
    (batch : (t : Term) → Holds area size' t → Advances area t most made counts size₁ area₁) (none : made ≤ 0) (long : length area₁ ≡ length area)
    {area₂ : List ℕ} (x : Declared) (steps : (t : Term) → Holds area₁ size₁ t → StepsOn area₁ area₂ t (Reply.answered (stepped_of x)))
  where
    -- what comes next after the term
    then_next : (t : Term) → Holds area size' t → StepsOn area₁ area₂ t (Reply.answered (stepped_of x))
    then_next t h = steps t (stays (batch t h) none).1

    -- nothing comes next, or it has no room
    pub moves-none :
        ((rule n : ℕ) → ¬ (x ≡ Done rule n)) → (t : Term) → Holds area size' t →
        MovesOn area t most made counts size₁ area₂
    moves-none k t h =
        let (empty, still) = stays (batch t h) none in
        let (larger, held) = answered-none x k (then_next t h) in
        record {
          advances =
              record {
                rules = [];
                term = t;
                steps = Steps.none;
                few = omega arith;
                counted = omega arith;
                tallied = empty;
                held = subst (λ (n : ℕ). Holds area₂ n t) (sym (held-size still)) held;
              };
          stuck = λ e rule u f. omega (arith, larger rule u f);
        }

    module _ {rule next' : ℕ} (done : x ≡ Done rule next') where
      -- it is a step by that rule
      stepped : (t : Term) → Holds area size' t → StepsOn area₁ area₂ t (Reply.answered (Stepped.stepped rule next'))
      stepped t h = subst (λ (y : Declared). StepsOn area₁ area₂ t (Reply.answered (stepped_of y))) done (then_next t h)

      -- the rule's count can take the step
      pub moves-count : Countable counts rule
      moves-count =
          let (empty, still) = stays (batch ready.term ready.held) none in
          use-counted [] empty (step-listed (stepped ready.term ready.held)) (omega arith)

      -- one step
      pub moves-one :
          {counts' : List ℕ} → 1 ≤ most → counts' ≡ bumped counts rule → (t : Term) → Holds area size' t →
          MovesOn area t most 1 counts' next' area₂
      moves-one {counts'} some bump t h = go (stepped t h)
        where
          go : {n : ℕ} → StepsOn area₁ area₂ t (Reply.answered (Stepped.stepped rule n)) → MovesOn area t most 1 counts' n area₂
          go (StepsOn.stepped {u = u} f fits held) =
              record {
                advances =
                    record {
                      rules = rule ∷ [];
                      term = u;
                      steps = steps-one f (omega arith);
                      few = some;
                      counted = refl;
                      tallied = bump ∙ use-tallied [] (stays (batch t h) none).0 (next-listed t f);
                      held = held;
                    };
                stuck = λ e. absurd (omega arith);
              }
