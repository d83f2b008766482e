-- A batch that goes on in the next arena is one batch. Assumes nothing.
use Prim.Native.Nat.{ℕ, ◌+◌, ◌-◌, ◌≤◌}
use native.Mathlib.Omega.{arith}
use mathlib.Core.Path.{◌≡◌, refl, sym, ◌∙◌, ap, subst}
use mathlib.Core.List.{List, [], ◌++◌, append_assoc, append-nil}
use mathlib.Core.Bool.{Bool}
use lib.ListN.{length, length-append, length-take, take}
use Rattle.calculus.specs.Limits.{fuel_limit}
use Rattle.calculus.specs.Term.{Term}
use Rattle.calculus.specs.Steps.{Steps}
use Rattle.calculus.specs.Counts.{tally}
use Rattle.calculus.proofs.PrefixCode.{length-text}
use Rattle.calculus.proofs.Steps.{steps-append}
use Rattle.machine.specs.Advancing.{Runnable, Advanced}
use Rattle.machine.specs.declared.Made.{Made}
use Rattle.large_arenas.specs.Underway.{Underway}

-- of the area that a batch begins in, only the length counts
pub advanced-along :
    {area₁ area₂ : List ℕ} {t : Term} {used : List ℕ} {most : ℕ} {area counts : List ℕ} {made : Made} →
    length area₁ ≡ length area₂ → Advanced area₁ t used most area counts made → Advanced area₂ t used most area counts made
advanced-along {t = t} long a =
    record {
      term = a.term;
      rules = a.rules;
      steps = subst (λ (n : ℕ). Steps n t a.rules a.term) long a.steps;
      few = a.few;
      counted = a.counted;
      tallied = a.tallied;
      sized = a.sized;
      written = a.written;
    }

-- before the first arena no step is made
abbrev pub underway-none :
    {area : List ℕ} {len : ℕ} {counts : List ℕ} {most : ℕ} (p : Runnable area len counts most) (left : Bool) →
    Underway area counts most (record { steps = 0; size = len; left = left })
underway-none {area} {len} p left =
    record {
      term = p.term;
      used = p.used;
      advanced =
          record {
            term = p.term;
            rules = [];
            steps = Steps.none;
            few = omega arith;
            counted = refl;
            tallied = p.tallied ∙ ap tally (sym (append-nil p.used));
            sized = omega (arith, p.within, length-take len area, ap length p.written, length-text p.term);
            written = p.written;
          };
      fuelled = p.fuelled;
    }

module _ {area counts : List ℕ} {most : ℕ} {made : Made} (u : Underway area counts most made) where
  -- no more steps than were asked for
  pub made-few : made.steps ≤ most
  made-few = omega (arith, u.advanced.counted, u.advanced.few)

  -- where it has stopped, another can begin
  abbrev pub runnable-again : Runnable area made.size counts (most - made.steps)
  runnable-again =
      let first = u.advanced in
      record {
        term = first.term;
        used = u.used ++ first.rules;
        within = omega (arith, length-text first.term, ap length first.written, length-take made.size area, first.sized);
        written = first.written;
        tallied = first.tallied;
        fuelled = omega (arith, length-append u.used first.rules, first.counted, first.few, u.fuelled);
      }

  -- what it leads to is a batch that may go on
  abbrev pub underway-still :
      {area' counts' : List ℕ} {more : Made} → length area' ≡ length area →
      ((v : Underway area counts most made) → Advanced area v.term v.used most area' counts' more) → Underway area' counts' most more
  underway-still long gone =
      record { term = u.term; used = u.used; advanced = advanced-along (sym long) (gone u); fuelled = u.fuelled }

  module _
      {area' counts' : List ℕ} {more : Made}
      (again : (q : Runnable area made.size counts (most - made.steps)) → Advanced area q.term q.used (most - made.steps) area' counts' more)
    where
      -- the second batch
      abbrev second : Advanced area u.advanced.term (u.used ++ u.advanced.rules) (most - made.steps) area' counts' more
      second = again runnable-again

      -- no more steps in either than a run may have
      pub both-few : (made.steps ≤ fuel_limit) × (more.steps ≤ fuel_limit)
      both-few = (omega (arith, made-few, u.fuelled), omega (arith, u.fuelled, second.counted, second.few))

      -- both are one batch
      pub advanced-both :
          {whole : Made} → (whole.steps ≡ made.steps + more.steps) × (whole.size ≡ more.size) →
          Advanced area u.term u.used most area' counts' whole
      advanced-both same =
          let first = u.advanced in
          record {
            term = second.term;
            rules = first.rules ++ second.rules;
            steps = steps-append first.steps second.steps;
            few = omega (arith, length-append first.rules second.rules, second.few, first.few, first.counted);
            counted = omega (arith, same.0, first.counted, second.counted, length-append first.rules second.rules);
            tallied = second.tallied ∙ ap tally (append_assoc u.used first.rules second.rules);
            sized = same.1 ∙ second.sized;
            written = ap (λ (n : ℕ). take n area') same.1 ∙ second.written;
          }
