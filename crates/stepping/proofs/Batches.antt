-- From what an arena's batch has made to what several steps at once promise. Assumes nothing.
use Prim.Native.Nat.{ℕ, ◌≤◌}
use native.Mathlib.Omega.{arith}
use mathlib.Core.Path.{◌≡◌, refl, sym, ◌∙◌, ap, subst}
use mathlib.Core.List.{List, []}
use lib.ListN.{length, take, length-take}
use lib.Seq.{length-take-le}
use Rattle.calculus.specs.Limits.{fuel_limit}
use Rattle.calculus.specs.Term.{Term}
use Rattle.calculus.specs.Steps.{Steps}
use Rattle.calculus.specs.Counts.{tally}
use Rattle.calculus.proofs.PrefixCode.{length-text}
use Rattle.reading.specs.Reply.{Reply}
use Rattle.reading.specs.Reading.{reading_of}
use Rattle.reading.proofs.Whole.{whole-term}
use Rattle.machine.specs.Advancing.{Runnable, Advanced}
use Rattle.machine.specs.declared.Made.{Made}
use Rattle.stepping.specs.Held.{Holds}
use Rattle.stepping.specs.Batch.{Advances}

-- no step: the area holds the term as before
pub advances-none :
    {area : List ℕ} {len : ℕ} {t : Term} {most made : ℕ} {counts : List ℕ} {size' : ℕ} →
    (made ≡ 0) × (counts ≡ tally []) × (size' ≡ len) → Holds area len t → Advances area t most made counts size' area
advances-none {area} {len} {t} (made, counted, sized) h =
    record {
      rules = [];
      term = t;
      steps = Steps.none;
      few = omega arith;
      counted = made;
      tallied = counted;
      held = subst (λ (n : ℕ). Holds area n t) (sym sized) h;
    }

module _ (area : List ℕ) (len : ℕ) {n : ℕ} (within : len ≤ length area) (read : Reply.answered n ≡ reading_of (take len area)) where
  -- what was read is as long as it was
  pub read_length : n ≡ len
  read_length =
      let (t, written, sized) = whole-term (take len area) n (sym read) in
      sym sized ∙ sym (length-text t) ∙ sym (ap length written) ∙ length-take-le len area within

  module _ {most : ℕ} (few : most ≤ fuel_limit) where
    -- the batch can be made of each term that the area holds
    abbrev pub runnable : (t : Term) → Holds area len t → Runnable area n (tally []) most
    runnable t h =
        record {
          term = t;
          used = [];
          within = omega (arith, read_length, within);
          written = ap (λ (m : ℕ). take m area) read_length ∙ h.written;
          tallied = refl;
          fuelled = omega (arith, few);
        }

    -- and it holds one
    pub runnable-read : Runnable area n (tally []) most
    runnable-read =
        let (t, written, sized) = whole-term (take len area) n (sym read) in
        runnable t (record { within = within; written = written })

    -- what was made
    pub advances-made :
        {area' counts' : List ℕ} {made : Made} {asked : ℕ} → length area' ≡ length area → most ≤ asked → (t : Term) (h : Holds area len t) →
        Advanced area t [] most area' counts' made → Advances area t asked made.steps counts' made.size area'
    advances-made {area'} {made = made} long less t h a =
        record {
          rules = a.rules;
          term = a.term;
          steps = a.steps;
          few = omega (arith, a.few, less);
          counted = a.counted;
          tallied = a.tallied;
          held =
              record {
                within = omega (arith, ap length a.written, length-text a.term, length-take made.size area', a.sized);
                written = a.written;
              };
        }
