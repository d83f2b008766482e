-- The machine from one state to the next: no further, a letter written, an application looked into, a step made. Assumes nothing.
use Prim.Native.Nat.{ℕ, ◌+◌, ◌-◌, ◌≤◌, ◌<◌}
use native.Mathlib.Omega.{arith}
use native.Mathlib.Numerals.{add-one}
use mathlib.Core.Path.{◌≡◌, sym, ◌∙◌, ap, subst}
use mathlib.Core.Bool.{Bool, true}
use mathlib.Core.List.{List, [], ◌∷◌, ◌++◌, append_assoc, Memᴰ}
use lib.ListN.{length, get_or, set, take, length-append}
use lib.Seq.{length-take-le}
use borrow.Author.Tests.{ne_eqb}
use Rattle.calculus.specs.Letter.{Letter, byte}
use Rattle.calculus.specs.Term.{Term, text, size}
use Rattle.calculus.specs.Order.{Next, next}
use Rattle.calculus.specs.Rule.{rule_numbers}
use Rattle.calculus.specs.Counts.{occurrences, tally}
use Rattle.calculus.proofs.Ranges.{listed_range}
use Rattle.calculus.proofs.Counts.{occurrences-few, tally-at, tally-more}
use Rattle.calculus.proofs.Steps.{steps-one, steps-append, steps_fit, next-listed}
use Rattle.slices.proofs.Finding.{Lacks, lacks_append}
use Rattle.contexts.specs.Frames.{plugged, texts}
use Rattle.contexts.proofs.Front.{front-step, front-before, front-size}
use Rattle.cells.specs.Cell.{letter_in, size_in, Free}
use Rattle.cells.specs.Stage.{Stage, At}
use Rattle.cells.proofs.Keeping.{chain-kept}
use Rattle.cells.proofs.Opening.{stands-size}
use Rattle.cells.proofs.Staging.{part_left}
use Rattle.contracting.specs.Contracting.{Contractible, Contracts}
use Rattle.emitting.specs.Emitting.{Emitted}
use Rattle.tallies.specs.Tallies.{Countable, bumped}
use Rattle.turning.specs.Running.{Running, Bounds, Focused}
use Rattle.turning.proofs.Focusing.{stage-before}

module _
    {room : ℕ} {first : Term} {used : List ℕ} {most : ℕ} {cells area counts : List ℕ} {top cur list written : ℕ} {left : Bool}
    {size' steps : ℕ}
    (run : Running room first used most cells area counts top cur list written left size' steps)
  where
    -- the same steps, with the same term, of which another part is in focus
    pub running-moved :
        {cells' : List ℕ} {top' cur' list' : ℕ} → Stage cells' top' cur' list' (take written area) run.term →
        Running room first used most cells' area counts top' cur' list' written true size' steps
    running-moved stage =
        record {
          term = run.term;
          rules = run.rules;
          made = run.made;
          counted = run.counted;
          tallied = run.tallied;
          sized = run.sized;
          inside = run.inside;
          final = run.final;
          at = At.part stage;
        }

    -- the same steps, with one letter more in the area, which is no full stop
    pub running-shed :
        (cells' : List ℕ) (top' cur' list' : ℕ) (area' : List ℕ) (written' : ℕ) (left' : Bool) →
        Emitted cells top cur area written run.term cells' top' cur' list' area' written' left' → written < length area →
        length area' ≡ length area → ¬ (letter_in (get_or cells cur 0) ≡ byte Letter.stop) →
        Running room first used most cells' area' counts top' cur' list' written' left' size' steps
    running-shed cells' top' cur' list' area' written' left' emitted before long other =
        let on = emitted.onward in
        let letter = letter_in (get_or cells cur 0) in
        record {
          term = run.term;
          rules = run.rules;
          made = run.made;
          counted = run.counted;
          tallied = run.tallied;
          sized = run.sized;
          inside = omega (arith, on, before, long);
          final =
              subst (λ (n : ℕ). Lacks (byte Letter.stop) (take n area')) (sym on)
              (subst (Lacks (byte Letter.stop)) (sym emitted.front)
              (lacks_append (byte Letter.stop) (take written area) (letter ∷ []) run.final
              (ne_eqb letter (byte Letter.stop) other, tt)));
          at = subst (λ (n : ℕ). At cells' top' cur' list' (take n area') run.term left') (sym on) emitted.at;
        }

    -- ---- where a part is left, and the arena has room for a turn

    module _ (bounds : Bounds room first used most cells area) (free : top + 3 ≤ length cells) (more : left ≡ true) where
      -- the part in focus
      pub stage : Stage cells top cur list (take written area) run.term
      stage = part_left run.at more

      -- the term reached has room
      pub term_fits : size run.term ≤ room
      term_fits = steps_fit bounds.fits run.made

      -- not every letter is written yet
      pub before-end : written < length area
      before-end =
          omega (arith, stage-before stage, length-take-le written area run.inside, term_fits, bounds.in_area)

      -- a cell can be written
      pub free-cell : Free cells top
      free-cell = record { few = bounds.few; free = omega (arith, free) }

      module _ {f a rest : ℕ} (on : Focused cells top f a rest (take written area) run.term) where
        -- the application in focus is no larger than the term
        redex-fits : 1 + size on.function + size on.argument ≤ size run.term
        redex-fits =
            omega (
              arith,
              front-before run.term (take written area) (Term.app on.function on.argument) on.frames (texts on.pending)
                  on.spelt,
            )

        -- a rule can be applied to it, where it is to be looked into no further
        pub contractible :
            ¬ (letter_in (get_or cells f 0) ≡ byte Letter.stop) →
            (letter_in (get_or cells f 0) ≡ byte Letter.B → ¬ (letter_in (get_or cells a 0) ≡ byte Letter.stop)) → Contractible cells top f a
        contractible no_function no_argument =
            record {
              few = bounds.few;
              room = free;
              function = on.function;
              argument = on.argument;
              redex =
                  record {
                    function-stands = on.function-stands;
                    argument-stands = on.argument-stands;
                    no_function = no_function;
                    no_argument = no_argument;
                  };
              small = omega (arith, redex-fits, term_fits, bounds.limited);
            }

        -- its size, by its cells
        pub redex-size :
            (1 + size_in (get_or cells f 0) + size_in (get_or cells a 0) ≡ size (Term.app on.function on.argument))
            × (1 + size_in (get_or cells f 0) + size_in (get_or cells a 0) ≤ size')
        redex-size =
            let s = stands-size on.function-stands in
            let n = stands-size on.argument-stands in
            (omega (arith, s, n), omega (arith, s, n, redex-fits, run.sized))

        module _
            {cells' : List ℕ} {rule top' result : ℕ} (con : Contracts cells top on.function on.argument cells' rule top' result)
          where
            -- the next step of the term reached is by that rule
            stepped :
                (u : Term) × (next run.term ≡ Next.step rule u)
                × (text u ≡ take written area ++ (text (plugged con.reduct on.frames) ++ texts on.pending))
            stepped =
                front-step run.term (take written area) on.function on.argument on.frames (texts on.pending) on.spelt
                run.final con.step

            -- it is one of the calculus
            rule-listed : Memᴰ rule rule_numbers
            rule-listed = next-listed run.term stepped.1

            -- the size of the next term, by what was read from the arena
            next-size : size' + size_in (get_or cells' result 0) - (1 + size_in (get_or cells f 0) + size_in (get_or cells a 0)) ≡ size stepped.0
            next-size =
                let changed =
                front-size run.term stepped.0 (take written area) (Term.app on.function on.argument) con.reduct on.frames
                (texts on.pending) on.spelt stepped.2 in
                omega (arith, changed, redex-size, stands-size con.stands, run.sized)

            -- its rule's count can take one more
            pub countable : 0 < steps → Countable counts rule
            countable some =
                let (low, high) = listed_range rule-listed in
                let so_far : get_or counts (rule - 1) 0 ≡ occurrences rule (used ++ run.rules) =
                ap (λ (l : List ℕ). get_or l (rule - 1) 0) run.tallied ∙ tally-at (used ++ run.rules) rule-listed in
                record {
                  long = ap length run.tallied;
                  first = low;
                  last = high;
                  few =
                      omega (
                        arith,
                        so_far,
                        occurrences-few rule (used ++ run.rules),
                        length-append used run.rules,
                        run.counted,
                        bounds.fuelled,
                      );
                }

            -- a step more
            pub running-stepped :
                (counts' : List ℕ) (size'' steps' : ℕ) → steps ≡ steps' + 1 → counts' ≡ bumped counts rule →
                size'' ≡ size' + size_in (get_or cells' result 0) - (1 + size_in (get_or cells f 0) + size_in (get_or cells a 0)) → size'' ≤ room →
                Running room first used most cells' area counts' top' result rest written true size'' steps'
            running-stepped counts' size'' steps' one bump sized fits =
                let (u, e, spelt) = stepped in
                let same : size'' ≡ size u = sized ∙ next-size in
                record {
                  term = u;
                  rules = run.rules ++ (rule ∷ []);
                  made = steps-append run.made (steps-one e (omega (arith, same, fits)));
                  counted = omega (arith, length-append run.rules (rule ∷ []), run.counted, one);
                  tallied =
                      bump
                      ∙ ap (λ (l : List ℕ). bumped l rule) run.tallied
                      ∙ ap (set (tally (used ++ run.rules)) (rule - 1)) (add-one (get_or (tally (used ++ run.rules)) (rule - 1) 0))
                      ∙ sym (tally-more (used ++ run.rules) rule-listed)
                      ∙ ap tally (append_assoc used run.rules (rule ∷ []));
                  sized = same;
                  inside = run.inside;
                  final = run.final;
                  at =
                      At.part
                      (record {
                        focus = con.reduct;
                        frames = on.frames;
                        pending = on.pending;
                        stands = con.stands;
                        chain = chain-kept con.higher con.kept on.chain;
                        spelt = spelt;
                      });
                }
