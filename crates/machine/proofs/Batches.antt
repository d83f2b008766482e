-- A batch from its first state to the term written back. Assumes nothing.
use Prim.Native.Nat.{ℕ, ◌+◌, ◌/◌, ◌≤◌, min}
use native.Mathlib.Omega.{arith}
use mathlib.Core.Path.{◌≡◌, refl, sym, ◌∙◌, ap, subst}
use mathlib.Core.Bool.{true, false}
use mathlib.Core.List.{List, [], append-nil}
use lib.ListN.{length, get_or, set, take, length-set}
use lib.Seq.{length-take-le, get_or-set_same}
use Rattle.calculus.specs.Term.{Term, text, size}
use Rattle.calculus.specs.Steps.{Steps}
use Rattle.calculus.specs.Counts.{tally}
use Rattle.calculus.proofs.PrefixCode.{length-text}
use Rattle.calculus.proofs.Steps.{steps_wider, steps_fit}
use Rattle.cells.specs.Cell.{letter_in, Kept}
use Rattle.cells.specs.Stands.{Stands}
use Rattle.cells.specs.Chain.{Pending, Chain}
use Rattle.cells.specs.Stage.{Stage, At}
use Rattle.cells.proofs.Staging.{part_left, none_left}
use Rattle.loading.specs.Loading.{Loadable}
use Rattle.emitting.specs.Emitting.{Unloadable}
use Rattle.turning.specs.Running.{Bounds}
use Rattle.turning.specs.Turning.{Runs, Turnable, start}
use Rattle.machine.specs.Advancing.{Runnable, Usable, Advanced, made_of, Startable, Stopped}
use Rattle.turning.specs.declared.State.{State}

-- an arena of the same length will do as well
pub usable_same :
    {cells cells' area : List ℕ} {len room : ℕ} → length cells' ≡ length cells → Usable cells area len room → Usable cells' area len room
usable_same {area = area} same usable =
    record {
      few = omega (arith, same, usable.few);
      many = omega (arith, same, usable.many);
      roomy = usable.roomy ∙ ap (λ (n : ℕ). min (length area) (n / 4)) (sym same);
      fits = usable.fits;
    }

module _ {area : List ℕ} {len : ℕ} {counts : List ℕ} {most : ℕ} (p : Runnable area len counts most) where
  -- the length is the size of the term
  pub runnable-size : len ≡ size p.term
  runnable-size = sym (length-take-le len area p.within) ∙ ap length p.written ∙ length-text p.term

  -- no step: the area holds the term as before
  pub advanced-none : Advanced area p.term p.used most area counts (record { steps = 0; size = len; left = true })
  advanced-none =
      record {
        term = p.term;
        rules = [];
        steps = Steps.none;
        few = omega arith;
        counted = refl;
        tallied = p.tallied ∙ ap tally (sym (append-nil p.used));
        sized = runnable-size;
        written = p.written;
      }

  module _ {cells : List ℕ} {room : ℕ} (usable : Usable cells area len room) where
    -- it is within the bounds of a turn
    pub bounds : Bounds room p.term p.used most cells area
    bounds =
        record {
          fits = omega (arith, runnable-size, usable.fits);
          in_area = omega (arith, usable.roomy);
          limited = omega (arith, usable.roomy, usable.few);
          few = usable.few;
          fuelled = p.fuelled;
        }

    -- the text can be loaded
    pub loadable : Loadable (take len area) cells
    loadable =
        record {
          few = usable.few;
          room = omega (arith, length-take-le len area p.within, usable.roomy, usable.fits, usable.many);
          term = p.term;
          written = p.written;
        }

  -- ---- the arena, once the end of the list is put down and the text is loaded

  module _
      {cells cells' : List ℕ} {room : ℕ} (large : Usable cells area len room) (kept : Kept 1 (set cells 0 0) cells')
      (same : length cells' ≡ length (set cells 0 0))
      (loaded : (t : Term) → take len area ≡ text t → Stands cells' (length (take len area) + 1) (length (take len area)) t)
    where
      -- it will do as before
      usable : Usable cells' area len room
      usable = usable_same (same ∙ length-set cells 0 0) large

      -- the end is where it was put
      end : letter_in (get_or cells' 0 0) ≡ 0
      end = ap letter_in (kept 0 (omega arith) ∙ get_or-set_same cells 0 0 0 (omega (arith, large.many)))

      -- the last cell stands for the term
      root : Stands cells' (len + 1) len p.term
      root =
          subst (λ (n : ℕ). Stands cells' (n + 1) n p.term) (length-take-le len area p.within) (loaded p.term p.written)

      -- a turn can be made
      abbrev turnable : Turnable room cells' area counts (start len most)
      turnable =
          record {
            first = p.term;
            used = p.used;
            most = most;
            runs =
                record {
                  term = p.term;
                  rules = [];
                  made = Steps.none;
                  counted = omega arith;
                  tallied = p.tallied ∙ ap tally (sym (append-nil p.used));
                  sized = runnable-size;
                  inside = omega arith;
                  final = tt;
                  at =
                      At.part
                      (record {
                        focus = p.term;
                        frames = [];
                        pending = [];
                        stands = root;
                        chain = Chain.none (Pending.end (omega arith) end);
                        spelt = sym (append-nil (text p.term));
                      });
                };
            bounds = bounds usable;
            free = omega (arith, usable.roomy, usable.fits, usable.many);
            left = refl;
            goes = refl;
          }

      -- and the arena is large enough for all of them
      pub startable : Startable room cells' area counts (start len most)
      startable =
          record {
            turnable = turnable;
            many = usable.many;
            low = omega (arith, usable.roomy, usable.fits, usable.many);
          }

      -- ---- the machine where it stopped

      module _
          {cells'' area' counts' : List ℕ} {st : State}
          (stops :
          (q : Turnable room cells' area counts (start len most)) →
          Stopped room q.first q.used q.most cells'' area' counts' st)
        where
          -- it has stopped
          stopped : Stopped room p.term p.used most cells'' area' counts' st
          stopped = stops turnable

          -- the machine as it is then
          abbrev run : Runs room p.term p.used most cells'' area' counts' st
          run = stopped.runs

          -- the term reached
          abbrev reached : Term
          reached = run.term

          -- it has room
          fits-still : size reached ≤ room
          fits-still = steps_fit (bounds usable).fits run.made

          -- no more steps are left than there were
          pub ended-few : st.steps ≤ most
          ended-few = omega (arith, run.counted)

          -- the record of the batch, where the text of the term reached stands in the area
          advanced :
              (area'' : List ℕ) → take (size reached) area'' ≡ text reached →
              Advanced area p.term p.used most area'' counts' (made_of st most)
          advanced area'' written =
              record {
                term = reached;
                rules = run.rules;
                steps = steps_wider (bounds usable).in_area run.made;
                few = omega (arith, run.counted);
                counted = omega (arith, run.counted);
                tallied = run.tallied;
                sized = run.sized;
                written = ap (λ (n : ℕ). take n area'') run.sized ∙ written;
              }

          -- ---- a part is left

          module _ (more : st.place.left ≡ true) where
            -- the part in focus
            left-stage : Stage cells'' st.place.top st.place.cur st.place.list (take st.place.written area') reached
            left-stage = part_left run.at more

            -- the term can be written back
            pub unloadable :
                length cells'' ≡ length cells' → length area' ≡ length area →
                Unloadable cells'' st.place.top st.place.cur st.place.list area' st.place.written
            unloadable same long =
                record {
                  term = reached;
                  stage = left-stage;
                  inside = omega (arith, fits-still, usable.roomy, long);
                  few = omega (arith, usable.few, same);
                  room = omega (arith, stopped.filled, same, fits-still, usable.roomy);
                }

            -- once it is, the record is right
            pub advanced-left :
                (area'' : List ℕ) →
                ((t : Term) → Stage cells'' st.place.top st.place.cur st.place.list (take st.place.written area') t →
                take (size t) area'' ≡ text t) →
                Advanced area p.term p.used most area'' counts' (made_of st most)
            advanced-left area'' unloaded = advanced area'' (unloaded reached left-stage)

          -- no part is left: the record is right
          pub advanced-end :
              st.place.left ≡ false → Advanced area p.term p.used most area' counts' (made_of st most)
          advanced-end none =
              let spelt = none_left run.at none in
              let long : st.place.written ≡ size reached =
              sym (length-take-le st.place.written area' run.inside) ∙ ap length (sym spelt) ∙ length-text reached in
              advanced area' (ap (λ (n : ℕ). take n area') (sym long) ∙ sym spelt)
