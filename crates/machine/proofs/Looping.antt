-- The loop of turns: its invariant, how a turn keeps it, and what it comes to. Assumes nothing.
use Prim.Native.Nat.{ℕ, ◌+◌, ◌-◌, ◌≤◌, ◌<◌}
use native.Mathlib.Omega.{arith}
use mathlib.Core.Path.{◌≡◌, refl, ◌∙◌, subst}
use mathlib.Core.Bool.{true, cond}
use mathlib.Core.List.{List}
use lib.ListN.{length}
use Rattle.turning.specs.Turning.{Runs, to_go_in, Turnable, Turned}
use Rattle.machine.specs.Advancing.{fillable, Startable, Stopped}
use Rattle.turning.specs.declared.State.{State}

-- the machine has come from its first state to this one; where there is another turn, a part is left
pub record Going
    (room : ℕ) (cells₀ area₀ counts₀ : List ℕ) (st₀ : State) (limit : ℕ) (cells area counts : List ℕ) (st : State)
    : Type 0 where
  pub begun : Startable room cells₀ area₀ counts₀ st₀
  pub limited : limit ≡ fillable cells₀ - 3
  pub same_cells : length cells ≡ length cells₀
  pub same_area : length area ≡ length area₀
  pub same-counts : length counts ≡ length counts₀
  pub runs : (p : Turnable room cells₀ area₀ counts₀ st₀) → Runs room p.first p.used p.most cells area counts st
  pub filled : st.place.top ≤ fillable cells₀
  pub onward : st.go ≡ true → st.place.left ≡ true

-- what falls with each turn, by the lengths of the arena and of the area
abbrev to_go_of : (cells area : ℕ) (st : State) → ℕ
to_go_of cells area st = st.steps + (cells - st.place.top) + (area - st.place.written) + cond st.go 1 0

-- before the first turn
pub going_start :
    (room : ℕ) (cells area counts : List ℕ) (st : State) → Startable room cells area counts st →
    Going room cells area counts st (fillable cells - 3) cells area counts st
going_start room cells area counts st start =
    record {
      begun = start;
      limited = refl;
      same_cells = refl;
      same_area = refl;
      same-counts = refl;
      runs = λ p. p.runs;
      filled = omega (arith, start.low);
      onward = λ e. start.turnable.left;
    }

module _
    {room : ℕ} {cells₀ area₀ counts₀ : List ℕ} {st₀ : State} {limit : ℕ} {cells area counts : List ℕ} {st : State}
    (going : Going room cells₀ area₀ counts₀ st₀ limit cells area counts st)
  where
    -- ---- a turn

    module _ (goes : st.go ≡ true) (low : st.place.top < limit) where
      -- it can be made
      abbrev pub going-turnable : Turnable room cells₀ area₀ counts₀ st₀ → Turnable room cells area counts st
      going-turnable p =
          record {
            first = p.first;
            used = p.used;
            most = p.most;
            runs = going.runs p;
            bounds =
                record {
                  fits = p.bounds.fits;
                  in_area = omega (arith, p.bounds.in_area, going.same_area);
                  limited = p.bounds.limited;
                  few = omega (arith, p.bounds.few, going.same_cells);
                  fuelled = p.bounds.fuelled;
                };
            free = omega (arith, low, going.limited, going.begun.many, going.same_cells);
            left = going.onward goes;
            goes = goes;
          }

      module _
          {cells' area' counts' : List ℕ} {st' : State}
          (turns :
          (p : Turnable room cells area counts st) → Turned room p.first p.used p.most cells area st cells' area' counts' st')
          (long : length cells' ≡ length cells) (wide : length area' ≡ length area) (kept : length counts' ≡ length counts)
        where
          -- it was made
          turned :
              Turned room going.begun.turnable.first going.begun.turnable.used going.begun.turnable.most cells area st
              cells' area' counts' st'
          turned = turns (going-turnable going.begun.turnable)

          -- less is to go
          pub going_less : to_go_in cells₀ area₀ st' < to_go_in cells₀ area₀ st
          going_less =
              subst (λ (n : ℕ). to_go_of n (length area₀) st' < to_go_of n (length area₀) st) going.same_cells
              (subst (λ (n : ℕ). to_go_of (length cells) n st' < to_go_of (length cells) n st) going.same_area turned.falls)

          -- and the machine has come to the next state
          pub going_next : Going room cells₀ area₀ counts₀ st₀ limit cells' area' counts' st'
          going_next =
              record {
                begun = going.begun;
                limited = going.limited;
                same_cells = long ∙ going.same_cells;
                same_area = wide ∙ going.same_area;
                same-counts = kept ∙ going.same-counts;
                runs = λ p. (turns (going-turnable p)).runs;
                filled = omega (arith, turned.few-more, low, going.limited);
                onward = turned.goes;
              }

    -- ---- the end

    -- the state in which the machine stopped
    pub going-stopped :
        (p : Turnable room cells₀ area₀ counts₀ st₀) → Stopped room p.first p.used p.most cells area counts st
    going-stopped p = record { runs = going.runs p; filled = omega (arith, going.filled, going.same_cells) }
