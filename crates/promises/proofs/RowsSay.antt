-- What rows say: by the laws of `bell_rows`, `repeats` and `rows`. Assumes nothing.
use Prim.Native.Nat.{ℕ, zero, suc, ◌+◌, ◌*◌, ◌-◌, ◌<◌}
use native.Mathlib.Omega.{arith}
use mathlib.Core.Path.{◌≡◌, refl, sym, ◌∙◌}
use mathlib.Core.Logic.{◌↔◌}
use mathlib.Core.Bool.{Bool, true, false}
use mathlib.Core.List.{List}
use borrow.Author.Tests.{leb-true, leb-false}
use lib.Dec.{leb}
use lib.ListN.{length, get_or, replicate, length-append, length-replicate, get_or-append}
use Rattle.reading.specs.Reply.{Reply}
use Rattle.repeats.proofs.Repeats.{fits, different-exactly, all-different}
use Rattle.bell_rows.specs.Row.{most, down_to_one, times, RowOf, laid_out}
use Rattle.bell_rows.proofs.Cutting.{bells-cut}
use Rattle.bell_rows.proofs.Rows.{down_within, within_down, down_once, times_none, times-once, row-long}
use Rattle.bell_rows.proofs.LaidOut.{zeros-behind, laid-length, bell-at, unused-at}
use Rattle.rows.specs.Ringing.{Rung, table_with}
use Rattle.rows.specs.RingsAs.{RingsAs}
use Rattle.rows.proofs.Exactly.{rings_exactly, rows-decided}
use Rattle.rows.proofs.Back.{read_back}
use Rattle.promises.specs.RowsSay.{HoldsEachOnce, Holds, RowsSay}

-- the numbers from 1 to n hold each once
down_each : (n : ℕ) → HoldsEachOnce n (down_to_one n)
down_each n =
    record {
      once = λ k low high. times-once k (down_once n) (within_down n k low high);
      not-below = times_none 0 (down_to_one n) (λ m. let within = down_within n 0 m in omega arith);
      not-above = λ k h. times_none k (down_to_one n) (λ m. let within = down_within n k m in omega arith);
    }

each-once : (n : ℕ) (bells : List ℕ) → RowOf n bells ↔ HoldsEachOnce n bells
each-once n bells = (there, back)
  where
    there : RowOf n bells → HoldsEachOnce n bells
    there row =
        record {
          once = λ k low high. row k ∙ (down_each n).once k low high;
          not-below = row 0 ∙ (down_each n).not-below;
          not-above = λ k h. row k ∙ (down_each n).not-above k h;
        }

    back : HoldsEachOnce n bells → RowOf n bells
    back holds zero = holds.not-below ∙ sym (down_each n).not-below
    back holds (suc k) = go (leb (suc k) n) refl
      where
        go : (b : Bool) → leb (suc k) n ≡ b → times (suc k) bells ≡ times (suc k) (down_to_one n)
        go true e =
            let high = leb-true (suc k) n e in
            holds.once (suc k) (omega arith) high ∙ sym ((down_each n).once (suc k) (omega arith) high)
        go false e =
            let above = leb-false (suc k) n e in
            holds.not-above (suc k) above ∙ sym ((down_each n).not-above (suc k) above)

-- rows that are laid out, with zeros behind them
holds :
    {bytes table table' : List ℕ} {n count different : ℕ} →
    RingsAs bytes n table (Reply.answered (Rung.rung count different)) table' → Holds bytes n count table table'
holds {table = table} {n = n} (RingsAs.rung {rows = rows} w limited room good d) =
    record {
      piece = w.piece;
      spelt = w.spelt;
      bells = w.bells;
      chain = w.chain;
      counted = bells-cut n w.cut;
      sized = omega (arith, length-append (laid_out rows) (replicate zeros 0), length-replicate {A = ℕ} zeros 0, long);
      struck = λ i j h k. in_rows i j h (omega (arith, w.not_more)) ∙ bell-at n w.not_more w.cut i j h k;
      unused = λ i j h low high. in_rows i j h high ∙ unused-at n w.not_more w.cut i j h low high;
      behind = λ k h. zeros-behind (laid_out rows) zeros k (omega (arith, long));
    }
  where
    zeros : ℕ
    zeros = length table - length (laid_out rows)

    long : length (laid_out rows) ≡ length rows * most
    long = laid-length n w.not_more w.cut

    in_rows : (i j : ℕ) → i < length rows → j < most → get_or (table_with rows table) (i * most + j) 0 ≡ get_or (laid_out rows) (i * most + j) 0
    in_rows i j h k = get_or-append (laid_out rows) (replicate zeros 0) 0 (i * most + j) (omega (arith, long))

pub rows_say : RowsSay
rows_say =
    record {
      each-once = each-once;
      row-long = row-long;
      one_number = λ rows j k d e. sym ((different-exactly rows-decided rows j).1 d) ∙ (different-exactly rows-decided rows k).1 e;
      at_most = λ rows k d. omega (arith, fits d.none-twice d.no_other, d.counted);
      all-different =
          λ rows. (
            λ d. (all-different rows-decided rows).0 ((different-exactly rows-decided rows (length rows)).1 d),
            λ once. (different-exactly rows-decided rows (length rows)).0 ((all-different rows-decided rows).1 once),
          );
      byte_by_byte =
          λ bytes table table' n count different e.
          holds ((rings_exactly bytes n table table' (Reply.answered (Rung.rung count different))).0 e);
      read_back =
          λ bytes₁ bytes₂ table₁ table₂ left n₁ n₂ r₁ r₂ e₁ e₂.
          read_back
          ((rings_exactly bytes₁ n₁ table₁ left (Reply.answered r₁)).0 e₁)
          ((rings_exactly bytes₂ n₂ table₂ left (Reply.answered r₂)).0 e₂)
          refl;
    }
