-- What a call comes to in the relation: the function is the relation. Assumes nothing.
use Prim.Native.Nat.{ℕ, suc, ◌+◌, ◌*◌, ◌/◌, ◌%◌, ◌≤◌, ◌<◌}
use native.Mathlib.Omega.{arith}
use mathlib.Core.Path.{◌≡◌, refl, sym, ◌∙◌, ap, subst}
use mathlib.Core.Logic.{◌↔◌}
use mathlib.Core.Bool.{Bool, true, false}
use mathlib.Core.List.{List, ◌∷◌, ◌++◌}
use mathlib.Core.Option.{Option, none, some}
use borrow.Author.Tests.{ltb-true, ltb-false, eqb-true, eqb-false}
use lib.Dec.{ltb, eqb}
use lib.ListN.{length, length-append}
use Rattle.calculus.specs.Term.{Term, text}
use Rattle.slices.specs.Same.{same}
use Rattle.slices.proofs.Same.{same_equal, equal_same}
use Rattle.repeats.specs.Repeats.{withoutRepeats}
use Rattle.repeats.proofs.Repeats.{Decides, different-exactly}
use Rattle.reading.specs.Reply.{Reply}
use Rattle.reading.specs.Reading.{reading_of, ReadsAs, term_read}
use Rattle.reading.proofs.Whole.{reads_as, reads_as_only}
use Rattle.reading.proofs.Terms.{term-read, whole-read, refused-read}
use Rattle.bell_rows.specs.Chain.{Chain, bells_of}
use Rattle.bell_rows.specs.Row.{fewest, most, Cut, cut_into}
use Rattle.bell_rows.proofs.Chains.{bells-chain, chain-bells, no_chain}
use Rattle.bell_rows.proofs.Cutting.{length_cut, cut-rows, bells-cut, rows_cut, whole-rows, rows_whole}
use Rattle.rows.specs.Ringing.{Rung, After, row_limit, bells_for, rows_for, good_rows, table_with, ringing_of}
use Rattle.rows.specs.RingsAs.{Written, RingsAs}
use Rattle.rows.proofs.GoodRows.{first-bad, bad-first, none-bad, all-counted}
use Rattle.rows.proofs.Calls.{
  bells-few,
  bells-many,
  bells-none,
  bells-some,
  rows-uneven,
  rows-limit,
  rows-table,
  rows_fit,
  unread-decides,
  unbelled-decides,
  uncut-decides,
  bad-decides,
  rung-decides,
}

-- the test of two rows tells which are equal
pub rows-decided : Decides same
rows-decided x y = (same_equal x y, equal_same x y)

-- what the definition answers and leaves, in the relation
abbrev pub RingsTo : (bytes : List ℕ) (n : ℕ) (table : List ℕ) → After → Type 0
RingsTo bytes n table (After.after reply table') = RingsAs bytes n table reply table'

-- ---- what the function answers is in the relation

module _ (bytes : List ℕ) (n : ℕ) (table : List ℕ) where
  abbrev Rings : Type 0
  Rings = RingsTo bytes n table (ringing_of bytes n table)

  by :
      {reply : Reply Rung} {table' : List ℕ} → ringing_of bytes n table ≡ After.after reply table' →
      RingsAs bytes n table reply table' → Rings
  by e found = subst (RingsTo bytes n table) (sym e) found

  module _ (t : Term) (spelt : bytes ≡ text t) where
    read : term_read bytes ≡ Reply.answered t
    read = ap term_read spelt ∙ term-read t

    module _ (low : fewest ≤ n) (high : n ≤ most) (bells : List ℕ) (found : bells_of t ≡ some bells) where
      abbrev count : ℕ
      count = length bells / n

      abbrev as_rows : List (List ℕ)
      as_rows = cut_into count n bells

      belled : bells_for n t ≡ Reply.answered bells
      belled = bells-some n t low high found

      long : length as_rows ≡ count
      long = length_cut n count bells

      module _ (even : length bells % n ≡ 0) where
        written : Written n bytes as_rows
        written =
            record {
              enough = omega (arith, low);
              not_more = omega (arith, high);
              piece = t;
              spelt = spelt;
              bells = bells;
              chain = bells-chain t bells found;
              cut = cut-rows n count bells (whole-rows n (length bells) even);
            }

        module _ (limited : count ≤ row_limit) (room : count ≤ length table / most) where
          fitting : rows_for n table bells ≡ Reply.answered as_rows
          fitting = rows_fit n table bells even limited room

          by-good : (bad : Bool) → ltb (good_rows n as_rows) (length as_rows) ≡ bad → Rings
          by-good true e =
              let few = ltb-true (good_rows n as_rows) (length as_rows) e in
              let first = first-bad n as_rows few in
              let longer : length as_rows ≡ length (first.good ++ (first.bad ∷ first.others)) = ap length first.split in
              by
              (bad-decides bytes n table read belled fitting few
              ∙ ap (λ (k : ℕ). After.after (Reply.refused 22 (suc k)) table) (sym first.counted))
              (RingsAs.bad-row
              first.good
              first.bad
              first.others
              (subst (Written n bytes) first.split written)
              (omega (arith, limited, long, longer))
              (omega (arith, room, long, longer))
              first.all-good
              first.not_good)
          by-good false e =
              let all = ltb-false (good_rows n as_rows) (length as_rows) e in
              by
              (rung-decides bytes n table read belled fitting all)
              (RingsAs.rung
              written
              (omega (arith, limited, long))
              (omega (arith, room, long))
              (none-bad n as_rows all)
              ((different-exactly rows-decided as_rows (length (withoutRepeats same as_rows))).0 refl))

        by-room : (limited : count ≤ row_limit) (small : Bool) → ltb (length table / most) count ≡ small → Rings
        by-room limited true e =
            let many = ltb-true (length table / most) count e in
            by
            (uncut-decides bytes n table read belled (rows-table n table bells even many))
            (RingsAs.past_table written (omega (arith, many, long)))
        by-room limited false e =
            by-good limited (ltb-false (length table / most) count e) (ltb (good_rows n as_rows) (length as_rows)) refl

        by-limit : (large : Bool) → ltb row_limit count ≡ large → Rings
        by-limit true e =
            let many = ltb-true row_limit count e in
            by
            (uncut-decides bytes n table read belled (rows-limit n table bells even many))
            (RingsAs.past_limit written (omega (arith, many, long)))
        by-limit false e = by-room (ltb-false row_limit count e) (ltb (length table / most) count) refl

      -- bells cut into rows are a multiple of n
      not-cut : (length bells % n ≡ 0 → ⊥) → (rows : List (List ℕ)) → Cut n bells rows → ⊥
      not-cut odd rows c = odd (rows_whole n (length bells) (length rows) (omega (arith, low)) (bells-cut n c)).0

      by-cut : (even : Bool) → eqb (length bells % n) 0 ≡ even → Rings
      by-cut true e = by-limit (eqb-true (length bells % n) 0 e) (ltb row_limit count) refl
      by-cut false e =
          let odd = eqb-false (length bells % n) 0 e in
          by
          (uncut-decides bytes n table read belled (rows-uneven n table bells odd))
          (RingsAs.uneven t bells spelt (bells-chain t bells found) (omega (arith, low)) (omega (arith, high)) (not-cut odd))

    by_chain : fewest ≤ n → n ≤ most → (found : Option (List ℕ)) → bells_of t ≡ found → Rings
    by_chain low high none e =
        by (unbelled-decides bytes n table read (bells-none n t e)) (RingsAs.no_chain t spelt (no_chain t e))
    by_chain low high (some bells) e = by-cut low high bells e (eqb (length bells % n) 0) refl

    by_most : fewest ≤ n → (many : Bool) → ltb most n ≡ many → Rings
    by_most low true e =
        let many = ltb-true most n e in
        by (unbelled-decides bytes n table read (bells-many n t many)) (RingsAs.too_many t spelt (omega (arith, many)))
    by_most low false e = by_chain low (ltb-false most n e) (bells_of t) refl

    by-fewest : (few : Bool) → ltb n fewest ≡ few → Rings
    by-fewest true e =
        let few = ltb-true n fewest e in
        by (unbelled-decides bytes n table read (bells-few n t few)) (RingsAs.too_few t spelt (omega (arith, few)))
    by-fewest false e = by_most (ltb-false n fewest e) (ltb most n) refl

  by-reading : (reading : Reply ℕ) → reading_of bytes ≡ reading → Rings
  by-reading (Reply.refused number place) e =
      by
      (unread-decides bytes n table (refused-read bytes number place (sym e)))
      (RingsAs.unread (subst (ReadsAs bytes) e (reads_as bytes)))
  by-reading (Reply.answered m) e =
      let (t, spelt, sized, read) = whole-read bytes m (sym e) in
      by-fewest t spelt (ltb n fewest) refl

pub rings-to : (bytes : List ℕ) (n : ℕ) (table : List ℕ) → RingsTo bytes n table (ringing_of bytes n table)
rings-to bytes n table = by-reading bytes n table (reading_of bytes) refl

-- ---- and nothing else is

-- a term of which no bells make a chain
none_found : (t : Term) → ((bells : List ℕ) → Chain t bells → ⊥) → bells_of t ≡ none
none_found t not = go (bells_of t) refl
  where
    go : (found : Option (List ℕ)) → bells_of t ≡ found → bells_of t ≡ none
    go none e = e
    go (some bells) e = absurd (not bells (bells-chain t bells e))

-- what is read, found and cut of bytes in which rows are written
module _ (bytes : List ℕ) (n : ℕ) (table : List ℕ) (rows : List (List ℕ)) (w : Written n bytes rows) where
  written_read : term_read bytes ≡ Reply.answered w.piece
  written_read = ap term_read w.spelt ∙ term-read w.piece

  written-belled : bells_for n w.piece ≡ Reply.answered w.bells
  written-belled = bells-some n w.piece (omega (arith, w.enough)) (omega (arith, w.not_more)) (chain-bells w.chain)

  written-whole : (length w.bells % n ≡ 0) × (length w.bells / n ≡ length rows)
  written-whole = rows_whole n (length w.bells) (length rows) (omega (arith, w.enough)) (bells-cut n w.cut)

  written-fits : length rows ≤ row_limit → most * length rows ≤ length table → rows_for n table w.bells ≡ Reply.answered rows
  written-fits limited room =
      let (even, counted) = written-whole in
      rows_fit n table w.bells even (omega (arith, counted, limited)) (omega (arith, counted, room))
      ∙ ap (λ (k : ℕ). Reply.answered (cut_into k n w.bells)) counted
      ∙ ap Reply.answered (rows_cut n w.cut)

  written-limit : row_limit < length rows → ringing_of bytes n table ≡ After.after (Reply.refused 21 0) table
  written-limit h =
      let (even, counted) = written-whole in
      uncut-decides bytes n table written_read written-belled (rows-limit n table w.bells even (omega (arith, counted, h)))

  written-table : length table < most * length rows → ringing_of bytes n table ≡ After.after (Reply.refused 21 0) table
  written-table h =
      let (even, counted) = written-whole in
      uncut-decides bytes n table written_read written-belled (rows-table n table w.bells even (omega (arith, counted, h)))

rings-only :
    {bytes table table' : List ℕ} {n : ℕ} {reply : Reply Rung} → RingsAs bytes n table reply table' →
    ringing_of bytes n table ≡ After.after reply table'
rings-only {bytes} {table} {n = n} (RingsAs.unread {number = number} {place = place} r) =
    unread-decides bytes n table (refused-read bytes number place (sym (reads_as_only r)))
rings-only {bytes} {table} {n = n} (RingsAs.too_few t d h) =
    unbelled-decides bytes n table (ap term_read d ∙ term-read t) (bells-few n t (omega (arith, h)))
rings-only {bytes} {table} {n = n} (RingsAs.too_many t d h) =
    unbelled-decides bytes n table (ap term_read d ∙ term-read t) (bells-many n t (omega (arith, h)))
rings-only {bytes} {table} {n = n} (RingsAs.no_chain t d not) =
    unbelled-decides bytes n table (ap term_read d ∙ term-read t) (bells-none n t (none_found t not))
rings-only {bytes} {table} {n = n} (RingsAs.uneven t bells d c low high not) =
    let belled = bells-some n t (omega (arith, low)) (omega (arith, high)) (chain-bells c) in
    let odd : length bells % n ≡ 0 → ⊥ =
    λ e. not (cut_into (length bells / n) n bells) (cut-rows n (length bells / n) bells (whole-rows n (length bells) e)) in
    uncut-decides bytes n table (ap term_read d ∙ term-read t) belled (rows-uneven n table bells odd)
rings-only {bytes} {table} {n = n} (RingsAs.past_limit {rows = rows} w h) =
    written-limit bytes n table rows w (omega (arith, h))
rings-only {bytes} {table} {n = n} (RingsAs.past_table {rows = rows} w h) =
    written-table bytes n table rows w (omega (arith, h))
rings-only {bytes} {table} {n = n} (RingsAs.bad-row good bad others w limited room all not) =
    let rows = good ++ (bad ∷ others) in
    let counted : good_rows n rows ≡ length good = bad-first n good bad others all not in
    let longer : length rows ≡ length good + suc (length others) = length-append good (bad ∷ others) in
    bad-decides bytes n table
    (written_read bytes n table rows w)
    (written-belled bytes n table rows w)
    (written-fits bytes n table rows w (omega (arith, limited)) (omega (arith, room)))
    (omega (arith, counted, longer))
    ∙ ap (λ (k : ℕ). After.after (Reply.refused 22 (suc k)) table) counted
rings-only {bytes} {table} {n = n} (RingsAs.rung {rows = rows} {different = different} w limited room all d) =
    rung-decides bytes n table
    (written_read bytes n table rows w)
    (written-belled bytes n table rows w)
    (written-fits bytes n table rows w (omega (arith, limited)) (omega (arith, room)))
    (omega (arith, all-counted n rows all))
    ∙ ap (λ (k : ℕ). After.after (Reply.answered (Rung.rung (length rows) k)) (table_with rows table))
    ((different-exactly rows-decided rows different).1 d)

-- the function is the relation
pub rings_exactly :
    (bytes : List ℕ) (n : ℕ) (table table' : List ℕ) (reply : Reply Rung) →
    (ringing_of bytes n table ≡ After.after reply table') ↔ RingsAs bytes n table reply table'
rings_exactly bytes n table table' reply = (λ e. subst (RingsTo bytes n table) e (rings-to bytes n table), rings-only)
