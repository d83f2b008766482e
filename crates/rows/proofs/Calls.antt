-- What a call comes to, by what is read of the bytes, of the term, of its bells and of the rows: one law for each reply. Assumes nothing.
use Prim.Native.Nat.{ℕ, suc, ◌/◌, ◌%◌, ◌≤◌, ◌<◌}
use mathlib.Core.Path.{◌≡◌, refl, ◌∙◌, ap}
use mathlib.Core.Bool.{Bool, true, false, not, cond}
use mathlib.Core.List.{List}
use mathlib.Core.Option.{Option, none, some}
use borrow.Author.Tests.{lt-ltb, le-ltb, eq-eqb, ne_eqb}
use lib.Dec.{ltb}
use lib.ListN.{length}
use Rattle.calculus.specs.Term.{Term}
use Rattle.slices.specs.Same.{same}
use Rattle.repeats.specs.Repeats.{withoutRepeats}
use Rattle.reading.specs.Reply.{Reply, refuse_if, onward}
use Rattle.reading.specs.Reading.{term_read}
use Rattle.bell_rows.specs.Chain.{bells_of}
use Rattle.bell_rows.specs.Row.{fewest, most, cut_into}
use Rattle.rows.specs.Ringing.{
  Rung,
  After,
  row_limit,
  chained,
  bells_for,
  rows_for,
  good_rows,
  checked_rows,
  table_with,
  stored,
  ringing_of,
}

-- whichever of two tests holds, the refusal is the same
refuse_both :
    {X : Type 0} (s t : Bool) (number : ℕ) (other : Reply X) → t ≡ true →
    refuse_if s number (refuse_if t number other) ≡ Reply.refused number 0
refuse_both true t number other e = refl
refuse_both false t number other e = ap (λ (b : Bool). refuse_if b number other) e

-- ---- 20, by the number of bells and the term

module _ (n : ℕ) (t : Term) where
  pub bells-few : n < fewest → bells_for n t ≡ Reply.refused 20 0
  bells-few h = ap (λ (b : Bool). refuse_if b 20 (refuse_if (ltb most n) 20 (chained (bells_of t)))) (lt-ltb n fewest h)

  pub bells-many : most < n → bells_for n t ≡ Reply.refused 20 0
  bells-many h = refuse_both (ltb n fewest) (ltb most n) 20 (chained (bells_of t)) (lt-ltb most n h)

  pub bells-none : bells_of t ≡ none → bells_for n t ≡ Reply.refused 20 0
  bells-none e =
      ap (λ (o : Option (List ℕ)). refuse_if (ltb n fewest) 20 (refuse_if (ltb most n) 20 (chained o))) e ∙ go (ltb n fewest) (ltb most n)
    where
      go : (s u : Bool) → refuse_if s 20 (refuse_if u 20 (chained none)) ≡ Reply.refused 20 0
      go true u = refl
      go false true = refl
      go false false = refl

  pub bells-some : {bells : List ℕ} → fewest ≤ n → n ≤ most → bells_of t ≡ some bells → bells_for n t ≡ Reply.answered bells
  bells-some low high e =
      ap (λ (b : Bool). refuse_if b 20 (refuse_if (ltb most n) 20 (chained (bells_of t)))) (le-ltb n fewest low)
      ∙ ap (λ (b : Bool). refuse_if b 20 (chained (bells_of t))) (le-ltb most n high)
      ∙ ap chained e

-- ---- 21, by the bells and the table

module _ (n : ℕ) (table bells : List ℕ) where
  abbrev count : ℕ
  count = length bells / n

  abbrev cut : List (List ℕ)
  cut = cut_into count n bells

  abbrev by-limit : Reply (List (List ℕ))
  by-limit = refuse_if (ltb row_limit count) 21 (refuse_if (ltb (length table / most) count) 21 (Reply.answered cut))

  pub rows-uneven : (length bells % n ≡ 0 → ⊥) → rows_for n table bells ≡ Reply.refused 21 0
  rows-uneven h = ap (λ (b : Bool). refuse_if (not b) 21 by-limit) (ne_eqb (length bells % n) 0 h)

  module _ (even : length bells % n ≡ 0) where
    rows-even : rows_for n table bells ≡ by-limit
    rows-even = ap (λ (b : Bool). refuse_if (not b) 21 by-limit) (eq-eqb (length bells % n) 0 even)

    pub rows-limit : row_limit < count → rows_for n table bells ≡ Reply.refused 21 0
    rows-limit h =
        rows-even
        ∙ ap (λ (b : Bool). refuse_if b 21 (refuse_if (ltb (length table / most) count) 21 (Reply.answered cut))) (lt-ltb row_limit count h)

    pub rows-table : length table / most < count → rows_for n table bells ≡ Reply.refused 21 0
    rows-table h =
        rows-even
        ∙ refuse_both (ltb row_limit count) (ltb (length table / most) count) 21 (Reply.answered cut) (lt-ltb (length table / most) count h)

    pub rows_fit : count ≤ row_limit → count ≤ length table / most → rows_for n table bells ≡ Reply.answered cut
    rows_fit limited room =
        rows-even
        ∙ ap (λ (b : Bool). refuse_if b 21 (refuse_if (ltb (length table / most) count) 21 (Reply.answered cut)))
        (le-ltb row_limit count limited)
        ∙ ap (λ (b : Bool). refuse_if b 21 (Reply.answered cut)) (le-ltb (length table / most) count room)

-- ---- 22, by the rows

module _ (n : ℕ) (rows : List (List ℕ)) where
  abbrev by_rows : Bool → Reply (List (List ℕ))
  by_rows bad = cond bad (Reply.refused 22 (suc (good_rows n rows))) (Reply.answered rows)

  pub rows-bad : good_rows n rows < length rows → checked_rows n rows ≡ Reply.refused 22 (suc (good_rows n rows))
  rows-bad h = ap by_rows (lt-ltb (good_rows n rows) (length rows) h)

  pub rows-good : length rows ≤ good_rows n rows → checked_rows n rows ≡ Reply.answered rows
  rows-good h = ap by_rows (le-ltb (good_rows n rows) (length rows) h)

-- ---- the call

module _ (bytes : List ℕ) (n : ℕ) (table : List ℕ) where
  by-term :
      {x : Reply Term} → term_read bytes ≡ x →
      ringing_of bytes n table ≡ stored (onward (onward (onward x (bells_for n)) (rows_for n table)) (checked_rows n)) table
  unfolding ringing_of
  by-term e = ap (λ (x : Reply Term). stored (onward (onward (onward x (bells_for n)) (rows_for n table)) (checked_rows n)) table) e

  -- what reading refuses
  pub unread-decides :
      {number place : ℕ} → term_read bytes ≡ Reply.refused number place →
      ringing_of bytes n table ≡ After.after (Reply.refused number place) table
  unread-decides e = by-term e

  module _ {t : Term} (read : term_read bytes ≡ Reply.answered t) where
    by-bells :
        {x : Reply (List ℕ)} → bells_for n t ≡ x →
        ringing_of bytes n table ≡ stored (onward (onward x (rows_for n table)) (checked_rows n)) table
    by-bells e = by-term read ∙ ap (λ (x : Reply (List ℕ)). stored (onward (onward x (rows_for n table)) (checked_rows n)) table) e

    -- 20
    pub unbelled-decides : bells_for n t ≡ Reply.refused 20 0 → ringing_of bytes n table ≡ After.after (Reply.refused 20 0) table
    unbelled-decides e = by-bells e

    module _ {bells : List ℕ} (belled : bells_for n t ≡ Reply.answered bells) where
      by-cut : {x : Reply (List (List ℕ))} → rows_for n table bells ≡ x → ringing_of bytes n table ≡ stored (onward x (checked_rows n)) table
      by-cut e = by-bells belled ∙ ap (λ (x : Reply (List (List ℕ))). stored (onward x (checked_rows n)) table) e

      -- 21
      pub uncut-decides : rows_for n table bells ≡ Reply.refused 21 0 → ringing_of bytes n table ≡ After.after (Reply.refused 21 0) table
      uncut-decides e = by-cut e

      module _ {rows : List (List ℕ)} (even : rows_for n table bells ≡ Reply.answered rows) where
        -- 22
        pub bad-decides :
            good_rows n rows < length rows → ringing_of bytes n table ≡ After.after (Reply.refused 22 (suc (good_rows n rows))) table
        bad-decides h = by-cut even ∙ ap (λ (x : Reply (List (List ℕ))). stored x table) (rows-bad n rows h)

        -- the rows
        pub rung-decides :
            length rows ≤ good_rows n rows →
            ringing_of bytes n table
            ≡ After.after (Reply.answered (Rung.rung (length rows) (length (withoutRepeats same rows)))) (table_with rows table)
        rung-decides h = by-cut even ∙ ap (λ (x : Reply (List (List ℕ))). stored x table) (rows-good n rows h)
