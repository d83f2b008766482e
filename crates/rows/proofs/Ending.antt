-- From what the code finds to the reply and the table: each way out of `ring` and of `ring_chain` as one law. Assumes nothing.
use Prim.Native.Nat.{ℕ, suc, ◌+◌, ◌*◌, ◌-◌, ◌/◌, ◌%◌, ◌≤◌, ◌<◌}
use native.Mathlib.Omega.{arith}
use mathlib.Core.Path.{◌≡◌, sym, ◌∙◌, ap, ap₂}
use mathlib.Core.Bool.{Bool, true, false}
use mathlib.Core.List.{List, ◌++◌}
use Rattle.std.specs.Prelude.{Err}
use lib.ListN.{length, take, replicate}
use Rattle.calculus.specs.Term.{Term, text}
use Rattle.calculus.proofs.PrefixCode.{length-text}
use Rattle.slices.specs.Same.{same}
use Rattle.slices.specs.Wrote.{Wrote}
use Rattle.slices.proofs.Wrote.{wrote-zeros}
use Rattle.repeats.specs.Repeats.{withoutRepeats}
use Rattle.reading.specs.Reply.{Reply}
use Rattle.reading.specs.Reading.{reading_of}
use Rattle.reading.specs.Answer.{answer_of as readingAnswer}
use Rattle.reading.specs.declared.Misread.{Misread}
use Rattle.reading.proofs.Terms.{whole-read, unread}
use Rattle.bell_rows.specs.Chain.{bells_of}
use Rattle.bell_rows.specs.Row.{fewest, most, cut_into, laid_out}
use Rattle.bell_rows.specs.Bytes.{is_chain_text, bells_in}
use Rattle.bell_rows.proofs.Chains.{chain-text, some_if}
use Rattle.bell_rows.proofs.Bells.{bells_half}
use Rattle.bell_rows.proofs.Cutting.{length_cut, whole-rows}
use Rattle.rows.specs.Ringing.{Rung, After, row_limit, good_rows, rows_for, ringing_of}
use Rattle.rows.specs.Storing.{Chained}
use Rattle.rows.specs.Answer.{answer_of}
use Rattle.rows.specs.declared.Refused.TheVariants.{Unread}
use Rattle.rows.proofs.Calls.{
  bells-few,
  bells-many,
  bells-none,
  bells-some,
  rows-uneven,
  rows-limit,
  rows-table,
  rows_fit,
  unread-decides,
  unbelled-decides,
  uncut-decides,
  bad-decides,
  rung-decides,
}

-- the bells that the test of a term's text finds
bells_by_test : (t : Term) (bytes : List ℕ) {b : Bool} → bytes ≡ text t → is_chain_text bytes ≡ b → bells_of t ≡ some_if b (bells_in bytes)
bells_by_test t bytes same e =
    chain-text t
    ∙ ap (λ (s : List ℕ). some_if (is_chain_text s) (bells_in s)) (sym same)
    ∙ ap (λ (b : Bool). some_if b (bells_in bytes)) e

module _ (bytes : List ℕ) (n : ℕ) (table : List ℕ) where
  -- what reading refuses
  pub refused-unread :
      (m : Misread) → readingAnswer (Err m) ≡ reading_of bytes → After.after (answer_of (Err (Unread m))) table ≡ ringing_of bytes n table
  refused-unread m e = sym (unread-decides bytes n table (unread bytes m e))

  module _ (m : ℕ) (first : Reply.answered m ≡ reading_of bytes) where
    -- 20: too few bells, or too many, or no chain
    pub refused-few : n < fewest → After.after (Reply.refused 20 0) table ≡ ringing_of bytes n table
    refused-few h = let (t, same, sized, read) = whole-read bytes m first in sym (unbelled-decides bytes n table read (bells-few n t h))

    pub refused-many : most < n → After.after (Reply.refused 20 0) table ≡ ringing_of bytes n table
    refused-many h = let (t, same, sized, read) = whole-read bytes m first in sym (unbelled-decides bytes n table read (bells-many n t h))

    pub refused-unchained : is_chain_text bytes ≡ false → After.after (Reply.refused 20 0) table ≡ ringing_of bytes n table
    refused-unchained e =
        let (t, same, sized, read) = whole-read bytes m first in
        sym (unbelled-decides bytes n table read (bells-none n t (bells_by_test t bytes same e)))

    -- a chain
    pub chained : fewest ≤ n → n ≤ most → is_chain_text bytes ≡ true → Chained bytes n (m / 2)
    chained low high e =
        let (t, same, sized, read) = whole-read bytes m first in
        let long : length bytes ≡ m = ap length same ∙ length-text t ∙ sized in
        record {
          enough = low;
          few = high;
          counted = bells_half bytes ∙ ap (λ (k : ℕ). k / 2) long;
          term = t;
          read = read;
          belled = bells-some n t low high (bells_by_test t bytes same e);
        }

  module _ {m : ℕ} (c : Chained bytes n m) where
    -- 21: no whole number of rows
    pub refused-uneven : (m % n ≡ 0 → ⊥) → After.after (Reply.refused 21 0) table ≡ ringing_of bytes n table
    refused-uneven h =
        let odd : length (bells_in bytes) % n ≡ 0 → ⊥ = λ e. h (ap (λ (k : ℕ). k % n) (sym c.counted) ∙ e) in
        sym (uncut-decides bytes n table c.read c.belled (rows-uneven n table (bells_in bytes) odd))

    module _ (even : m % n ≡ 0) where
      evenly : length (bells_in bytes) % n ≡ 0
      evenly = ap (λ (k : ℕ). k % n) c.counted ∙ even

      counted : length (bells_in bytes) / n ≡ m / n
      counted = ap (λ (k : ℕ). k / n) c.counted

      -- 21: too many rows, or more than the table holds
      pub refused-limit : row_limit < m / n → After.after (Reply.refused 21 0) table ≡ ringing_of bytes n table
      refused-limit h =
          let many : row_limit < length (bells_in bytes) / n = omega (arith, counted) in
          sym (uncut-decides bytes n table c.read c.belled (rows-limit n table (bells_in bytes) evenly many))

      pub refused-table : length table / most < m / n → After.after (Reply.refused 21 0) table ≡ ringing_of bytes n table
      refused-table h =
          let many : length table / most < length (bells_in bytes) / n = omega (arith, counted) in
          sym (uncut-decides bytes n table c.read c.belled (rows-table n table (bells_in bytes) evenly many))

      -- all bells are in the rows
      pub whole : length (bells_in bytes) ≡ m / n * n
      whole = c.counted ∙ whole-rows n (m) even

      module _ (limited : m / n ≤ row_limit) (room : m / n ≤ length table / most) where
        -- and the table holds them
        pub table_room : m / n * most ≤ length table
        table_room = omega arith

        abbrev rows : List (List ℕ)
        rows = cut_into (m / n) n (bells_in bytes)

        fitting : rows_for n table (bells_in bytes) ≡ Reply.answered rows
        fitting =
            rows_fit n table (bells_in bytes) evenly (omega (arith, counted)) (omega (arith, counted))
            ∙ ap (λ (k : ℕ). Reply.answered (cut_into k n (bells_in bytes))) counted

        -- 22
        pub refused-bad :
            (good : ℕ) → good ≡ good_rows n rows → good < m / n →
            After.after (Reply.refused 22 (good + 1)) table ≡ ringing_of bytes n table
        refused-bad good e h =
            let sized = length_cut n (m / n) (bells_in bytes) in
            let number : good + 1 ≡ suc (good_rows n rows) = omega arith in
            ap (λ (k : ℕ). After.after (Reply.refused 22 k) table) number
            ∙ sym (bad-decides bytes n table c.read c.belled fitting (omega arith))

        -- the rows, and zeros behind them
        pub rung :
            (good different : ℕ) (table₁ table₂ : List ℕ) → good ≡ good_rows n rows → m / n ≤ good →
            Wrote 0 (m / n * most) (laid_out rows) table table₁ → different ≡ length (withoutRepeats same rows) →
            table₂ ≡ take (m / n * most) table₁ ++ replicate (length table₁ - m / n * most) 0 →
            After.after (Reply.answered (Rung.rung (m / n) different)) table₂ ≡ ringing_of bytes n table
        rung good different table₁ table₂ e h w d z =
            let sized = length_cut n (m / n) (bells_in bytes) in
            let behind : length table - m / n * most ≡ length table - length (laid_out rows) = omega (arith, w.ends) in
            ap₂ (λ (r : Rung) (l : List ℕ). After.after (Reply.answered r) l) (ap₂ Rung.rung (sym sized) d)
            (wrote-zeros w z ∙ ap (λ (k : ℕ). laid_out rows ++ replicate k 0) behind)
            ∙ sym (rung-decides bytes n table c.read c.belled fitting (omega arith))
