-- The walk from line to line: what holds where `at` is the start of a line, what a bad line says of the whole, and that one good line more
-- keeps it. Carried by the fault of a line being the number that it has behind the earlier ones. Assumes nothing.
use Prim.Native.Nat.{ℕ, suc, ◌+◌, ◌-◌, ◌≤◌, ◌<◌}
use native.Mathlib.Omega.{arith}
use mathlib.Core.Path.{◌≡◌, refl, sym, ◌∙◌, ap, ap₂}
use mathlib.Core.List.{List, [], ◌∷◌, ◌++◌}
use lib.ListN.{length, take, drop, set, replicate, length-append, length-replicate}
use lib.Seq.{append_snoc, set_at, take_at}
use Rattle.reading.specs.Reply.{Reply, onward}
use Rattle.slices.specs.Find.{index_of}
use Rattle.slices.specs.Part.{part}
use Rattle.slices.specs.Split.{line_feed, tab, lines, last_byte}
use Rattle.slices.proofs.Part.{part-front}
use Rattle.books.specs.Line.{Line}
use Rattle.books.specs.Book.{line_limit, Book, next_line, book_from}
use Rattle.books.proofs.Reading.{line-good, lines-few}
use Rattle.book_names.specs.Key.{key_of, keys_of}
use Rattle.book_names.proofs.Given.{length_keys}
use Rattle.book_lines.specs.Fault.{name_field, fault_of}
use Rattle.book_lines.proofs.Faults.{fault_none, fault_some}
use Rattle.book_reading.specs.Table.{no_keys, count_of, table_of}
use Rattle.book_reading.proofs.Lines.{one_line, no_line}

-- ---- the table

-- the numbers of the lines' names, and zeros behind them
abbrev table_with : List Line → List ℕ
table_with earlier = table_of (Reply.answered earlier)

-- it is as long as a book may be
table-size : (earlier : List Line) → length earlier ≤ line_limit → length (table_with earlier) ≡ line_limit
table-size earlier h =
    let zeros : List ℕ = replicate (line_limit - length earlier) 0 in
    omega
    (arith, length-append (keys_of earlier) zeros, length_keys earlier, length-replicate {A = ℕ} (line_limit - length earlier) 0)

-- its front is the numbers
table-front : (earlier : List Line) (count : ℕ) → count ≡ length earlier → take count (table_with earlier) ≡ keys_of earlier
table-front earlier count e = take_at (keys_of earlier) (replicate (line_limit - length earlier) 0) count (length_keys earlier ∙ sym e)

-- one number more stands at the first zero
table_longer :
    (earlier : List Line) (l : Line) (count key : ℕ) → count ≡ length earlier → length earlier < line_limit →
    keys_of (l ∷ earlier) ≡ keys_of earlier ++ (key ∷ []) → set (table_with earlier) count key ≡ table_with (l ∷ earlier)
table_longer earlier l count key e few own =
    let zeros : List ℕ = replicate (line_limit - suc (length earlier)) 0 in
    let room : line_limit - length earlier ≡ suc (line_limit - suc (length earlier)) = omega arith in
    ap (λ (n : ℕ). set (keys_of earlier ++ replicate n 0) count key) room
    ∙ set_at (keys_of earlier) 0 zeros key count (length_keys earlier ∙ sym e)
    ∙ sym (ap (λ (ks : List ℕ). ks ++ zeros) own ∙ append_snoc (keys_of earlier) key zeros)

-- ---- the lines passed

-- so many lines were passed, which are a book, the table has their numbers, and the next begins at `at`; what is to come decides the whole
pub record Passed (book keys : List ℕ) (count at : ℕ) : Type 0 where
  pub earlier : List Line
  pub are_book : Book earlier
  pub counted : count ≡ length earlier
  pub table : keys ≡ table_of (Reply.answered earlier)
  pub comes : book_from earlier (lines (drop at book)) ≡ book_from [] (lines book)

-- before the first line
pub begun : (book : List ℕ) → Passed book no_keys 0 0
begun book = record { earlier = []; are_book = Book.empty; counted = refl; table = refl; comes = refl }

module _ {book keys : List ℕ} {count at : ℕ} (passed : Passed book keys count at) where
  -- no more than a book may have
  pub few : count ≤ line_limit
  few = omega (arith, lines-few passed.are_book, passed.counted)

  pub sized : length keys ≡ line_limit
  sized = ap length passed.table ∙ table-size passed.earlier (lines-few passed.are_book)

-- what is answered behind the last line
pub at-end :
    (book keys : List ℕ) (count at : ℕ) → Passed book keys count at → length book ≤ at →
    (Reply.answered count ≡ count_of (book_from [] (lines book))) × (keys ≡ table_of (book_from [] (lines book)))
at-end book keys count at passed h =
    let whole : Reply.answered passed.earlier ≡ book_from [] (lines book) =
    sym (ap (book_from passed.earlier) (no_line book at h)) ∙ passed.comes in
    (ap Reply.answered passed.counted ∙ ap count_of whole, passed.table ∙ ap table_of whole)

-- the number of what stands in front of the first tab
pub name-key :
    (body front : List ℕ) (index key : ℕ) → index ≡ index_of tab body → front ≡ part 0 index body → key ≡ key_of front →
    key ≡ key_of (name_field body)
name-key body front index key found cut e =
    e ∙ ap key_of (cut ∙ part-front index body ∙ ap (λ (n : ℕ). take n body) found)

module _
    {book keys body : List ℕ}
    {count at end : ℕ}
    (passed : Passed book keys count at)
    (last : last_byte book ≡ line_feed)
    (within : at < length book)
    (found : end ≡ at + index_of line_feed (drop at book))
    (cut : body ≡ part at end book) where
  -- the line that begins at `at` comes next
  next-comes :
      onward (next_line passed.earlier body) (λ l. book_from (l ∷ passed.earlier) (lines (drop (end + 1) book)))
      ≡ book_from [] (lines book)
  next-comes =
      ap (λ (s : List ℕ). book_from passed.earlier (s ∷ lines (drop (end + 1) book))) cut
      ∙ ap (book_from passed.earlier) (sym (one_line book at end last within found))
      ∙ passed.comes

  -- its fault is looked for behind the numbers of the lines passed
  behind : fault_of body (take count keys) ≡ fault_of body (keys_of passed.earlier)
  behind =
      ap (λ (table : List ℕ). fault_of body (take count table)) passed.table
      ∙ ap (fault_of body) (table-front passed.earlier count passed.counted)

  -- at a bad line
  pub refused :
      (number : ℕ) → number ≡ fault_of body (take count keys) → (number ≡ 0 → ⊥) →
      Reply.refused number (count + 1) ≡ book_from [] (lines book)
  refused number e wrong =
      let line : suc (length passed.earlier) ≡ count + 1 = omega (arith, passed.counted) in
      let next : next_line passed.earlier body ≡ Reply.refused number (count + 1) =
      fault_some passed.earlier body passed.are_book (λ z. wrong (e ∙ behind ∙ z))
      ∙ ap₂ Reply.refused (sym (e ∙ behind)) line in
      sym (ap (λ (r : Reply Line). onward r (λ l. book_from (l ∷ passed.earlier) (lines (drop (end + 1) book)))) next) ∙ next-comes

  module _ (right : fault_of body (take count keys) ≡ 0) where
    -- a good line has its name's number
    line-found :
        (l : Line) × (next_line passed.earlier body ≡ Reply.answered l)
        × (keys_of (l ∷ passed.earlier) ≡ keys_of passed.earlier ++ (key_of (name_field body) ∷ []))
    line-found = fault_none passed.earlier body passed.are_book (sym behind ∙ right)

    -- with it the lines are a book
    longer : Book (line-found.0 ∷ passed.earlier)
    longer = (line-good passed.earlier body line-found.0 passed.are_book line-found.1).0

    -- there is room for its number
    pub room : count < line_limit
    room = omega (arith, lines-few longer, passed.counted)

    -- behind it
    pub again : (key : ℕ) → key ≡ key_of (name_field body) → Passed book (set keys count key) (count + 1) (end + 1)
    again key e =
        let (l, answered, own) = line-found in
        record {
          earlier = l ∷ passed.earlier;
          are_book = longer;
          counted = omega (arith, passed.counted);
          table =
              ap₂ (λ (ks : List ℕ) (k : ℕ). set ks count k) passed.table e
              ∙ table_longer passed.earlier l count (key_of (name_field body)) passed.counted (lines-few longer) own;
          comes =
              sym (ap (λ (r : Reply Line). onward r (λ m. book_from (m ∷ passed.earlier) (lines (drop (end + 1) book)))) answered)
              ∙ next-comes;
        }
