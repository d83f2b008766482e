-- What is wrong with a line, as laws over plain variables: these carry the tests of `check_line`. The two parts of the
-- line are the fields in front of its first tab and behind it. Assumes nothing.
use Prim.Native.Nat.{ℕ, suc, ◌+◌, ◌≤◌}
use native.Mathlib.Numerals.{add-one}
use native.Mathlib.Omega.{arith}
use mathlib.Core.Path.{◌≡◌, refl, sym, ◌∙◌, ap, ap₂}
use mathlib.Core.Bool.{Bool, true, false, cond, not, ◌&&◌}
use mathlib.Core.List.{List}
use borrow.Author.Tests.{leb-true, leb-false, lt-ltb, le-ltb}
use lib.Dec.{leb, ltb}
use lib.ListN.{length, take, drop}
use Rattle.slices.specs.Find.{index_of}
use Rattle.slices.specs.Part.{part}
use Rattle.slices.specs.Split.{tab}
use Rattle.slices.proofs.Part.{part-front, part-back}
use Rattle.books.specs.Name.{is_name}
use Rattle.books.specs.Book.{line_limit}
use Rattle.book_names.specs.Key.{key_of, is_in}
use Rattle.book_lines.specs.Scan.{is_piece}
use Rattle.book_lines.specs.Uses.{uses_in, all_in}
use Rattle.book_lines.specs.Fault.{name_field, piece_field, fault_of}

-- the number of the line of that name and piece, where it is one
abbrev by_names : (name piece keys : List ℕ) → ℕ
by_names name piece keys = cond (is_in (key_of name) keys) 26 (cond (all_in (uses_in piece) keys) 0 27)

-- what is no line is malformed, and of a line the names decide
by_line :
    (body keys : List ℕ) →
    fault_of body keys ≡
    cond (ltb (length keys) line_limit && (is_name (name_field body) && is_piece (piece_field body)))
    (by_names (name_field body) (piece_field body) keys) 25
unfolding fault_of
by_line body keys = go (leb line_limit (length keys)) refl
  where
    names : ℕ
    names = by_names (name_field body) (piece_field body) keys

    line : Bool
    line = is_name (name_field body) && is_piece (piece_field body)

    turned : (t : Bool) → cond (not t) 25 names ≡ cond t names 25
    turned true = refl
    turned false = refl

    go :
        (t : Bool) → leb line_limit (length keys) ≡ t →
        cond t 25 (cond (not line) 25 names) ≡ cond (ltb (length keys) line_limit && line) names 25
    go true e =
        let none = le-ltb (length keys) line_limit (leb-true line_limit (length keys) e) in
        sym (ap (λ (t : Bool). cond (t && line) names 25) none)
    go false e =
        let room = lt-ltb (length keys) line_limit (leb-false line_limit (length keys) e) in
        turned line ∙ sym (ap (λ (t : Bool). cond (t && line) names 25) room)

module _
    (body keys : List ℕ)
    (at : ℕ)
    (name piece : List ℕ)
    (found : at ≡ index_of tab body)
    (front : name ≡ part 0 at body)
    (back : piece ≡ part (at + 1) (length body) body)
    (line : Bool)
    (tested : line ≡ ltb (length keys) line_limit && (is_name name && is_piece piece)) where
  -- what was cut out are the fields
  by_parts : fault_of body keys ≡ cond line (by_names name piece keys) 25
  by_parts =
      let within : length body ≤ length body = omega arith in
      let first = front ∙ part-front at body ∙ ap (λ (n : ℕ). take n body) found in
      let second = back ∙ part-back (at + 1) (length body) body within ∙ ap (λ (n : ℕ). drop n body) (add-one at ∙ ap suc found) in
      by_line body keys
      ∙ sym
      (ap₂ (λ (n p : List ℕ). cond (ltb (length keys) line_limit && (is_name n && is_piece p)) (by_names n p keys) 25) first second)
      ∙ sym (ap (λ (t : Bool). cond t (by_names name piece keys) 25) tested)

  -- 25 of what is no line
  pub malformed : line ≡ false → 25 ≡ fault_of body keys
  malformed e = sym (by_parts ∙ ap (λ (t : Bool). cond t (by_names name piece keys) 25) e)

  module _ (whole : line ≡ true) where
    -- of a line, names decide
    by_names_lem : fault_of body keys ≡ by_names name piece keys
    by_names_lem = by_parts ∙ ap (λ (t : Bool). cond t (by_names name piece keys) 25) whole

    -- 26 of a line whose name is given
    pub name-given : is_in (key_of name) keys ≡ true → 26 ≡ fault_of body keys
    name-given e = sym (by_names_lem ∙ ap (λ (t : Bool). cond t 26 (cond (all_in (uses_in piece) keys) 0 27)) e)

    -- 27 of one whose name is not, and that uses a name that is not
    pub name_unknown : is_in (key_of name) keys ≡ false → all_in (uses_in piece) keys ≡ false → 27 ≡ fault_of body keys
    name_unknown e f = sym (by_names_lem ∙ ap₂ (λ (s t : Bool). cond s 26 (cond t 0 27)) e f)

    -- 0 of one that uses names that are given
    pub sound : is_in (key_of name) keys ≡ false → all_in (uses_in piece) keys ≡ true → 0 ≡ fault_of body keys
    sound e f = sym (by_names_lem ∙ ap₂ (λ (s t : Bool). cond s 26 (cond t 0 27)) e f)
