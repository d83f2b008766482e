-- What is read of a whole book, and what is answered of a refusal: the tests of the whole in their order. Assumes nothing.
use Prim.Native.Nat.{ℕ, ◌≤◌, ◌<◌}
use native.Mathlib.Omega.{arith}
use mathlib.Core.Path.{◌≡◌, refl, sym, ◌∙◌, ap, ap₂}
use mathlib.Core.Bool.{Bool, true, false, not}
use mathlib.Core.List.{List, []}
use borrow.Author.Tests.{eq-eqb, ne_eqb, lt-ltb, le-ltb}
use lib.Dec.{eqb, ltb}
use lib.ListN.{length}
use Rattle.std.specs.Prelude.{Err}
use Rattle.reading.specs.Reply.{Reply, number_in, refuse_if, passed_on}
use Rattle.book_lines.specs.Number.{refusal_of as fault}
use Rattle.book_lines.specs.declared.Fault.{Fault}
use Rattle.book_lines.specs.declared.Fault.TheVariants.{Malformed, NameGiven, NameUnknown}
use Rattle.slices.specs.Split.{line_feed, lines, last_byte}
use Rattle.books.specs.Line.{Line}
use Rattle.books.specs.Book.{book_limit, book_from, book_of}
use Rattle.book_reading.specs.declared.Refused.{Refused}
use Rattle.book_reading.specs.Answer.{refusal_of, answer_of, keys_in}
use Rattle.book_reading.specs.Table.{count_of, table_of}

-- a refusal has no numbers of names
pub refuses :
    (refused : Refused) {reply : Reply (List Line)} (number place : ℕ) → refusal_of refused ≡ Reply.refused number place →
    Reply.refused number place ≡ reply →
    (answer_of (Err refused) ≡ count_of reply) × (keys_in (Err refused) ≡ table_of reply)
refuses refused number place numbered e =
    (ap passed_on numbered ∙ ap count_of e, ap table_of e)

-- the numbers of faults are others than 0
pub fault-numbered : (wrong : Fault) → number_in (fault wrong) ≡ 0 → ⊥
fault-numbered Malformed e = omega arith
fault-numbered NameGiven e = omega arith
fault-numbered NameUnknown e = omega arith

-- the refusals of the whole, in their order
abbrev refusals : (long empty unended : Bool) → Reply (List Line) → Reply (List Line)
refusals long empty unended other = refuse_if long 10 (refuse_if empty 11 (refuse_if unended 12 other))

module _ (book : List ℕ) where
  whole :
      (long empty is-feed : Bool) → ltb book_limit (length book) ≡ long → eqb (length book) 0 ≡ empty →
      eqb (last_byte book) line_feed ≡ is-feed → refusals long empty (not is-feed) (book_from [] (lines book)) ≡ book_of book
  unfolding book_of
  whole long empty is-feed p q r =
      sym (ap₂ (λ (a b : Bool). refusals a b (not (eqb (last_byte book) line_feed)) (book_from [] (lines book))) p q
      ∙ ap (λ (a : Bool). refusals long empty (not a) (book_from [] (lines book))) r)

  pub too_long : book_limit < length book → Reply.refused 10 0 ≡ book_of book
  too_long h = whole true (eqb (length book) 0) (eqb (last_byte book) line_feed) (lt-ltb book_limit (length book) h) refl refl

  module _ (short : length book ≤ book_limit) where
    pub is-empty : length book ≡ 0 → Reply.refused 11 0 ≡ book_of book
    is-empty e = whole false true (eqb (last_byte book) line_feed) (le-ltb book_limit (length book) short) (eq-eqb (length book) 0 e) refl

    module _ (some_byte : length book ≡ 0 → ⊥) where
      pub no_line-end : (last_byte book ≡ line_feed → ⊥) → Reply.refused 12 0 ≡ book_of book
      no_line-end n =
          whole false false false (le-ltb book_limit (length book) short) (ne_eqb (length book) 0 some_byte)
          (ne_eqb (last_byte book) line_feed n)

      pub line-by-line : last_byte book ≡ line_feed → book_from [] (lines book) ≡ book_of book
      line-by-line e =
          whole false false true (le-ltb book_limit (length book) short) (ne_eqb (length book) 0 some_byte)
          (eq-eqb (last_byte book) line_feed e)
