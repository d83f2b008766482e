-- A line that is fed the whole input, in chunks cut anywhere, asks for what `request_of` says of the input, and its buffer holds the
-- term's first bytes. Carried by what the line says of its parts (`line-says`), and that the cap changes no area size in range. Assumes
-- nothing.
use Prim.Native.Nat.{ℕ, ◌≤◌, min}
use native.Mathlib.Decide.{dec_le}
use native.Mathlib.Omega.{arith}
use mathlib.Core.Path.{◌≡◌, refl, sym, ◌∙◌, ap, ap₂, subst}
use mathlib.Core.Logic.{◌↔◌}
use mathlib.Core.Bool.{Bool, true, false, ◌&&◌}
use mathlib.Core.Option.{Option, none, some}
use mathlib.Core.List.{List}
use Rattle.std.specs.Prelude.{Option as Perhaps, None, Some}
use lib.Dec.{leb}
use borrow.Author.Tests.{leb-true, le-leb, lt-leb}
use lib.ListN.{length, take, length-take}
use lib.Seq.{take-take, take-length}
use Rattle.calculus.specs.Limits.{area_limit}
use Rattle.slices.proofs.Decimal.{and_both}
use Rattle.line_states.specs.declared.Line.{Line}
use Rattle.line_states.specs.declared.Line.TheVariants.{InFirst, InSecond, InThird, Ended, Other}
use Rattle.line_states.specs.Parts.{Parts, parts_of}
use Rattle.line_states.specs.Fed.{number_cap, length_cap}
use Rattle.line_states.specs.Kept.{kept_in}
use Rattle.line_states.specs.End.{end_of}
use Rattle.line_states.proofs.Buffer.{kept-take}
use Rattle.line_states.proofs.Caps.{number-exact}
use Rattle.line_chunks.proofs.Says.{Says, input_of, after, line-says}
use Rattle.finish_line.specs.declared.Request.{Request}
use Rattle.finish_line.specs.Request.{request_if, is_area_size, request_with, request_of}
use Rattle.finish_line.specs.Request.{Request as Wanted}
use Rattle.finish_line.specs.Answer.{asked_if, asked_of}

-- a request of those numbers
abbrev pub request : (fuel area length : ℕ) → Perhaps Request
request fuel area length = Some (record { fuel = fuel; area = area; length = length })

-- what an input that asks for so much leaves in the answer and in the buffer
abbrev pub Answers : (buffer : List ℕ) → Option Wanted → Perhaps Request → (buffer' : List ℕ) → Type 0
Answers buffer none asked buffer' = asked ≡ None
Answers buffer (some (Wanted.request fuel area term)) asked buffer' =
    (asked ≡ request (min fuel number_cap) area (min (length term) length_cap)) × (buffer' ≡ kept_in buffer (take length_cap term))

-- the cap changes no area size in range, and makes none
size-capped : (n : ℕ) → is_area_size (min n number_cap) ≡ is_area_size n
size-capped n = go (dec_le n number_cap)
  where
    go : Dec (n ≤ number_cap) → is_area_size (min n number_cap) ≡ is_area_size n
    go (yes h) = let e : min n number_cap ≡ n = omega arith in ap is_area_size e
    go (no h) =
        ap₂ ◌&&◌
        (le-leb 1 (min n number_cap) (omega arith) ∙ sym (le-leb 1 n (omega arith)))
        (lt-leb (min n number_cap) area_limit (omega arith) ∙ sym (lt-leb n area_limit (omega arith)))

size_exact : (n : ℕ) → is_area_size n ≡ true → min n number_cap ≡ n
size_exact n e =
    let (low, high) = and_both (leb 1 n) (leb n area_limit) e in
    let most : n ≤ area_limit = leb-true n area_limit high in
    number-exact n (omega arith)

-- a line that has not ended asks for nothing
unended : (line : Line) → end_of line ≡ none → asked_of line ≡ None
unended (InFirst number) e = refl
unended (InSecond first number) e = refl
unended (InThird first second number length) e = refl
unended (Ended first second third length) e = cc
unended Other e = refl

-- what the parts say is what the request answers
parts-answer : (d buffer : List ℕ) (line : Line) (o : Option Parts) → Says d o line buffer
    → Answers d (request_with o) (asked_of line) buffer
parts-answer d buffer line none e = unended line e
parts-answer d buffer line (some (Parts.parts fuel area term)) (e, kept) = go (is_area_size area) refl
  where
    asked : asked_of line ≡ asked_if (is_area_size area) (min fuel number_cap) (min area number_cap) (min (length term) length_cap)
    asked =
        ap asked_of e
        ∙ ap (λ (t : Bool). asked_if t (min fuel number_cap) (min area number_cap) (min (length term) length_cap)) (size-capped area)

    go : (t : Bool) → is_area_size area ≡ t → Answers d (request_if t (Wanted.request fuel area term)) (asked_of line) buffer
    go true sized = (
      asked
          ∙ ap₂ (λ (t : Bool) (n : ℕ). asked_if t (min fuel number_cap) n (min (length term) length_cap)) sized (size_exact area sized),
      kept,
    )
    go false sized =
        asked ∙ ap (λ (t : Bool). asked_if t (min fuel number_cap) (min area number_cap) (min (length term) length_cap)) sized

module _ (buffer : List ℕ) (chunks : List (List ℕ)) where
  -- the whole answer: for every input, in chunks cut anywhere
  pub line-answers : Answers buffer (request_of (input_of chunks)) (asked_of (after buffer chunks).line) (after buffer chunks).buffer
  unfolding request_of
  line-answers =
      let s = after buffer chunks in
      parts-answer buffer s.buffer s.line (parts_of (input_of chunks)) (line-says buffer chunks)

  abbrev Answered : Option Wanted → Type 0
  Answered o = Answers buffer o (asked_of (after buffer chunks).line) (after buffer chunks).buffer

  -- of another shape exactly where the definition has no request
  pub other-shape : (request_of (input_of chunks) ≡ none) ↔ (asked_of (after buffer chunks).line ≡ None)
  other-shape = (
    λ e. subst Answered e line-answers,
    go (request_of (input_of chunks)) line-answers,
  )
    where
      go : (o : Option Wanted) → Answered o → asked_of (after buffer chunks).line ≡ None → o ≡ none
      go none answer e = refl
      go (some (Wanted.request fuel area term)) answer e = let asked = answer.0 in cc

  module _ (fuel area : ℕ) (term : List ℕ) (e : request_of (input_of chunks) ≡ some (Wanted.request fuel area term)) where
    both : Answered (some (Wanted.request fuel area term))
    both = subst Answered e line-answers

    -- a request's numbers: the area size is exact, fuel and length are exact up to their caps
    pub request-asked : asked_of (after buffer chunks).line ≡ request (min fuel number_cap) area (min (length term) length_cap)
    request-asked = both.0

    -- each byte of the buffer: the term's first bytes, and behind them what stood there
    pub request-kept : (after buffer chunks).buffer ≡ kept_in buffer (take length_cap term)
    request-kept = both.1

    -- as many of the term's bytes as are counted and have room are read back
    pub request-read : (n : ℕ) → n ≤ min (length term) length_cap → n ≤ length buffer → take n (after buffer chunks).buffer ≡ take n term
    request-read n counted room =
        ap (take n) request-kept
        ∙ kept-take buffer (take length_cap term) n room (omega (arith, length-take length_cap term))
        ∙ take-take n length_cap term (omega arith)

    -- a term that has room is there whole
    pub request-whole : length term ≤ length_cap → length term ≤ length buffer → take (length term) (after buffer chunks).buffer ≡ term
    request-whole counted room = request-read (length term) (omega arith) room ∙ take-length term
