-- The programs' definitions on the whole input: what `answer_run` prints for a line that was fed the input, in chunks cut anywhere, with
-- zeroed buffers, is `finish_program` of the input; and the first 65,537 bytes of a file decide `check_program`. Assumes nothing.
use Prim.Native.Nat.{ℕ, ◌≤◌, ◌<◌, min}
use native.Mathlib.Decide.{dec_le}
use native.Mathlib.Omega.{arith}
use mathlib.Core.Path.{◌≡◌, sym, ◌∙◌, ap, ap₂}
use mathlib.Core.Bool.{Bool, true, false}
use mathlib.Core.List.{List, []}
use mathlib.Core.Option.{Option, none, some}
use Rattle.std.specs.Prelude.{Option as Perhaps}
use borrow.Author.Tests.{lt-ltb}
use lib.ListN.{length, take, length-take}
use lib.Seq.{take_all}
use Rattle.slices.specs.Put.{put, behind}
use Rattle.reading.specs.Reply.{Reply}
use Rattle.derivation_files.specs.Checking.{checking_of}
use Rattle.finishing.specs.Finishing.{After, finishing_of}
use Rattle.finish_line.specs.Request.{request_of}
use Rattle.finish_line.specs.Request.{Request as Wanted}
use Rattle.finish_line.specs.Answer.{asked_of}
use Rattle.line_states.specs.Fed.{number_cap, length_cap}
use Rattle.finish_line.specs.declared.Request.{Request as Asked}
use Rattle.line_chunks.proofs.Says.{input_of, after}
use Rattle.finish_line.proofs.Asks.{Answers, line-answers}
use Rattle.answer_lines.specs.Shown.{shown_run, shown_check}
use Rattle.answering.specs.Program.{shape_line, area_with, requested, finish_program, check_program, unless_failed}
use Rattle.answering.specs.Answer.{made, printed_run}
use Rattle.answering.proofs.Ranges.{Ranged, ranged}
use Rattle.answering.proofs.Caps.{capped}
use Rattle.answering.proofs.Zeros.{zeros, length-zeros, take-zeros, kept-area, length-area}
use Rattle.answering.proofs.Lengths.{program_length, line-whole}
use Rattle.answering.proofs.Verdicts.{check_program_length}

module _ (n m : ℕ) (room : 16384 ≤ n) (work-room : 16384 ≤ m) where
  -- what is made of the line's answer is what is made of the request
  answered :
      {X : Type 0} (other : X) (of : After → X) (o : Option Wanted) (asked : Perhaps Asked) (buffer : List ℕ) →
      Ranged o → Answers (zeros n) o asked buffer →
      made other of asked buffer (zeros m) ≡ requested other of o
  answered other of none asked buffer r e = ap (λ (a : Perhaps Asked). made other of a buffer (zeros m)) e
  answered other of (some (Wanted.request fuel area term)) asked buffer r (e, kept) =
      let front : take area buffer ≡ area_with area term = ap (take area) kept ∙ kept-area n area term r room in
      let cleared : take area (zeros m) ≡ zeros area = take-zeros area m (omega arith) in
      ap (λ (a : Perhaps Asked). made other of a buffer (zeros m)) e
      ∙ ap₂ (λ (a w : List ℕ). of (finishing_of a (min (length term) length_cap) w (min fuel number_cap))) front cleared
      ∙ ap of
      (capped (area_with area term) (zeros area) (omega (arith, length-area area term)) (omega (arith, length-area area term, length-zeros area)) (length term) fuel)

  -- what is made of a line, however the input is cut
  pub input-made :
      {X : Type 0} (other : X) (of : After → X) (chunks : List (List ℕ)) →
      made other of (asked_of (after (zeros n) chunks).line) (after (zeros n) chunks).buffer (zeros m)
      ≡ requested other of (request_of (input_of chunks))
  input-made other of chunks =
      answered other of (request_of (input_of chunks)) (asked_of (after (zeros n) chunks).line) (after (zeros n) chunks).buffer
      (ranged (input_of chunks)) (line-answers (zeros n) chunks)

  -- the finishing program prints its definition
  pub finish-prints :
      (chunks : List (List ℕ)) →
      printed_run (asked_of (after (zeros n) chunks).line) (after (zeros n) chunks).buffer (zeros m) ≡ finish_program (input_of chunks)
  unfolding finish_program
  finish-prints chunks = input-made shape_line shown_run chunks

  -- the line that `answer_run` prints, once the input was fed
  abbrev pub printed : List (List ℕ) → List ℕ
  printed chunks = printed_run (asked_of (after (zeros n) chunks).line) (after (zeros n) chunks).buffer (zeros m)

  -- so the bytes in front of the answer are the program's line, where `out` has 16,402 bytes or more, and none after a failed read
  pub finish-writes :
      (failed : Bool) (chunks : List (List ℕ)) (out : List ℕ) → 16402 ≤ length out →
      take (behind 0 (unless_failed failed (printed chunks)) out) (put 0 (unless_failed failed (printed chunks)) out)
      ≡ unless_failed failed (finish_program (input_of chunks))
  finish-writes true chunks out h = (line-whole [] out (omega arith)).0
  finish-writes false chunks out h =
      let prints : printed chunks ≡ finish_program (input_of chunks) = finish-prints chunks in
      (line-whole (printed chunks) out (omega (arith, ap length prints, program_length (input_of chunks)))).0 ∙ prints

over_long : (file : List ℕ) → 65536 < length file → checking_of file ≡ Reply.refused 10 0
unfolding checking_of
over_long file h = rw (lt-ltb _ _ h)

-- the checking program reads no more than 65,537 bytes, and what follows changes nothing
pub check-front : (file : List ℕ) → check_program (take 65537 file) ≡ check_program file
unfolding check_program
check-front file = go (dec_le (length file) 65537)
  where
    go : Dec (length file ≤ 65537) → shown_check (checking_of (take 65537 file)) ≡ shown_check (checking_of file)
    go (yes h) = ap (λ (f : List ℕ). shown_check (checking_of f)) (take_all 65537 file h)
    go (no h) = ap shown_check (over_long (take 65537 file) (omega (arith, length-take 65537 file)) ∙ sym (over_long file (omega arith)))

-- so the bytes in front of the answer are the program's line, where `out` has 24 bytes or more, and none after a failed read
abbrev pub checked_front : (failed : Bool) (file : List ℕ) → List ℕ
checked_front failed file = unless_failed failed (check_program (take 65537 file))

pub check_writes :
    (failed : Bool) (file out : List ℕ) → 24 ≤ length out →
    take (behind 0 (checked_front failed file) out) (put 0 (checked_front failed file) out) ≡ unless_failed failed (check_program file)
check_writes true file out h = (line-whole [] out (omega arith)).0
check_writes false file out h =
    (line-whole (check_program (take 65537 file)) out (omega (arith, check_program_length (take 65537 file)))).0 ∙ check-front file
