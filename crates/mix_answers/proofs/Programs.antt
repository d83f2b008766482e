-- The program's definition on the whole input: what `answer_mix` puts for a line that was fed the input, in chunks cut anywhere, with
-- zeroed buffers, is `mix_program` of the input. Assumes nothing.
use Prim.Native.Nat.{ℕ, ◌≤◌}
use native.Mathlib.Omega.{arith}
use mathlib.Core.Path.{◌≡◌, refl, ◌∙◌, ap}
use mathlib.Core.Bool.{Bool, true, false}
use mathlib.Core.List.{List, [], ◌∷◌}
use mathlib.Core.Option.{Option, none, some}
use lib.ListN.{length, take, length-append}
use Rattle.calculus.specs.Run.{run, rules}
use Rattle.calculus.specs.Counts.{uses}
use Rattle.calculus.proofs.Runs.{count-fuel}
use Rattle.calculus.proofs.Counts.{tally-below}
use Rattle.finishing.specs.Finishing.{After}
use Rattle.finishing.proofs.Calls.{Call, call}
use Rattle.answer_lines.specs.Shown.{shown_run}
use Rattle.finish_line.specs.Request.{Request, request_of}
use Rattle.finish_line.specs.Answer.{asked_of}
use Rattle.line_chunks.proofs.Says.{input_of, after}
use Rattle.answering.specs.Program.{shape_line, area_with, requested, unless_failed}
use Rattle.answering.proofs.Zeros.{zeros}
use Rattle.answering.proofs.Lengths.{call_length, refused-length}
use Rattle.answering.proofs.Programs.{input-made}
use Rattle.mix_lines.specs.Mix.{largest_of, mix_rows}
use Rattle.mix_lines.specs.PutAll.{put_all, joined}
use Rattle.mix_lines.proofs.Whole.{put-all, rows-length}
use Rattle.mix_answers.specs.Mix.{mix_lines, printed_mix, mix_program, none_failed}

-- ---- how long the lines are

-- one line alone
one_line : (line : List ℕ) → length (joined (line ∷ [])) ≡ length line
one_line line = omega (arith, length-append line [])

mix_length : {area work : List ℕ} {len fuel : ℕ} {x : After} → Call area len work fuel x → length (joined (mix_lines x)) ≤ 17143
mix_length {area} {work} {len} {fuel} {x} (Call.refused {number} {place} found) =
    omega (arith, one_line (shown_run x), call_length {area = area} {work = work} {len = len} {fuel = fuel} (Call.refused found))
mix_length {area} {work} {len} {fuel} {x} (Call.made t admits) =
    let r = run fuel (length area) t in
    let low = tally-below 10000000 (rules r) (omega (arith, count-fuel fuel (length area) t, admits.fuelled)) in
    omega (
      arith,
      length-append (shown_run x) (joined (mix_rows (uses r))),
      call_length {area = area} {work = work} {len = len} {fuel = fuel} (Call.made t admits),
      rows-length (largest_of (uses r)) 1 (uses r) (omega arith) low,
    )

request-length : (o : Option Request) → length (joined (requested (shape_line ∷ []) mix_lines o)) ≤ 17143
request-length none = omega (arith, one_line shape_line, refused-length 19 0 (omega arith) (omega arith))
request-length (some (Request.request fuel area term)) = mix_length (call (area_with area term) (length term) (zeros area) fuel)

-- ---- what is printed

module _ (n m : ℕ) (room : 16384 ≤ n) (work-room : 16384 ≤ m) where
  -- the lines that `answer_mix` puts, once the input was fed
  abbrev pub printed : List (List ℕ) → List (List ℕ)
  printed chunks = printed_mix (asked_of (after (zeros n) chunks).line) (after (zeros n) chunks).buffer (zeros m)

  -- the program prints its definition, however its input is cut
  pub mix-prints : (chunks : List (List ℕ)) → joined (printed chunks) ≡ mix_program (input_of chunks)
  unfolding mix_program
  mix-prints chunks = ap joined (input-made n m room work-room (shape_line ∷ []) mix_lines chunks)

  -- so the bytes in front of the answer are the program's lines, where `out` has 17,143 bytes or more, and none after a failed read
  pub mix-writes :
      (failed : Bool) (chunks : List (List ℕ)) (out : List ℕ) → 17143 ≤ length out →
      take (put_all (none_failed failed (printed chunks)) 0 out).0 (put_all (none_failed failed (printed chunks)) 0 out).1
      ≡ unless_failed failed (mix_program (input_of chunks))
  mix-writes true chunks out h = refl
  mix-writes false chunks out h =
      let same = input-made n m room work-room (shape_line ∷ []) mix_lines chunks in
      let long = ap (λ (lines : List (List ℕ)). length (joined lines)) same in
      (put-all (printed chunks) 0 out (omega (arith, long, request-length (request_of (input_of chunks))))).front ∙ mix-prints chunks
