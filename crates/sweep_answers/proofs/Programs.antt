-- The program's definition on the whole input: what `answer_sweep` prints for a line that was fed the input, in chunks cut anywhere, is
-- `sweep_program` of the input, in 44 bytes or fewer. Carried by what the line asks (`line-asks`), and that the caps change no answer.
-- Assumes nothing.
use Prim.Native.Nat.{ℕ, ◌*◌, ◌/◌, ◌%◌, ◌≤◌, ◌<◌}
use native.Mathlib.Omega.{arith}
use native.Mathlib.Nat.{div-le_self, mod-lt, mul-le-mul}
use mathlib.Core.Path.{◌≡◌, refl, sym, ◌∙◌, ap}
use mathlib.Core.Bool.{Bool, true, false}
use mathlib.Core.List.{List, [], ◌∷◌, map}
use mathlib.Core.Option.{Option, none, some}
use lib.ListN.{length, take}
use Rattle.calculus.specs.Limits.{fuel_limit}
use Rattle.calculus.specs.Run.{run}
use Rattle.slices.specs.Numeral.{decimal}
use Rattle.slices.specs.Put.{put, behind}
use Rattle.slices.proofs.Decimal.{decimal-length}
use Rattle.reading.specs.Reply.{Reply}
use Rattle.printing.proofs.Writing.{length-row}
use Rattle.answer_lines.specs.Shown.{refused_line}
use Rattle.line_chunks.proofs.Says.{input_of, after}
use Rattle.small_texts.specs.Texts.{largest_size, small_terms}
use Rattle.small_texts.proofs.Indexed.{length-small}
use Rattle.small_admission.specs.Admission.{admitted, if_admitted, Refused}
use Rattle.small_terms.specs.Sweep.{Swept, swept_of, sweep_of, SweepsAs}
use Rattle.small_terms.specs.Loop.{most_terms}
use Rattle.small_terms.proofs.Summing.{at_most}
use Rattle.small_terms.proofs.Sweeps.{answered-as, never_none, all-counted, steps-few}
use Rattle.sweep_line.specs.Numbers.{Numbers, numbers_of}
use Rattle.sweep_line.specs.Answer.{asked_of}
use Rattle.sweep_line.proofs.Asks.{asked_by, line-asks}
use Rattle.answering.specs.Program.{unless_failed}
use Rattle.answering.proofs.Lengths.{refused-length, line-whole}
use Rattle.sweep_answers.specs.Shown.{swept_line, shown_sweep, printed_sweep}
use Rattle.sweep_answers.specs.Program.{numbers_line, sweep_program}
use Rattle.sweep_answers.proofs.Caps.{cap, Capped, capped}

-- ---- the caps

-- numbers up to the cap are answered as the numbers are
same_line : (n fuel area : ℕ) → shown_sweep (cap n) (sweep_of (cap n) (cap fuel) (cap area)) ≡ shown_sweep n (sweep_of n fuel area)
unfolding sweep_of
same_line n fuel area = go (capped n fuel area)
  where
    whole : (n fuel area : ℕ) → Swept
    whole n fuel area = swept_of (map (run fuel area) (small_terms n))

    go :
        Capped n fuel area →
        shown_sweep (cap n) (if_admitted (admitted (cap n) (cap fuel) (cap area)) (whole (cap n) (cap fuel) (cap area)))
        ≡ shown_sweep n (if_admitted (admitted n fuel area) (whole n fuel area))
    go (Capped.alike number e f) =
        ap (λ (r : Reply Unit). shown_sweep (cap n) (if_admitted r (whole (cap n) (cap fuel) (cap area)))) f
        ∙ sym (ap (λ (r : Reply Unit). shown_sweep n (if_admitted r (whole n fuel area))) e)
    go (Capped.unchanged a b c) = rw (a, b, c)

-- ---- how long the line is

-- one digit for the size, four for each count and the remainder, ten for the steps and for what is divided
swept-length :
    (n finished spent no_room steps : ℕ) → n ≤ largest_size → 1 ≤ finished → finished ≤ most_terms → spent ≤ most_terms → no_room ≤ most_terms →
    steps < 10000000000 → length (swept_line n (Swept.swept finished spent no_room steps)) ≤ 44
swept-length n finished spent no_room steps small least a b c d =
    let each : steps / finished ≤ steps = div-le_self steps finished in
    let rest : steps % finished < finished = mod-lt steps (omega arith) in
    omega (
      arith,
      length-row
          (decimal n ∷ decimal finished ∷ decimal spent ∷ decimal no_room ∷ decimal steps ∷ decimal (steps / finished)
          ∷ decimal (steps % finished) ∷ []),
      decimal-length 0 n (omega arith),
      decimal-length 3 finished (omega arith),
      decimal-length 3 spent (omega arith),
      decimal-length 3 no_room (omega arith),
      decimal-length 9 steps (omega arith),
      decimal-length 9 (steps / finished) (omega arith),
      decimal-length 3 (steps % finished) (omega arith),
    )

-- a refusal's has 24 bytes or fewer
pub refusal-length : {n fuel area number : ℕ} → Refused n fuel area number → length (refused_line number 0) ≤ 24
refusal-length (Refused.not-small h) = refused-length 32 0 (omega arith) (omega arith)
refusal-length (Refused.fuel_too_high s h) = refused-length 4 0 (omega arith) (omega arith)
refusal-length (Refused.area_too_long s f h) = refused-length 1 0 (omega arith) (omega arith)
refusal-length (Refused.area_too_short s f a h) = refused-length 3 0 (omega arith) (omega arith)

-- so every answer's line has 44 bytes or fewer
answer-length : (n fuel area : ℕ) (reply : Reply Swept) → SweepsAs n fuel area reply → sweep_of n fuel area ≡ reply
    → length (shown_sweep n reply) ≤ 44
answer-length n fuel area reply (SweepsAs.refuses r) e = omega (arith, refusal-length r)
answer-length n fuel area reply (SweepsAs.sweeps {w = Swept.swept finished spent no_room steps} allowed each sums) e =
    let all = all-counted n fuel area finished spent no_room steps e in
    let few = steps-few n fuel area finished spent no_room steps e in
    let many = length-small n in
    let most = at_most n allowed.small.1 in
    let few-terms : length (small_terms n) ≤ most_terms = omega arith in
    let limit : fuel * length (small_terms n) ≤ fuel_limit * most_terms = mul-le-mul allowed.fuelled few-terms in
    swept-length n finished spent no_room steps allowed.small.1 (never_none n fuel area finished spent no_room steps e)
    (omega arith) (omega arith) (omega arith) (omega arith)

numbers-length : (o : Option Numbers) → length (numbers_line o) ≤ 44
numbers-length none = omega (arith, refused-length 32 0 (omega arith) (omega arith))
numbers-length (some (Numbers.numbers n fuel area)) = answer-length n fuel area (sweep_of n fuel area) (answered-as n fuel area) refl

-- and so has what the program prints
pub program_length : (input : List ℕ) → length (sweep_program input) ≤ 44
unfolding sweep_program
program_length input = numbers-length (numbers_of input)

-- ---- what is printed

-- what is asked up to the caps is printed as the numbers are
asked-line : (o : Option Numbers) → printed_sweep (asked_by o) ≡ numbers_line o
asked-line none = refl
asked-line (some (Numbers.numbers n fuel area)) = same_line n fuel area

module _ (buffer : List ℕ) (chunks : List (List ℕ)) where
  -- the line that `answer_sweep` prints, once the input was fed
  abbrev pub printed : List ℕ
  printed = printed_sweep (asked_of (after buffer chunks).line)

  -- the program prints its definition, however its input is cut, and whatever is lent for the third field
  pub sweep-prints : printed ≡ sweep_program (input_of chunks)
  unfolding sweep_program
  sweep-prints = ap printed_sweep (line-asks buffer chunks) ∙ asked-line (numbers_of (input_of chunks))

  -- so the bytes in front of the answer are the program's line, where `out` has 44 bytes or more, and none after a failed read
  pub sweep-writes :
      (failed : Bool) (out : List ℕ) → 44 ≤ length out →
      take (behind 0 (unless_failed failed printed) out) (put 0 (unless_failed failed printed) out)
      ≡ unless_failed failed (sweep_program (input_of chunks))
  sweep-writes true out h = (line-whole [] out (omega arith)).0
  sweep-writes false out h =
      (line-whole printed out (omega (arith, ap length sweep-prints, program_length (input_of chunks)))).0 ∙ sweep-prints
