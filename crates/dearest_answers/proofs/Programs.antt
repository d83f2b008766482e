-- The program's definition on the whole input: what `answer_dearest` prints for a line that was fed the input, in chunks cut anywhere, is
-- `dearest_program` of the input, in 24 bytes or fewer. Carried by what the line asks (`line-asks`), and that the caps change no answer.
-- Assumes nothing.
use Prim.Native.Nat.{ℕ, ◌≤◌}
use native.Mathlib.Omega.{arith}
use mathlib.Core.Path.{◌≡◌, refl, sym, ◌∙◌, ap}
use mathlib.Core.Bool.{Bool, true, false}
use mathlib.Core.List.{List, [], ◌∷◌}
use mathlib.Core.Option.{Option, none, some}
use lib.ListN.{length, take}
use Rattle.calculus.specs.Term.{text}
use Rattle.calculus.proofs.PrefixCode.{length-text}
use Rattle.slices.specs.Numeral.{decimal}
use Rattle.slices.specs.Put.{put, behind}
use Rattle.slices.proofs.Decimal.{decimal-length}
use Rattle.reading.specs.Reply.{Reply}
use Rattle.printing.proofs.Writing.{length-row}
use Rattle.line_chunks.proofs.Says.{input_of, after}
use Rattle.small_admission.specs.Admission.{admitted, if_admitted}
use Rattle.small_terms.specs.Dearest.{Dear, dearest_of, FindsAs}
use Rattle.small_terms.proofs.Dearer.{best, found_as_lem}
use Rattle.small_terms.proofs.Fuel.{within-fuel}
use Rattle.sweep_line.specs.Numbers.{Numbers, numbers_of}
use Rattle.sweep_line.specs.Answer.{asked_of}
use Rattle.sweep_line.proofs.Asks.{asked_by, line-asks}
use Rattle.answering.specs.Program.{unless_failed}
use Rattle.answering.proofs.Lengths.{refused-length, line-whole}
use Rattle.sweep_answers.proofs.Caps.{cap, Capped, capped}
use Rattle.sweep_answers.proofs.Programs.{refusal-length}
use Rattle.dearest_answers.specs.Shown.{shown_dearest, printed_dearest}
use Rattle.dearest_answers.specs.Program.{numbers_line, dearest_program}

-- ---- the caps

-- numbers up to the cap are answered as the numbers are
same_line : (n fuel area : ℕ) → shown_dearest (dearest_of (cap n) (cap fuel) (cap area)) ≡ shown_dearest (dearest_of n fuel area)
unfolding dearest_of
same_line n fuel area = go (capped n fuel area)
  where
    go :
        Capped n fuel area →
        shown_dearest (if_admitted (admitted (cap n) (cap fuel) (cap area)) (best (cap n) (cap fuel) (cap area)))
        ≡ shown_dearest (if_admitted (admitted n fuel area) (best n fuel area))
    go (Capped.alike number e f) =
        ap (λ (r : Reply Unit). shown_dearest (if_admitted r (best (cap n) (cap fuel) (cap area)))) f
        ∙ sym (ap (λ (r : Reply Unit). shown_dearest (if_admitted r (best n fuel area))) e)
    go (Capped.unchanged a b c) = rw (a, b, c)

-- ---- how long the line is

-- seven letters, a count of seven digits, a tab and the line feed; a refusal has 24 bytes or fewer
answer-length : {n fuel area : ℕ} {reply : Reply Dear} → FindsAs n fuel area reply → length (shown_dearest reply) ≤ 24
answer-length (FindsAs.refuses r) = refusal-length r
answer-length (FindsAs.finds {t = t} {k = k} allowed d) =
    omega (
      arith,
      length-row (text t ∷ decimal k ∷ []),
      length-text t,
      d.small.sized,
      allowed.small,
      decimal-length 6 k (omega (arith, within-fuel d.finishes, allowed.fuelled)),
    )

numbers-length : (o : Option Numbers) → length (numbers_line o) ≤ 24
numbers-length none = refused-length 32 0 (omega arith) (omega arith)
numbers-length (some (Numbers.numbers n fuel area)) = answer-length (found_as_lem n fuel area)

-- what the program prints has 24 bytes or fewer
pub program_length : (input : List ℕ) → length (dearest_program input) ≤ 24
unfolding dearest_program
program_length input = numbers-length (numbers_of input)

-- ---- what is printed

-- what is asked up to the caps is printed as the numbers are
asked-line : (o : Option Numbers) → printed_dearest (asked_by o) ≡ numbers_line o
asked-line none = refl
asked-line (some (Numbers.numbers n fuel area)) = same_line n fuel area

module _ (buffer : List ℕ) (chunks : List (List ℕ)) where
  -- the line that `answer_dearest` prints, once the input was fed
  abbrev pub printed : List ℕ
  printed = printed_dearest (asked_of (after buffer chunks).line)

  -- the program prints its definition, however its input is cut, and whatever is lent for the third field
  pub dearest-prints : printed ≡ dearest_program (input_of chunks)
  unfolding dearest_program
  dearest-prints = ap printed_dearest (line-asks buffer chunks) ∙ asked-line (numbers_of (input_of chunks))

  -- so the bytes in front of the answer are the program's line, where `out` has 24 bytes or more, and none after a failed read
  pub dearest-writes :
      (failed : Bool) (out : List ℕ) → 24 ≤ length out →
      take (behind 0 (unless_failed failed printed) out) (put 0 (unless_failed failed printed) out)
      ≡ unless_failed failed (dearest_program (input_of chunks))
  dearest-writes true out h = (line-whole [] out (omega arith)).0
  dearest-writes false out h =
      (line-whole printed out (omega (arith, ap length dearest-prints, program_length (input_of chunks)))).0 ∙ dearest-prints
