-- Every line of the finishing program is at most 16,402 bytes, so `out` has room for it and the bytes written are the line. Carried by
-- the bounds on finishing's answers. Assumes nothing.
use Prim.Native.Nat.{ℕ, ◌+◌, ◌≤◌, ◌<◌}
use native.Mathlib.Omega.{arith}
use mathlib.Core.Path.{◌≡◌, refl, ◌∙◌, ap}
use mathlib.Core.List.{List, [], ◌∷◌, Memᴰ}
use mathlib.Core.Option.{Option, none, some}
use lib.ListN.{length, take, drop, length-take}
use lib.Seq.{take_at}
use Rattle.calculus.specs.Term.{size}
use Rattle.calculus.specs.Run.{Outcome, run, outcome, count, reached}
use Rattle.calculus.proofs.Runs.{count-fuel, reached-fits}
use Rattle.calculus.proofs.PrefixCode.{length-text}
use Rattle.calculus.specs.Ascii.{ascii}
use Rattle.slices.specs.Put.{put, behind}
use Rattle.slices.specs.Numeral.{decimal}
use Rattle.slices.proofs.Put.{put-fits, behind-fits}
use Rattle.slices.proofs.Decimal.{decimal-length}
use Rattle.reading.specs.Reply.{Reply, Refuses}
use Rattle.reading.specs.Area.{holding}
use Rattle.finishing.specs.Finishing.{After}
use Rattle.finishing.proofs.Calls.{Call, call}
use Rattle.printing.specs.Printed.{line_of, count_of}
use Rattle.printing.proofs.Writing.{length-row}
use Rattle.finish_line.specs.Request.{Request, request_of}
use Rattle.answer_lines.specs.Shown.{word, refused_line, shown_run, shown_check}
use Rattle.answering.specs.Program.{area_with, request_line, finish_program}
use Rattle.answering.proofs.Zeros.{zeros}

-- numbers below ten million have at most seven digits
seven_digits : (n : ℕ) → n < 10000000 → length (decimal n) ≤ 7
seven_digits n h = decimal-length 6 n h

length-line : (w : List ℕ) (n : ℕ) (r : List ℕ) → length (line_of w n r) ≡ length w + length (decimal n) + length r + 3
length-line w n r = omega (arith, length-row (w ∷ decimal n ∷ r ∷ []))

pub refused-length : (number place : ℕ) → number < 10000000 → place < 10000000 → length (refused_line number place) ≤ 24
refused-length number place h k =
    omega (arith, length-line (ascii "refused") number (decimal place), seven_digits number h, seven_digits place k)

pub accepted-length : (lines : ℕ) → lines < 10000000 → length (count_of (ascii "accepted") lines) ≤ 17
accepted-length lines h =
    omega (arith, length-row (ascii "accepted" ∷ decimal lines ∷ []), seven_digits lines h)

-- a checking reply whose numbers have at most seven digits
abbrev pub Small : Reply ℕ → Type 0
Small (Reply.refused number line) = (number < 10000000) × (line < 10000000)
Small (Reply.answered lines) = lines < 10000000

pub check-length : (reply : Reply ℕ) → Small reply → length (shown_check reply) ≤ 24
check-length (Reply.refused number line) (h, k) = refused-length number line h k
check-length (Reply.answered lines) h = omega (arith, accepted-length lines h)

word-length : (o : Outcome) → length (word o) ≤ 8
word-length Outcome.finished = omega arith
word-length Outcome.spent = omega arith
word-length Outcome.no_room = omega arith

-- a number of a list whose numbers are all small is small
abbrev Low : List ℕ → Type 0
Low [] = Unit
Low (n ∷ numbers) = (n < 10000000) × Low numbers

below : {n : ℕ} (numbers : List ℕ) → Low numbers → Memᴰ n numbers → n < 10000000
below [] low m = absurd (elim m [ ])
below (k ∷ numbers) low (Memᴰ.head e) = omega (arith, e, low.0)
below (k ∷ numbers) low (Memᴰ.tail m) = below numbers low.1 m

-- the number and the place of a refusal are small
pub refusal-small :
    {plain placed : List ℕ} {least most number place : ℕ} → Low plain → Low placed → most < 10000000 → Refuses plain placed least most number place →
    (number < 10000000) × (place < 10000000)
refusal-small {plain = plain} low low' few (Refuses.at_zero m e) = (below plain low m, omega arith)
refusal-small {placed = placed} low low' few (Refuses.at_place m from to) = (below placed low' m, omega arith)

-- the line of a call of finishing
pub call_length : {area work : List ℕ} {len fuel : ℕ} {x : After} → Call area len work fuel x → length (shown_run x) ≤ 16402
call_length (Call.refused {number} {place} found) =
    let (h, k) = refusal-small (omega arith) (omega arith) (omega arith) found in
    omega (arith, refused-length number place h k)
call_length {area = area} {len = len} {fuel = fuel} (Call.made t admits) =
    let r = run fuel (length area) t in
    let held = admits.held in
    let fits : size t ≤ length area = omega (arith, held.within, length-text t, ap length held.written, length-take len area) in
    let last = size (reached t r) in
    let shown = take last (holding (reached t r) area) in
    omega (
      arith,
      length-line (word (outcome r)) (count r) shown,
      word-length (outcome r),
      seven_digits (count r) (omega (arith, count-fuel fuel (length area) t, admits.fuelled)),
      length-take last (holding (reached t r) area),
      reached-fits fuel (length area) t fits,
      admits.areas.short,
    )

request-length : (o : Option Request) → length (request_line o) ≤ 16402
request-length none = omega (arith, refused-length 19 0 (omega arith) (omega arith))
request-length (some (Request.request fuel area term)) = call_length (call (area_with area term) (length term) (zeros area) fuel)

pub program_length : (input : List ℕ) → length (finish_program input) ≤ 16402
unfolding finish_program
program_length input = request-length (request_of input)

-- where a line has room, the bytes in front of the answer are the line
pub line-whole : (line out : List ℕ) → length line ≤ length out → (take (behind 0 line out) (put 0 line out) ≡ line) × (behind 0 line out ≡ length line)
line-whole line out h =
    let fits : 0 + length line ≤ length out = omega arith in
    let end : behind 0 line out ≡ length line = omega (arith, behind-fits 0 line out fits) in (
      ap (λ (n : ℕ). take n (put 0 line out)) end
          ∙ ap (take (length line)) (put-fits 0 line out fits)
          ∙ take_at line (drop (0 + length line) out) (length line) refl,
      end,
    )
