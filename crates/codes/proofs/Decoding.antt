-- A number taken apart gives back what was put in, where each part fits its bits. Assumes nothing.
use Prim.Native.Nat.{ℕ, ◌%◌, ◌<◌}
use native.Mathlib.Omega.{arith}
use mathlib.Core.Path.{◌≡◌, refl}
use mathlib.Core.Bool.{Bool, true, false}
use mathlib.Core.List.{List, [], ◌∷◌, Memᴰ}
use borrow.Author.Tests.{lt-ltb}
use Rattle.calculus.specs.Run.{Outcome}
use Rattle.reading.specs.Reply.{Reply, Refuses}
use Rattle.stepping.specs.Stepping as stepping
use Rattle.finishing.specs.Finishing as finishing
use Rattle.verdicts.specs.Comparing as comparing
use Rattle.rows.specs.Ringing as ringing
use Rattle.books.specs.Playing as playing
use Rattle.codes.specs.Encoding.{Parts, place_limit, size_limit, encode, outcome_code, compare_parts, match_parts}
use Rattle.codes.specs.Decoding.{
  code_part,
  place_part,
  value_part,
  size_part,
  decoded,
  stepped_in,
  admitted_in,
  outcome_in,
  ran_in,
  compared_in,
  rung_in,
  played_in,
  match_in,
}

-- ---- the parts of a number

wide-parts :
    (code place : ℕ) → code < 256 → place < place_limit →
    (code_part (encode (Parts.wide code place)) ≡ code) × (place_part (encode (Parts.wide code place)) ≡ place)
wide-parts code place small fits = (omega arith, omega arith)

narrow-parts :
    (code value size : ℕ) → code < 256 → value < 16777216 → size < 4294967296 →
    (code_part (encode (Parts.narrow code value size)) ≡ code) ×
    (value_part (encode (Parts.narrow code value size)) ≡ value) ×
    (size_part (encode (Parts.narrow code value size)) ≡ size)
narrow-parts code value size small fits sized = (omega arith, omega arith, omega arith)

-- ---- a refusal

pub wide-refused :
    {X : Type 0} (answer : ℕ → X) (n p : ℕ) →
    n < 100 → p < place_limit → decoded answer (encode (Parts.wide n p)) ≡ Reply.refused n p
unfolding decoded
wide-refused answer n p low fits = let (c, q) = wide-parts n p (omega arith) fits in rw (c, q, lt-ltb n 100 low)

-- every number of the list is below 100
abbrev pub Low : List ℕ → Type 0
Low [] = Unit
Low (n ∷ numbers) = (n < 100) × Low numbers

low-number : {n : ℕ} (numbers : List ℕ) → Low numbers → Memᴰ n numbers → n < 100
low-number [] b m = absurd (elim m [ ])
low-number (k ∷ numbers) b (Memᴰ.head e) = omega (arith, e, b.0)
low-number (k ∷ numbers) b (Memᴰ.tail m) = low-number numbers b.1 m

-- a refusal by listed numbers at places below 2 to the 56 is in range
pub refused_range :
    {plain placed : List ℕ} {least most n p : ℕ} →
    Low plain → Low placed → most < place_limit → Refuses plain placed least most n p → (n < 100) × (p < place_limit)
refused_range {plain = plain} b c short (Refuses.at_zero m e) = (low-number plain b m, omega arith)
refused_range {placed = placed} b c short (Refuses.at_place m low high) = (low-number placed c m, omega arith)

pub refused-decoded :
    {X : Type 0} (answer : ℕ → X) {plain placed : List ℕ} {least most n p : ℕ} →
    Low plain → Low placed → most < place_limit → Refuses plain placed least most n p →
    decoded answer (encode (Parts.wide n p)) ≡ Reply.refused n p
refused-decoded answer {n = n} {p = p} b c short found =
    let (low, fits) = refused_range b c short found in
    wide-refused answer n p low fits

-- beside it the record is that of no run
pub no_run-decoded : (n p : ℕ) (byRule : List ℕ) → n < 100 → p < place_limit → ran_in (encode (Parts.wide n p)) byRule ≡ finishing.no_run
unfolding ran_in
no_run-decoded n p byRule low fits = let (c, q) = wide-parts n p (omega arith) fits in rw (c, lt-ltb n 100 low)

-- ---- each answer

pub whole-decoded : (size : ℕ) → size < place_limit → decoded place_part (encode (Parts.wide 103 size)) ≡ Reply.answered size
unfolding decoded
whole-decoded size fits = let (c, p) = wide-parts 103 size (omega arith) fits in rw (c, p)

pub normal-decoded :
    (size : ℕ) → size < 4294967296 →
    decoded stepped_in (encode (Parts.narrow 100 0 size)) ≡ Reply.answered (stepping.Stepped.normal size)
unfolding decoded stepped_in
normal-decoded size fits = let (c, v, s) = narrow-parts 100 0 size (omega arith) (omega arith) fits in rw (c, s)

pub no_room-decoded :
    (size : ℕ) → size < 4294967296 →
    decoded stepped_in (encode (Parts.narrow 101 0 size)) ≡ Reply.answered (stepping.Stepped.no_room size)
unfolding decoded stepped_in
no_room-decoded size fits = let (c, v, s) = narrow-parts 101 0 size (omega arith) (omega arith) fits in rw (c, s)

pub stepped-decoded :
    (rule size : ℕ) → rule < 16777216 → size < 4294967296 →
    decoded stepped_in (encode (Parts.narrow 102 rule size)) ≡ Reply.answered (stepping.Stepped.stepped rule size)
unfolding decoded stepped_in
stepped-decoded rule size small fits = let (c, v, s) = narrow-parts 102 rule size (omega arith) small fits in rw (c, v, s)

module _ (count : ℕ) (byRule : List ℕ) (size : ℕ) (small : count < 16777216) (fits : size < 4294967296) where
  pub run-decoded : (o : Outcome) → decoded admitted_in (encode (Parts.narrow (outcome_code o) count size)) ≡ Reply.answered tt
  unfolding decoded
  run-decoded Outcome.finished = rw (narrow-parts 110 count size (omega arith) small fits).0
  run-decoded Outcome.spent = rw (narrow-parts 111 count size (omega arith) small fits).0
  run-decoded Outcome.no_room = rw (narrow-parts 112 count size (omega arith) small fits).0

  pub ran-decoded : (o : Outcome) → ran_in (encode (Parts.narrow (outcome_code o) count size)) byRule ≡ finishing.Ran.ran o count byRule size
  unfolding ran_in outcome_in
  ran-decoded Outcome.finished = let (c, v, s) = narrow-parts 110 count size (omega arith) small fits in rw (c, v, s)
  ran-decoded Outcome.spent = let (c, v, s) = narrow-parts 111 count size (omega arith) small fits in rw (c, v, s)
  ran-decoded Outcome.no_room = let (c, v, s) = narrow-parts 112 count size (omega arith) small fits in rw (c, v, s)

pub compared-decoded : (x : comparing.Compared) → decoded compared_in (encode (compare_parts x)) ≡ Reply.answered x
unfolding decoded compared_in
compared-decoded comparing.Compared.same-results = refl
compared-decoded comparing.Compared.different-results = refl
compared-decoded comparing.Compared.undecided = refl

-- a size of any length, cut to its bits
pub joined-decoded : (size : ℕ) → decoded size_part (encode (Parts.narrow 160 0 size)) ≡ Reply.answered (size % size_limit)
unfolding decoded
joined-decoded size =
    let c : code_part (encode (Parts.narrow 160 0 size)) ≡ 160 = omega arith in
    let s : size_part (encode (Parts.narrow 160 0 size)) ≡ size % size_limit = omega arith in
    rw (c, s)

pub rung-decoded :
    (rows different : ℕ) → rows < 16777216 → different < 4294967296 →
    decoded rung_in (encode (Parts.narrow 130 rows different)) ≡ Reply.answered (ringing.Rung.rung rows different)
unfolding decoded
rung-decoded rows different few fits = let (c, v, s) = narrow-parts 130 rows different (omega arith) few fits in rw (c, v, s)

pub entered-decoded :
    (number : ℕ) → number < 16777216 → decoded value_part (encode (Parts.narrow 150 number 0)) ≡ Reply.answered number
unfolding decoded
entered-decoded number few = let (c, v, s) = narrow-parts 150 number 0 (omega arith) few (omega arith) in rw (c, v)

pub played-decoded :
    (line size : ℕ) → line < 16777216 → size < 4294967296 → (o : Outcome) →
    decoded played_in (encode (Parts.narrow (outcome_code o) line size)) ≡ Reply.answered (playing.Played.played o line size)
unfolding decoded outcome_in
played-decoded line size few fits Outcome.finished = let (c, v, s) = narrow-parts 110 line size (omega arith) few fits in rw (c, v, s)
played-decoded line size few fits Outcome.spent = let (c, v, s) = narrow-parts 111 line size (omega arith) few fits in rw (c, v, s)
played-decoded line size few fits Outcome.no_room = let (c, v, s) = narrow-parts 112 line size (omega arith) few fits in rw (c, v, s)

pub accepted-decoded : (lines : ℕ) → lines < 16777216 → decoded value_part (encode (Parts.narrow 120 lines 0)) ≡ Reply.answered lines
unfolding decoded
accepted-decoded lines few = let (c, v, s) = narrow-parts 120 lines 0 (omega arith) few (omega arith) in rw (c, v)

pub matched-decoded : (b : Bool) → decoded match_in (encode (match_parts b)) ≡ Reply.answered b
unfolding decoded match_in
matched-decoded true = refl
matched-decoded false = refl
