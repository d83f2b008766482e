-- What the program prints of a book, told without areas: a refusal of the book's reading, or what became of its lines; and that it has
-- 16,398 bytes or fewer, so that a buffer of as many has room for it. Carried by the limits of lines and results. Assumes nothing.
use Prim.Native.Nat.{ℕ, suc, ◌≤◌, ◌<◌}
use native.Mathlib.Omega.{arith}
use mathlib.Core.Path.{◌≡◌, refl, ◌∙◌, ap}
use mathlib.Core.Bool.{Bool, true, false}
use mathlib.Core.List.{List, [], ◌∷◌}
use lib.ListN.{length, take, replicate, length-take, length-replicate}
use lib.Seq.{take_at}
use Rattle.calculus.specs.Limits.{area_limit, fuel_limit}
use Rattle.calculus.specs.Term.{text, size}
use Rattle.calculus.specs.Run.{Outcome}
use Rattle.calculus.proofs.PrefixCode.{length-text}
use Rattle.slices.specs.Numeral.{decimal}
use Rattle.slices.specs.Put.{put, behind}
use Rattle.slices.proofs.Decimal.{decimal-length}
use Rattle.reading.specs.Reply.{Reply}
use Rattle.printing.proofs.Writing.{length-row}
use Rattle.answer_lines.specs.Shown.{word, refused_line}
use Rattle.answering.specs.Program.{unless_failed}
use Rattle.answering.proofs.Lengths.{refused-length, refusal-small, line-whole}
use Rattle.books.specs.Line.{Line}
use Rattle.books.specs.Book.{book_of}
use Rattle.books.specs.Play.{store_size, Result, term_in, Play, play}
use Rattle.books.specs.Playing.{Played, After, playing_of}
use Rattle.books.specs.PlaysAs.{Admitted}
use Rattle.books.proofs.Reading.{book-read}
use Rattle.books.proofs.Plays.{finished-length, play-finished}
use Rattle.books.proofs.Replies.{unread-playing, stopped-playing, finished-playing}
use Rattle.books.proofs.Exactly.{playing_refuses}
use Rattle.books.proofs.Answers.{call_answers}
use Rattle.book_answers.specs.Shown.{played_line, shown_book}
use Rattle.book_answers.specs.Program.{book_program}

-- ---- without areas

-- what became of the lines; no results are no book's case
abbrev pub lines_line : Play → List ℕ
lines_line (Play.stopped o n) = played_line o n []
lines_line (Play.finished []) = []
lines_line (Play.finished (r ∷ earlier)) = played_line Outcome.finished (suc (length earlier)) (text (term_in r))

-- what was read of the book
abbrev pub read_line : (fuel area : ℕ) → Reply (List Line) → List ℕ
read_line fuel area (Reply.refused number line) = refused_line number line
read_line fuel area (Reply.answered lines) = lines_line (play fuel area lines)

module _ (book area work store : List ℕ) (fuel : ℕ) (admitted : Admitted area work store fuel) where
  module _ (lines : List Line) (read : book_of book ≡ Reply.answered lines) where
    by-play : (p : Play) → play fuel (length area) lines ≡ p → shown_book (playing_of book area work store fuel) ≡ lines_line p
    by-play (Play.stopped o n) e = ap shown_book (stopped-playing book area work store fuel admitted lines read o n e)
    by-play (Play.finished []) e =
        let (well, some, all) = book-read book lines read in
        let none = finished-length ((play-finished fuel (length area) lines [] well).0 e) in
        absurd (omega (arith, none, some))
    by-play (Play.finished (Result.result name v ∷ earlier)) e =
        ap shown_book (finished-playing book area work store fuel admitted lines read earlier name v e)
        ∙ ap (played_line Outcome.finished (suc (length earlier))) (take_at (text v) _ (size v) (length-text v))

  by-book : (x : Reply (List Line)) → book_of book ≡ x → shown_book (playing_of book area work store fuel) ≡ read_line fuel (length area) x
  by-book (Reply.refused number line) e = ap shown_book (unread-playing book area work store fuel admitted number line e)
  by-book (Reply.answered lines) e = by-play lines e (play fuel (length area) lines) refl

-- zeros for areas and store, as many as are asked for
zeros-admitted :
    (n k fuel : ℕ) → n ≤ area_limit → store_size ≤ k → fuel ≤ fuel_limit → Admitted (replicate n 0) (replicate n 0) (replicate k 0) fuel
zeros-admitted n k fuel short stored fuelled =
    let long = length-replicate {A = ℕ} n 0 in
    let wide = length-replicate {A = ℕ} k 0 in
    record { short = omega arith; room = omega arith; stored = omega arith; fuelled = fuelled }

zeros-read :
    (book : List ℕ) (n k fuel : ℕ) → n ≤ area_limit → store_size ≤ k → fuel ≤ fuel_limit →
    shown_book (playing_of book (replicate n 0) (replicate n 0) (replicate k 0) fuel) ≡ read_line fuel n (book_of book)
zeros-read book n k fuel short stored fuelled =
    by-book book (replicate n 0) (replicate n 0) (replicate k 0) fuel (zeros-admitted n k fuel short stored fuelled) (book_of book) refl
    ∙ ap (λ (m : ℕ). read_line fuel m (book_of book)) (length-replicate n 0)

-- what the program prints is told by what is read of the book and what becomes of its lines
pub program_reads : (book : List ℕ) → book_program book ≡ read_line fuel_limit area_limit (book_of book)
unfolding book_program
program_reads book = zeros-read book area_limit store_size fuel_limit (omega arith) (omega arith) (omega arith)

-- ---- how long the line is

-- three digits for the line
played-length :
    (o : Outcome) (line : ℕ) (result : List ℕ) → line < 1000 → length result ≤ area_limit → length (played_line o line result) ≤ 16398
played-length Outcome.finished line result few fits =
    omega (arith, length-row (word Outcome.finished ∷ decimal line ∷ result ∷ []), decimal-length 2 line few, fits)
played-length Outcome.spent line result few fits =
    omega (arith, length-row (word Outcome.spent ∷ decimal line ∷ []), decimal-length 2 line few)
played-length Outcome.no_room line result few fits =
    omega (arith, length-row (word Outcome.no_room ∷ decimal line ∷ []), decimal-length 2 line few)

-- whatever is answered and left
shown_length :
    (book area work store : List ℕ) (fuel : ℕ) (x : After) → playing_of book area work store fuel ≡ x → length (shown_book x) ≤ 16398
shown_length book area work store fuel (After.after (Reply.refused number line) area' work' store') e =
    let found = (playing_refuses book area work store area' work' store' fuel number line e).0 in
    let (h, k) = refusal-small (omega arith) (omega arith) (omega arith) found in
    omega (arith, refused-length number line h k)
shown_length book area work store fuel (After.after (Reply.answered (Played.played o line n)) area' work' store') e =
    let a = call_answers book area work store area' work' store' fuel line n o e in
    played-length o line (take n area') (omega (arith, a.most, a.few)) (omega (arith, length-take n area', a.small))

-- what the program prints has 16,398 bytes or fewer
pub program_length : (book : List ℕ) → length (book_program book) ≤ 16398
unfolding book_program
program_length book =
    shown_length book (replicate area_limit 0) (replicate area_limit 0) (replicate store_size 0) fuel_limit
    (playing_of book (replicate area_limit 0) (replicate area_limit 0) (replicate store_size 0) fuel_limit)
    refl

-- so the bytes in front of the answer are the program's line, where `out` has 16,398 bytes or more, and none after a failed read
pub book_writes :
    (book : List ℕ) (failed : Bool) (out : List ℕ) → 16398 ≤ length out →
    take (behind 0 (unless_failed failed (book_program book)) out) (put 0 (unless_failed failed (book_program book)) out)
    ≡ unless_failed failed (book_program book)
book_writes book true out h = (line-whole [] out (omega arith)).0
book_writes book false out h = (line-whole (book_program book) out (omega (arith, program_length book))).0
