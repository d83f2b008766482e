-- The one number that each C function answers (REQUIREMENTS, C interface).
use Rattle.std.specs.Prelude.{ℕ, ◌+◌, ◌*◌, ◌%◌, Bool, true, false, List}
use Rattle.calculus.specs.Run.{Outcome}
use Rattle.reading.specs.Reply.{Reply, number_in, place_in}
use Rattle.stepping.specs.Stepping as stepping
use Rattle.finishing.specs.Finishing as finishing
use Rattle.counting.specs.Counting as counting
use Rattle.verdicts.specs.Comparing as comparing
use Rattle.joining.specs.Joining as joining
use Rattle.rows.specs.Ringing as ringing
use Rattle.entries.specs.Entering as entering
use Rattle.books.specs.Playing as playing

-- ---- a code and what stands behind it

-- `wide`: a place, a line or a size of 56 bits; `narrow`: a value of 24 bits and a size of 32
pub data Parts : Type 0 where
  wide : (code place : ℕ) → Parts
  narrow : (code value size : ℕ) → Parts

-- 2 to the 56
abbrev pub place_limit : ℕ
place_limit = 72057594037927936

-- 2 to the 32
abbrev pub size_limit : ℕ
size_limit = 4294967296

-- the code in bits 0 to 7, a place from bit 8 on, or a value from bit 8 and a size from bit 32 on; each cut to its bits
abbrev pub encode : Parts → ℕ
encode (Parts.wide code place) = code % 256 + place % place_limit * 256
encode (Parts.narrow code value size) = code % 256 + value % 16777216 * 256 + size % size_limit * 4294967296

-- ---- the codes

-- a refusal is its number with its place or line; an answer has a code of its own, from 100 on
abbrev pub parts : {X : Type 0} → (X → Parts) → Reply X → Parts
parts answer (Reply.refused number place) = Parts.wide number place
parts answer (Reply.answered x) = answer x

-- the number of a refusal alone
abbrev pub refusal_number : {X : Type 0} → Reply X → ℕ
refusal_number reply = encode (Parts.wide (number_in reply) (place_in reply))

-- reading: 103 whole, with the size
abbrev pub read_parts : ℕ → Parts
read_parts size = Parts.wide 103 size

-- stepping: 100 normal, 101 no room, 102 stepped, by that rule; with the size of the term now in the area
abbrev pub step_parts : stepping.Stepped → Parts
step_parts (stepping.Stepped.normal size) = Parts.narrow 100 0 size
step_parts (stepping.Stepped.no_room size) = Parts.narrow 101 0 size
step_parts (stepping.Stepped.stepped rule size) = Parts.narrow 102 rule size

-- finishing: 110 finished, 111 spent, 112 no room
abbrev pub outcome_code : Outcome → ℕ
outcome_code Outcome.finished = 110
outcome_code Outcome.spent = 111
outcome_code Outcome.no_room = 112

-- with the count, and the size of the term reached; the counts by rule have no room in it
abbrev pub run_parts : finishing.Ran → Parts
run_parts (finishing.Ran.ran o count byRule size) = Parts.narrow (outcome_code o) count size

-- comparing: 113 same, 114 different, 115 undecided
abbrev pub compare_parts : comparing.Compared → Parts
compare_parts comparing.Compared.same-results = Parts.narrow 113 0 0
compare_parts comparing.Compared.different-results = Parts.narrow 114 0 0
compare_parts comparing.Compared.undecided = Parts.narrow 115 0 0

-- joining: 160 joined, with the size of the join
abbrev pub join_parts : ℕ → Parts
join_parts size = Parts.narrow 160 0 size

-- rows: 130 rung, with the number of rows and that of different rows
abbrev pub rows_parts : ringing.Rung → Parts
rows_parts (ringing.Rung.rung rows different) = Parts.narrow 130 rows different

-- the catalogue: 150 entered, with the number
abbrev pub enter_parts : entering.Entered → Parts
enter_parts e = Parts.narrow 150 (entering.entered_number e) 0

-- books: the code of the outcome, with the line and the size of the result
abbrev pub book_parts : playing.Played → Parts
book_parts (playing.Played.played o line size) = Parts.narrow (outcome_code o) line size

-- checking: 120 accepted, with the number of lines
abbrev pub check_parts : ℕ → Parts
check_parts lines = Parts.narrow 120 lines 0

-- matching: 180 match, 181 no match
abbrev pub match_parts : Bool → Parts
match_parts true = Parts.narrow 180 0 0
match_parts false = Parts.narrow 181 0 0

-- ---- the number of each operation's reply

unfoldable pub read_number : Reply ℕ → ℕ
read_number reply = encode (parts read_parts reply)

unfoldable pub step_number : Reply stepping.Stepped → ℕ
step_number reply = encode (parts step_parts reply)

unfoldable pub finish_number : Reply Unit → finishing.Ran → ℕ
finish_number reply r = encode (parts (λ done. run_parts r) reply)

unfoldable pub compare_number : Reply comparing.Compared → ℕ
compare_number reply = encode (parts compare_parts reply)

unfoldable pub join_number : Reply ℕ → ℕ
join_number reply = encode (parts join_parts reply)

unfoldable pub rows_number : Reply ringing.Rung → ℕ
rows_number reply = encode (parts rows_parts reply)

unfoldable pub enter_number : Reply entering.Entered → ℕ
enter_number reply = encode (parts enter_parts reply)

unfoldable pub book_number : Reply playing.Played → ℕ
book_number reply = encode (parts book_parts reply)

unfoldable pub check_number : Reply ℕ → ℕ
check_number reply = encode (parts check_parts reply)

unfoldable pub match_number : Reply Bool → ℕ
match_number reply = encode (parts match_parts reply)

-- ---- the number, and the areas lent as the operation leaves them

abbrev pub coded_step : stepping.After → ℕ × List ℕ × List ℕ
coded_step (stepping.After.after reply area work) = (step_number reply, area, work)

abbrev pub coded_finish : finishing.After → ℕ × List ℕ × List ℕ
coded_finish (finishing.After.after reply r area work) = (finish_number reply r, area, work)

abbrev pub coded_count : counting.After → ℕ × List ℕ × List ℕ × List ℕ
coded_count (counting.After.after reply r area work counts) = (finish_number reply r, area, work, counts)

abbrev pub coded_compare : comparing.After → ℕ × List ℕ × List ℕ × List ℕ
coded_compare (comparing.After.after reply first second work) = (compare_number reply, first, second, work)

abbrev pub coded_join : joining.After → ℕ × List ℕ
coded_join (joining.After.after reply area) = (join_number reply, area)

abbrev pub coded_rows : ringing.After → ℕ × List ℕ
coded_rows (ringing.After.after reply table) = (rows_number reply, table)

abbrev pub coded_enter : entering.After → ℕ × List ℕ
coded_enter (entering.After.after reply store) = (enter_number reply, store)

abbrev pub coded_book : playing.After → ℕ × List ℕ × List ℕ × List ℕ
coded_book (playing.After.after reply area work store) = (book_number reply, area, work, store)
