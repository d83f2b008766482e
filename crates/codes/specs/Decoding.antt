-- What a C caller takes from the number of a reply by the header's macros, and that it is what the operation answers (REQUIREMENTS,
-- C interface). proofs/InC.antt proves it.
use Rattle.std.specs.Prelude.{ℕ, ◌-◌, ◌*◌, ◌/◌, ◌%◌, ◌<◌, ◌≡◌, Bool, cond, List, map, ltb, eqb, length, drop}
use Rattle.calculus.specs.Rule.{rule_numbers}
use Rattle.calculus.specs.Run.{Outcome}
use Rattle.reading.specs.Reply.{Reply}
use Rattle.reading.specs.Reading.{reading_of}
use Rattle.stepping.specs.Stepping as stepping
use Rattle.finishing.specs.Finishing as finishing
use Rattle.words.specs.Word.{word_in}
use Rattle.counting.specs.Counting as counting
use Rattle.verdicts.specs.Comparing as comparing
use Rattle.joining.specs.Join.{join_size}
use Rattle.joining.specs.Joining as joining
use Rattle.rows.specs.Ringing as ringing
use Rattle.entries.specs.Entering as entering
use Rattle.books.specs.Playing as playing
use Rattle.derivation_files.specs.Checking.{checking_of}
use Rattle.matching.specs.Matching.{matching_of}
use Rattle.codes.specs.Encoding.{
  place_limit,
  size_limit,
  read_number,
  check_number,
  match_number,
  coded_step,
  coded_finish,
  coded_count,
  coded_compare,
  coded_join,
  coded_rows,
  coded_enter,
  coded_book,
}

-- ---- the macros of include/controller.h

-- CONTROLLER_CODE
abbrev pub code_part : ℕ → ℕ
code_part reply = reply % 256

-- CONTROLLER_PLACE
abbrev pub place_part : ℕ → ℕ
place_part reply = reply / 256

-- CONTROLLER_VALUE
abbrev pub value_part : ℕ → ℕ
value_part reply = reply / 256 % 16777216

-- CONTROLLER_SIZE
abbrev pub size_part : ℕ → ℕ
size_part reply = reply / 4294967296

-- CONTROLLER_COUNT
abbrev pub count_part : (rule : ℕ) (counts : List ℕ) → ℕ
count_part rule counts = word_in (drop (4 * (rule - 1)) counts)

-- ---- a reply, taken apart by them

-- a code below 100 is a refusal's number, with its place or line; any other is an answer
unfoldable pub decoded : {X : Type 0} → (answer : ℕ → X) (reply : ℕ) → Reply X
decoded answer reply =
    cond (ltb (code_part reply) 100) (Reply.refused (code_part reply) (place_part reply)) (Reply.answered (answer reply))

-- which answer of stepping
unfoldable pub stepped_in : ℕ → stepping.Stepped
stepped_in reply =
    cond (eqb (code_part reply) 100) (stepping.Stepped.normal (size_part reply))
    (cond (eqb (code_part reply) 101) (stepping.Stepped.no_room (size_part reply)) (stepping.Stepped.stepped (value_part reply) (size_part reply)))

-- finishing's answer says no more than that the call is not refused: the rest is in the record
abbrev pub admitted_in : ℕ → Unit {0}
admitted_in reply = tt

-- which outcome of finishing
unfoldable pub outcome_in : ℕ → Outcome
outcome_in reply = cond (eqb (code_part reply) 110) Outcome.finished (cond (eqb (code_part reply) 111) Outcome.spent Outcome.no_room)

-- how often each rule was used
abbrev pub counts_in : (counts : List ℕ) → List ℕ
counts_in counts = map (λ (rule : ℕ). count_part rule counts) rule_numbers

-- the record of the run, with those counts by rule; beside a refusal there is none
unfoldable pub ran_in : ℕ → (byRule : List ℕ) → finishing.Ran
ran_in reply byRule =
    cond (ltb (code_part reply) 100) finishing.no_run (finishing.Ran.ran (outcome_in reply) (value_part reply) byRule (size_part reply))

-- which answer of comparing
unfoldable pub compared_in : ℕ → comparing.Compared
compared_in reply =
    cond (eqb (code_part reply) 113) comparing.Compared.same-results
    (cond (eqb (code_part reply) 114) comparing.Compared.different-results comparing.Compared.undecided)

-- how many rows, and how many different ones
abbrev pub rung_in : ℕ → ringing.Rung
rung_in reply = ringing.Rung.rung (value_part reply) (size_part reply)

-- what became of a book
abbrev pub played_in : ℕ → playing.Played
played_in reply = playing.Played.played (outcome_in reply) (value_part reply) (size_part reply)

-- whether the claims match
unfoldable pub match_in : ℕ → Bool
match_in reply = eqb (code_part reply) 180

-- ---- a call, as its caller sees it: the number taken apart, and the areas lent as they are found after it

abbrev pub decoded_read : ℕ → Reply ℕ
decoded_read reply = decoded place_part reply

abbrev pub decoded_step : ℕ × List ℕ × List ℕ → stepping.After
decoded_step left = stepping.After.after (decoded stepped_in left.0) left.1 left.2

-- of a call of controller_finish the counts by rule are not seen
abbrev pub unseen : finishing.Ran → finishing.Ran
unseen (finishing.Ran.ran o count byRule size) = finishing.Ran.ran o count finishing.no_uses size

abbrev pub without_counts : finishing.After → finishing.After
without_counts (finishing.After.after reply r area work) = finishing.After.after reply (unseen r) area work

abbrev pub decoded_finish : ℕ × List ℕ × List ℕ → finishing.After
decoded_finish left = finishing.After.after (decoded admitted_in left.0) (ran_in left.0 finishing.no_uses) left.1 left.2

abbrev pub decoded_count : ℕ × List ℕ × List ℕ × List ℕ → counting.After
decoded_count left = counting.After.after (decoded admitted_in left.0) (ran_in left.0 (counts_in left.3)) left.1 left.2 left.3

abbrev pub decoded_compare : ℕ × List ℕ × List ℕ × List ℕ → comparing.After
decoded_compare left = comparing.After.after (decoded compared_in left.0) left.1 left.2 left.3

abbrev pub decoded_join : ℕ × List ℕ → joining.After
decoded_join left = joining.After.after (decoded size_part left.0) left.1

-- of the size of a join the lowest 32 bits are seen
abbrev pub size_cut : joining.After → joining.After
size_cut (joining.After.after (Reply.refused number place) area) = joining.After.after (Reply.refused number place) area
size_cut (joining.After.after (Reply.answered size) area) = joining.After.after (Reply.answered (size % size_limit)) area

abbrev pub decoded_rows : ℕ × List ℕ → ringing.After
decoded_rows left = ringing.After.after (decoded rung_in left.0) left.1

abbrev pub decoded_enter : ℕ × List ℕ → Reply ℕ × List ℕ
decoded_enter left = (decoded value_part left.0, left.1)

-- of an entry the number is seen, and not whether the result is new
abbrev pub number_seen : entering.After → Reply ℕ × List ℕ
number_seen (entering.After.after (Reply.refused number place) store) = (Reply.refused number place, store)
number_seen (entering.After.after (Reply.answered e) store) = (Reply.answered (entering.entered_number e), store)

abbrev pub decoded_book : ℕ × List ℕ × List ℕ × List ℕ → playing.After
decoded_book left = playing.After.after (decoded played_in left.0) left.1 left.2 left.3

abbrev pub decoded_check : ℕ → Reply ℕ
decoded_check reply = decoded value_part reply

abbrev pub decoded_match : ℕ → Reply Bool
decoded_match reply = decoded match_in reply

-- What the caller sees is what the operation answers and leaves, for every call of the eleven functions; `controller_finish` shows all but
-- the counts by rule, `controller_join` all of a size that 32 bits hold, `controller_enter` all but whether the result is new. (What stands
-- in the brackets is what the function leaves, by its contract.) Only the four that take terms of any length have a condition: no term has
-- 2 to the 56 bytes or more.
pub record InC : Type 0 where
  pub read : (bytes : List ℕ) → length bytes < place_limit → decoded_read (read_number (reading_of bytes)) ≡ reading_of bytes
  pub step :
      (area : List ℕ) (len : ℕ) (work : List ℕ) →
      decoded_step (coded_step (stepping.stepping_of area len work)) ≡ stepping.stepping_of area len work
  pub finish :
      (area : List ℕ) (len : ℕ) (work : List ℕ) (fuel : ℕ) →
      decoded_finish (coded_finish (finishing.finishing_of area len work fuel)) ≡ without_counts (finishing.finishing_of area len work fuel)
  pub finish-counted :
      (area : List ℕ) (len : ℕ) (work : List ℕ) (fuel : ℕ) (counts : List ℕ) →
      decoded_count (coded_count (counting.counting_of area len work fuel counts)) ≡ counting.counting_of area len work fuel counts
  pub compare :
      (first : List ℕ) (len₁ : ℕ) (second : List ℕ) (len₂ : ℕ) (work : List ℕ) (fuel : ℕ) →
      decoded_compare (coded_compare (comparing.comparing_of first len₁ second len₂ work fuel))
      ≡ comparing.comparing_of first len₁ second len₂ work fuel
  pub join :
      (f g area : List ℕ) → length f < place_limit → length g < place_limit →
      decoded_join (coded_join (joining.joining_of f g area)) ≡ size_cut (joining.joining_of f g area)
  pub join-whole :
      (f g area : List ℕ) → join_size (length f) (length g) < size_limit →
      decoded_join (coded_join (joining.joining_of f g area)) ≡ joining.joining_of f g area
  pub rows :
      (bytes : List ℕ) (n : ℕ) (table : List ℕ) → length bytes < place_limit →
      decoded_rows (coded_rows (ringing.ringing_of bytes n table)) ≡ ringing.ringing_of bytes n table
  pub enter :
      (bytes store : List ℕ) → length bytes < place_limit →
      decoded_enter (coded_enter (entering.entering_of bytes store)) ≡ number_seen (entering.entering_of bytes store)
  pub book :
      (book area work store : List ℕ) (fuel : ℕ) →
      decoded_book (coded_book (playing.playing_of book area work store fuel)) ≡ playing.playing_of book area work store fuel
  pub check : (file : List ℕ) → decoded_check (check_number (checking_of file)) ≡ checking_of file
  pub match_claims : (first second : List ℕ) → decoded_match (match_number (matching_of first second)) ≡ matching_of first second
