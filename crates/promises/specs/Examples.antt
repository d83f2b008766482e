-- The proved examples (REQUIREMENTS, Examples), twelve of the base, nine with bells, seven with counts, four on results, ten on joins and
-- fifteen on rows, as rows of one table over the operations' definitions; those of the catalogue stand in specs/CatalogueExamples.antt,
-- those of books in specs/BookExamples.antt. proofs/Examples.antt has the proof that covers it. Every expected reply was written by hand
-- from the paper; the rules of examples 1 and 3 to 8, which it does not give, were worked out by hand from figure 1.
use Rattle.std.specs.Prelude.{ℕ, ◌-◌, List, [], ◌∷◌, ◌++◌, length, take, replicate}
use Prim.Native.String.{String}
use Rattle.std.proofs.Math.Option.{Option, none, some}
use Rattle.calculus.specs.Ascii.{ascii}
use Rattle.calculus.specs.Term.{Term}
use Rattle.calculus.specs.Parse.{term_of}
use Rattle.calculus.specs.Rule.{rule_numbers}
use Rattle.calculus.specs.Run.{Outcome, run, rules}
use Rattle.reading.specs.Reply.{Reply}
use Rattle.reading.specs.Reading.{reading_of}
use Rattle.finishing.specs.Finishing.{Ran, After, finishing_of}
use Rattle.words.specs.Word.{words_in}
use Rattle.counting.specs.Counting as counting
use Rattle.joining.specs.Joining as joining
use Rattle.rows.specs.Ringing as ringing
use Rattle.derivation_files.specs.Checking.{checking_of}

-- a call of an operation
pub data Call : Type 0 where
  finish : (term : String) (fuel area : ℕ) → Call
  finish-counted : (term : String) (fuel area lent : ℕ) → Call
  join : (f g : String) (area : ℕ) → Call
  ring : (term : String) (bells table : ℕ) → Call
  read : (bytes : String) → Call
  check : (file : String) → Call

-- what it answers; of a run also the rules used, in order, and the bytes of the term now in the area; of one with counts what the counts'
-- bytes say; of a join the size and the whole area; of rows how many, how many different ones, and the whole table
pub data Answer : Type 0 where
  ran : Outcome → (count : ℕ) (rules : List ℕ) (term : List ℕ) → Answer
  mixed : (byRule : List ℕ) → Answer
  joined : (size : ℕ) (area : List ℕ) → Answer
  rung : (count different : ℕ) (table : List ℕ) → Answer
  size : ℕ → Answer
  accepted : (lines : ℕ) → Answer
  refused : (number place : ℕ) → Answer

pub data Row : Type 0 where
  row : Call → Answer → Row

abbrev pub ample_fuel : ℕ
ample_fuel = 1_000

abbrev pub ample_area : ℕ
ample_area = 128

-- a run of a term: with that fuel and area it has that outcome and count, by those rules, and leaves that term
abbrev pub runs : (term : String) (fuel area : ℕ) → Outcome → (count : ℕ) (rules : List ℕ) (left : String) → Row
runs term fuel area outcome count rules left = Row.row (Call.finish term fuel area) (Answer.ran outcome count rules (ascii left))

-- a run whose counts are written into so many bytes, each 255 before
abbrev pub mixes : (term : String) (fuel area lent : ℕ) (byRule : List ℕ) → Row
mixes term fuel area lent byRule = Row.row (Call.finish-counted term fuel area lent) (Answer.mixed byRule)

-- a join of two terms in an area of so many bytes, each 255 before: its size, its text, and so many zeros behind it
abbrev pub joins : (f g : String) (area letters : ℕ) (text : String) (zeros : ℕ) → Row
joins f g area letters text zeros = Row.row (Call.join f g area) (Answer.joined letters (ascii text ++ replicate zeros 0))

-- a join that is refused
abbrev pub joins-not : (f g : String) (area number place : ℕ) → Row
joins-not f g area number place = Row.row (Call.join f g area) (Answer.refused number place)

-- the rows of a piece in a table of so many bytes, each 255 before: how many, how many different ones, and the table
abbrev pub rings : (term : String) (bells table count different : ℕ) (held : List ℕ) → Row
rings term bells table count different held = Row.row (Call.ring term bells table) (Answer.rung count different held)

-- rows that are refused
abbrev pub rings-not : (term : String) (bells table number place : ℕ) → Row
rings-not term bells table number place = Row.row (Call.ring term bells table) (Answer.refused number place)

abbrev pub zeros : ℕ → List ℕ
zeros n = replicate n 0

abbrev pub rows : List Row
rows =
    runs "J" ample_fuel ample_area Outcome.finished 0 [] "J" ∷
    runs "J" 0 ample_area Outcome.finished 0 [] "J" ∷
    runs ".BII.JRJ" ample_fuel ample_area Outcome.finished 6 (1 ∷ 8 ∷ 6 ∷ 5 ∷ 7 ∷ 5 ∷ []) "J" ∷
    runs ".BII.JRJ" 5 ample_area Outcome.spent 5 (1 ∷ 8 ∷ 6 ∷ 5 ∷ 7 ∷ []) ".IJ" ∷
    runs ".BII.JRJ" ample_fuel 12 Outcome.finished 6 (1 ∷ 8 ∷ 6 ∷ 5 ∷ 7 ∷ 5 ∷ []) "J" ∷
    runs ".BII.JRJ" ample_fuel 11 Outcome.no_room 1 (1 ∷ []) ".BIIHJRJ" ∷
    runs ".BIIAIRJ" ample_fuel ample_area Outcome.finished 2 (9 ∷ 10 ∷ []) "AIRJ" ∷
    runs ".BIIABJIRJ" ample_fuel ample_area Outcome.finished 4 (9 ∷ 11 ∷ 6 ∷ 10 ∷ []) "ABIIRJ" ∷
    runs ".B.AIHJJAIHJJI.II" ample_fuel ample_area Outcome.finished 2 (5 ∷ 10 ∷ []) "I" ∷
    Row.row (Call.read "JJ") (Answer.refused 7 1) ∷
    Row.row (Call.read "HJ") (Answer.refused 6 2) ∷
    Row.row (Call.check "*a1\tJ\ta\tJ\t-\t-\n1\tI\t1\tI\t-\t-\n1\tAIJ\t>aa\tA\t2\t1\n") (Answer.accepted 3) ∷
    Row.row (Call.check "*a1\tJ\ta\tJ\t-\t-\n1\tI\t1\tI\t-\t-\n1\tAIJ\t>aa\tA\t1\t2\n") (Answer.refused 18 3) ∷
    runs ".1J" ample_fuel ample_area Outcome.finished 1 (12 ∷ []) "H1J" ∷
    runs ".BJI1" ample_fuel ample_area Outcome.finished 1 (13 ∷ []) "1" ∷
    runs ".B11J" ample_fuel ample_area Outcome.finished 1 (6 ∷ []) "1" ∷
    runs ".AITE" ample_fuel ample_area Outcome.finished 2 (4 ∷ 13 ∷ []) "T" ∷
    Row.row (Call.read "0") (Answer.size 1) ∷
    Row.row (Call.read "J1") (Answer.refused 7 1) ∷
    Row.row (Call.check "1\t1\tb\tK\t-\t-\n") (Answer.accepted 1) ∷
    Row.row (Call.check "1\t1\ta\tK\t-\t-\n") (Answer.refused 18 1) ∷
    Row.row (Call.check "1\t1\tb\tK\t1\t-\n") (Answer.refused 17 1) ∷
    mixes ".BII.JRJ" ample_fuel ample_area 52 (1 ∷ 0 ∷ 0 ∷ 0 ∷ 2 ∷ 1 ∷ 1 ∷ 1 ∷ 0 ∷ 0 ∷ 0 ∷ 0 ∷ 0 ∷ []) ∷
    mixes ".BII.JRJ" 5 ample_area 60 (1 ∷ 0 ∷ 0 ∷ 0 ∷ 1 ∷ 1 ∷ 1 ∷ 1 ∷ 0 ∷ 0 ∷ 0 ∷ 0 ∷ 0 ∷ []) ∷
    mixes ".BII.JRJ" ample_fuel 11 52 (1 ∷ 0 ∷ 0 ∷ 0 ∷ 0 ∷ 0 ∷ 0 ∷ 0 ∷ 0 ∷ 0 ∷ 0 ∷ 0 ∷ 0 ∷ []) ∷
    mixes ".AITE" ample_fuel ample_area 52 (0 ∷ 0 ∷ 0 ∷ 1 ∷ 0 ∷ 0 ∷ 0 ∷ 0 ∷ 0 ∷ 0 ∷ 0 ∷ 0 ∷ 1 ∷ []) ∷
    mixes "J" 0 1 52 (0 ∷ 0 ∷ 0 ∷ 0 ∷ 0 ∷ 0 ∷ 0 ∷ 0 ∷ 0 ∷ 0 ∷ 0 ∷ 0 ∷ 0 ∷ []) ∷
    Row.row (Call.finish-counted "J" 1_000_001 1 51) (Answer.refused 2 0) ∷
    Row.row (Call.finish-counted "J" 1_000_001 1 52) (Answer.refused 4 0) ∷
    runs ".B.IIIHJJ" 6 15 Outcome.finished 6 (8 ∷ 6 ∷ 5 ∷ 5 ∷ 6 ∷ 5 ∷ []) "I" ∷
    runs ".B.IIIHJJ" 5 15 Outcome.spent 5 (8 ∷ 6 ∷ 5 ∷ 5 ∷ 6 ∷ []) ".II" ∷
    runs ".B.IIIHJJ" 6 14 Outcome.no_room 0 [] ".B.IIIHJJ" ∷
    runs ".AIHJJAIHJJ" 3 ample_area Outcome.spent 3 (4 ∷ 8 ∷ 6 ∷ []) ".AIHJJ.BAIHJJIJ" ∷
    joins-not "I" "I" 13 31 0 ∷
    joins "I" "I" 14 14 "ABIBIIHRJHRRJJ" 0 ∷
    joins "1" "2" 16 14 "AB1B2IHRJHRRJJ" 2 ∷
    joins-not "Jx" "xJ" 0 7 1 ∷
    joins-not "J" "xJ" 0 5 0 ∷
    joins-not "J" "" 64 6 0 ∷
    joins-not "J" "J" 0 31 0 ∷
    runs ".AB1B2IHRJHRRJJ3" ample_fuel ample_area Outcome.finished 11 (4 ∷ 8 ∷ 7 ∷ 6 ∷ 12 ∷ 8 ∷ 7 ∷ 7 ∷ 6 ∷ 12 ∷ 6 ∷ []) "H1H23" ∷
    runs ".ABAB1B2IHRJHRRJJB3IHRJHRRJJ4" ample_fuel ample_area Outcome.finished 21
    (4 ∷ 8 ∷ 7 ∷ 6 ∷ 4 ∷ 8 ∷ 7 ∷ 6 ∷ 12 ∷ 8 ∷ 7 ∷ 7 ∷ 6 ∷ 12 ∷ 6 ∷ 8 ∷ 7 ∷ 7 ∷ 6 ∷ 12 ∷ 6 ∷ []) "H1H2H34" ∷
    runs ".AB1BAB2B3IHRJHRRJJIHRJHRRJJ4" ample_fuel ample_area Outcome.finished 21
    (4 ∷ 8 ∷ 7 ∷ 6 ∷ 12 ∷ 8 ∷ 7 ∷ 7 ∷ 6 ∷ 4 ∷ 8 ∷ 7 ∷ 6 ∷ 12 ∷ 8 ∷ 7 ∷ 7 ∷ 6 ∷ 12 ∷ 6 ∷ 6 ∷ []) "H1H2H34" ∷
    rings "I" 2 0 0 0 [] ∷
    rings-not "I" 13 0 20 0 ∷
    rings-not "Jx" 1 0 7 1 ∷
    rings-not "BJI" 2 24 20 0 ∷
    rings-not "B1J" 2 24 20 0 ∷
    rings-not ".II" 2 24 20 0 ∷
    rings-not "B1I" 2 24 21 0 ∷
    rings-not "B1B2I" 2 11 21 0 ∷
    rings-not "B1B1I" 2 24 22 1 ∷
    rings-not "B1B3I" 2 24 22 1 ∷
    rings-not "B1B2B2B2I" 2 24 22 2 ∷
    rings "B1B2I" 2 14 1 1 (1 ∷ 2 ∷ zeros 12) ∷
    rings "B1B2B2B1I" 2 24 2 2 ((1 ∷ 2 ∷ zeros 10) ++ (2 ∷ 1 ∷ zeros 10)) ∷
    rings "B1B2B1B2I" 2 24 2 1 ((1 ∷ 2 ∷ zeros 10) ++ (1 ∷ 2 ∷ zeros 10)) ∷
    rings "BTBEB0B9B8B7B6B5B4B3B2B1I" 12 12 1 1 (12 ∷ 11 ∷ 10 ∷ 9 ∷ 8 ∷ 7 ∷ 6 ∷ 5 ∷ 4 ∷ 3 ∷ 2 ∷ 1 ∷ []) ∷
    []

-- an area of that size with the term at its start
abbrev pub area_with : List ℕ → ℕ → List ℕ
area_with term area = term ++ replicate (area - length term) 0

-- the rules that the run of a text's term uses
abbrev pub used : Option Term → (fuel area : ℕ) → List ℕ
used none fuel area = []
used (some t) fuel area = rules (run fuel area t)

abbrev pub of_finishing : List ℕ → After → Answer
of_finishing rules (After.after (Reply.refused number place) r area work) = Answer.refused number place
of_finishing rules (After.after (Reply.answered done) (Ran.ran o count byRule s) area work) = Answer.ran o count rules (take s area)

abbrev pub of_counting : counting.After → Answer
of_counting (counting.After.after (Reply.refused number place) r area work counts) = Answer.refused number place
of_counting (counting.After.after (Reply.answered done) r area work counts) = Answer.mixed (words_in (length rule_numbers) counts)

abbrev pub of_joining : joining.After → Answer
of_joining (joining.After.after (Reply.refused number place) area) = Answer.refused number place
of_joining (joining.After.after (Reply.answered n) area) = Answer.joined n area

abbrev pub of_ringing : ringing.After → Answer
of_ringing (ringing.After.after (Reply.refused number place) table) = Answer.refused number place
of_ringing (ringing.After.after (Reply.answered (ringing.Rung.rung count different)) table) = Answer.rung count different table

abbrev pub of_reading : Reply ℕ → Answer
of_reading (Reply.refused number place) = Answer.refused number place
of_reading (Reply.answered n) = Answer.size n

abbrev pub of_checking : Reply ℕ → Answer
of_checking (Reply.refused number line) = Answer.refused number line
of_checking (Reply.answered lines) = Answer.accepted lines

-- what the operation's definition answers
abbrev pub answer : Call → Answer
answer (Call.finish term fuel area) =
    of_finishing (used (term_of (ascii term)) fuel area) (finishing_of (area_with (ascii term) area) (length (ascii term)) (replicate area 0) fuel)
answer (Call.finish-counted term fuel area lent) =
    of_counting (counting.counting_of (area_with (ascii term) area) (length (ascii term)) (replicate area 0) fuel (replicate lent 255))
answer (Call.join f g area) = of_joining (joining.joining_of (ascii f) (ascii g) (replicate area 255))
answer (Call.ring term bells table) = of_ringing (ringing.ringing_of (ascii term) bells (replicate table 255))
answer (Call.read bytes) = of_reading (reading_of (ascii bytes))
answer (Call.check file) = of_checking (checking_of (ascii file))

unfoldable pub made : Row → Answer
made (Row.row call expected) = answer call

unfoldable pub stated : Row → Answer
stated (Row.row call expected) = expected
