-- The three demands (REQUIREMENTS, Demands), stated over the definitions that the public operations promise to equal, and over the relations
-- that those definitions are shown to agree with. `demands` of proofs/Demands.antt is the proof.
-- That a call ends, does nothing undefined, and that its reply and every lent byte are those of these definitions, for every input, is what the
-- contract of each operation says; none has a `requires`. That no result is overlooked stands beside them, in specs/Results.antt, what joins
-- do in specs/Joined.antt, what rows say in specs/RowsSay.antt, what the catalogue says in specs/CatalogueSays.antt, what books say in
-- specs/BookSays.antt, and what a sweep says of small terms in specs/SmallTerms.antt.
use Rattle.std.specs.Prelude.{ℕ, suc, ◌≤◌, ◌<◌, min, ◌≡◌, true, ◌↔◌, ◌⊎◌, length, take, drop}
use mathlib.Core.List.{List, [], ◌∷◌, ◌++◌, Memᴰ}
use Rattle.calculus.specs.Limits.{area_limit, line_limit}
use Rattle.calculus.specs.Term.{Term, text, size, Normal}
use Rattle.calculus.specs.Order.{Step}
use Rattle.calculus.specs.Turning.{Turn}
use Rattle.calculus.specs.Run.{Outcome, Run, outcome, count, terms, reached}
use Rattle.calculus.specs.Counts.{uses, total}
use Rattle.calculus.specs.Types.{Context, Ty}
use Rattle.calculus.specs.Typing.{Judgement}
use Rattle.calculus.specs.Derivation.{Derivation, Derivable}
use Rattle.reading.specs.Reply.{Reply, Refuses}
use Rattle.reading.specs.Reading.{reading_of, ReadsAs}
use Rattle.slices.specs.Split.{lines}
use Rattle.reading.specs.Area.{holding, cleared}
use Rattle.stepping.specs.Held.{Holds}
use Rattle.stepping.specs.Stepping as stepping
use Rattle.finishing.specs.Finishing as finishing
use Rattle.finishing.specs.RunOf.{RunOf}
use Rattle.words.specs.Word.{words_of}
use Rattle.counting.specs.Counting as counting
use Rattle.verdicts.specs.Comparing as comparing
use Rattle.joining.specs.Joining as joining
use Rattle.joining.specs.Joins.{JoinsAs}
use Rattle.rows.specs.Ringing as ringing
use Rattle.rows.specs.RingsAs.{RingsAs}
use Rattle.entries.specs.Entering as entering
use Rattle.entries.specs.EntersAs.{EntersAs}
use Rattle.entries.specs.Calls.{Call, Calls}
use Rattle.books.specs.Book.{line_limit as bookLines}
use Rattle.books.specs.Playing as playing
use Rattle.books.specs.PlaysAs.{PlaysAs}
use Rattle.small_terms.specs.Sweep.{Swept, sweep_of, SweepsAs}
use Rattle.small_terms.specs.Dearest.{Dear, dearest_of, FindsAs}
use Rattle.derivation_files.specs.Checking.{checking_of}
use Rattle.derivation_files.specs.Checks.{ChecksAs}
use Rattle.derivation_files.specs.Accepted.{Accepted, Claims}
use Rattle.derivation_files.specs.LaidOut.{LaidOut}
use Rattle.matching.specs.Matching.{matching_of}
use Rattle.codes.specs.Decoding.{InC}

-- the refusals of stepping: 1 to 3 at place 0, and reading's own of the first len bytes
abbrev pub StepRefuses : (len number place : ℕ) → Type 0
StepRefuses len number place = Refuses (1 ∷ 2 ∷ 3 ∷ []) (5 ∷ 6 ∷ 7 ∷ []) 0 (min len area_limit) number place

-- those of finishing: 4 too
abbrev pub FinishRefuses : (len number place : ℕ) → Type 0
FinishRefuses len number place = Refuses (1 ∷ 2 ∷ 3 ∷ 4 ∷ []) (5 ∷ 6 ∷ 7 ∷ []) 0 (min len area_limit) number place

-- those of joining: 31 at place 0, and reading's own of one of the terms
abbrev pub JoinRefuses : (term : List ℕ) (number place : ℕ) → Type 0
JoinRefuses term number place = Refuses (31 ∷ []) (5 ∷ 6 ∷ 7 ∷ []) 0 (length term) number place

-- those of rows: reading's own, 20 and 21 at place 0, and 22 at the number of a row
abbrev pub RowsRefuse : (bytes : List ℕ) (number place : ℕ) → Type 0
RowsRefuse bytes number place =
    Refuses (20 ∷ 21 ∷ []) (5 ∷ 6 ∷ 7 ∷ []) 0 (length bytes) number place ⊎ Refuses [] (22 ∷ []) 1 ringing.row_limit number place

-- those of the catalogue: 2 and 28 to 30 at place 0, and reading's own
abbrev pub EnterRefuses : (bytes : List ℕ) (number place : ℕ) → Type 0
EnterRefuses bytes number place = Refuses (2 ∷ 28 ∷ 29 ∷ 30 ∷ []) (5 ∷ 6 ∷ 7 ∷ []) 0 (length bytes) number place

-- those of a book: 1, 2, 4 and 10 to 12 at line 0, and 25 to 27 at a line; the line behind the last that a book may have is one of them
abbrev pub BookRefuses : (number line : ℕ) → Type 0
BookRefuses number line = Refuses (1 ∷ 2 ∷ 4 ∷ 10 ∷ 11 ∷ 12 ∷ []) (25 ∷ 26 ∷ 27 ∷ []) 1 (suc bookLines) number line

-- those of a call for small terms, at place 0
abbrev pub SmallTermsRefuse : (number place : ℕ) → Type 0
SmallTermsRefuse number place = Refuses (32 ∷ 4 ∷ 1 ∷ 3 ∷ []) [] 0 0 number place

-- those of checking: 10 to 13 at line 0, and 14 to 18 at a line of the file
abbrev pub CheckRefuses : (file : List ℕ) (number line : ℕ) → Type 0
CheckRefuses file number line =
    Refuses (10 ∷ 11 ∷ 12 ∷ 13 ∷ []) (14 ∷ 15 ∷ 16 ∷ 17 ∷ 18 ∷ []) 1 (min line_limit (length (lines file))) number line

-- what stepping did: the step that the rules and the order name
pub record SteppedTo (area : List ℕ) (len : ℕ) (work : List ℕ) (rule s : ℕ) (area' work' : List ℕ) : Type 0 where
  pub start : Term
  pub next : Term
  pub held : Holds area len start
  pub step : Step rule start next
  pub fits : size next ≤ length area
  pub sized : size next ≡ s
  pub area-holds : area' ≡ holding next area
  pub work_cleared : work' ≡ cleared work

-- what finishing did: a run, of which it answers the outcome, the count, and how often each rule was used, which together make the count
pub record RanTo
    (area : List ℕ) (len : ℕ) (work : List ℕ) (fuel : ℕ) (o : Outcome) (n : ℕ) (k : List ℕ) (s : ℕ) (area' work' : List ℕ) : Type 0
  where
    pub start : Term
    pub run : Run
    pub held : Holds area len start
    pub run_of : RunOf area len work fuel start run
    pub ends : outcome run ≡ o
    pub counted : count run ≡ n
    pub used : uses run ≡ k
    pub together : total k ≡ n
    pub sized : size (reached start run) ≡ s
    pub area-holds : area' ≡ holding (reached start run) area
    pub work_cleared : work' ≡ cleared work

-- what comparing did: a run of each term, whose results it compares
pub record ComparedTo
    (first : List ℕ) (len₁ : ℕ) (second : List ℕ) (len₂ : ℕ) (work : List ℕ) (fuel : ℕ) (c : comparing.Compared) (first' second' work' : List ℕ) : Type 0
  where
    pub start₁ : Term
    pub start₂ : Term
    pub run₁ : Run
    pub run₂ : Run
    pub held₁ : Holds first len₁ start₁
    pub held₂ : Holds second len₂ start₂
    pub run-of₁ : RunOf first len₁ work fuel start₁ run₁
    pub run-of₂ : RunOf second len₂ work fuel start₂ run₂
    pub verdict : comparing.verdict (outcome run₁) (outcome run₂) (text (reached start₁ run₁)) (text (reached start₂ run₂)) ≡ c
    pub first_holds : first' ≡ holding (reached start₁ run₁) first
    pub second_holds : second' ≡ holding (reached start₂ run₂) second
    pub work_cleared : work' ≡ cleared work

pub record Demands : Type 0 where
  -- ---- 1: a reply is a listed one, and a refusal changes no lent byte; the record beside it is that of no run
  pub reading_refuses :
      (bytes : List ℕ) (number place : ℕ) → reading_of bytes ≡ Reply.refused number place → Refuses [] (5 ∷ 6 ∷ 7 ∷ []) 0 (length bytes) number place
  pub stepping_refuses :
      (area work area' work' : List ℕ) (len number place : ℕ) →
      stepping.stepping_of area len work ≡ stepping.After.after (Reply.refused number place) area' work' →
      StepRefuses len number place × (area' ≡ area) × (work' ≡ work)
  pub finishing_refuses :
      (area work area' work' : List ℕ) (len fuel number place : ℕ) (r : finishing.Ran) →
      finishing.finishing_of area len work fuel ≡ finishing.After.after (Reply.refused number place) r area' work' →
      FinishRefuses len number place × (r ≡ finishing.no_run) × (area' ≡ area) × (work' ≡ work)
  pub counting_refuses :
      (area work counts area' work' counts' : List ℕ) (len fuel number place : ℕ) (r : finishing.Ran) →
      counting.counting_of area len work fuel counts ≡ counting.After.after (Reply.refused number place) r area' work' counts' →
      FinishRefuses len number place × (r ≡ finishing.no_run) × (area' ≡ area) × (work' ≡ work) × (counts' ≡ counts)
  pub comparing_refuses :
      (first second work first' second' work' : List ℕ) (len₁ len₂ fuel number place : ℕ) →
      comparing.comparing_of first len₁ second len₂ work fuel ≡ comparing.After.after (Reply.refused number place) first' second' work' →
      (FinishRefuses len₁ number place ⊎ FinishRefuses len₂ number place) × (first' ≡ first) × (second' ≡ second) × (work' ≡ work)
  pub joining_refuses :
      (f g area area' : List ℕ) (number place : ℕ) →
      joining.joining_of f g area ≡ joining.After.after (Reply.refused number place) area' →
      (JoinRefuses f number place ⊎ JoinRefuses g number place) × (area' ≡ area)
  pub rows_refuse :
      (bytes : List ℕ) (n : ℕ) (table table' : List ℕ) (number place : ℕ) →
      ringing.ringing_of bytes n table ≡ ringing.After.after (Reply.refused number place) table' →
      RowsRefuse bytes number place × (table' ≡ table)
  pub entering_refuses :
      (bytes store store' : List ℕ) (number place : ℕ) →
      entering.entering_of bytes store ≡ entering.After.after (Reply.refused number place) store' →
      EnterRefuses bytes number place × (store' ≡ store)
  pub playing_refuses :
      (book area work store area' work' store' : List ℕ) (fuel number line : ℕ) →
      playing.playing_of book area work store fuel ≡ playing.After.after (Reply.refused number line) area' work' store' →
      BookRefuses number line × (area' ≡ area) × (work' ≡ work) × (store' ≡ store)
  pub sweep-refuses : (n fuel area number place : ℕ) → sweep_of n fuel area ≡ Reply.refused number place → SmallTermsRefuse number place
  pub dearest-refuses : (n fuel area number place : ℕ) → dearest_of n fuel area ≡ Reply.refused number place → SmallTermsRefuse number place
  pub checking_refuses : (file : List ℕ) (number line : ℕ) → checking_of file ≡ Reply.refused number line → CheckRefuses file number line
  pub matching_refuses :
      (first second : List ℕ) (number line : ℕ) →
      matching_of first second ≡ Reply.refused number line → CheckRefuses first number line ⊎ CheckRefuses second number line
  -- what a caller in C decodes is the operation's reply, and the areas are as the operation leaves them
  pub in_c : InC
  -- ---- 2: each step, outcome, count and accepted derivation is the one that the papers name
  -- reading's reply is the one that its relation gives
  pub reads : (bytes : List ℕ) (reply : Reply ℕ) → (reading_of bytes ≡ reply) ↔ ReadsAs bytes reply
  pub stepped :
      (area work area' work' : List ℕ) (len rule s : ℕ) →
      stepping.stepping_of area len work ≡ stepping.After.after (Reply.answered (stepping.Stepped.stepped rule s)) area' work' →
      SteppedTo area len work rule s area' work'
  pub normal :
      (area work area' work' : List ℕ) (len s : ℕ) →
      stepping.stepping_of area len work ≡ stepping.After.after (Reply.answered (stepping.Stepped.normal s)) area' work' →
      (t : Term) × Holds area len t × Normal t × (size t ≡ s) × (area' ≡ holding t area) × (work' ≡ cleared work)
  pub no_room :
      (area work area' work' : List ℕ) (len s : ℕ) →
      stepping.stepping_of area len work ≡ stepping.After.after (Reply.answered (stepping.Stepped.no_room s)) area' work' →
      (t : Term) × (rule : ℕ) × (u : Term) × Holds area len t × Step rule t u × (length area < size u) × (size t ≡ s) × (area' ≡ holding t area) × (work' ≡ cleared work)
  pub ran :
      (area work area' work' : List ℕ) (len fuel : ℕ) (o : Outcome) (n : ℕ) (k : List ℕ) (s : ℕ) →
      finishing.finishing_of area len work fuel ≡ finishing.After.after (Reply.answered tt) (finishing.Ran.ran o n k s) area' work' →
      RanTo area len work fuel o n k s area' work'
  -- with counts it is the same run; what is written is its counts, four bytes each, low byte first, and what stands behind them stays
  pub counted :
      (area work counts area' work' counts' : List ℕ) (len fuel : ℕ) (o : Outcome) (n : ℕ) (k : List ℕ) (s : ℕ) →
      counting.counting_of area len work fuel counts ≡ counting.After.after (Reply.answered tt) (finishing.Ran.ran o n k s) area' work' counts' →
      RanTo area len work fuel o n k s area' work' ×
      (counting.counts_size ≤ length counts) × (counts' ≡ words_of k ++ drop counting.counts_size counts)
  pub compared :
      (first second work first' second' work' : List ℕ) (len₁ len₂ fuel : ℕ) (c : comparing.Compared) →
      comparing.comparing_of first len₁ second len₂ work fuel ≡ comparing.After.after (Reply.answered c) first' second' work' →
      ComparedTo first len₁ second len₂ work fuel c first' second' work'
  -- a run inside any operation is finishing's
  pub run-finishes :
      (area work : List ℕ) (len fuel : ℕ) (t : Term) (r : Run) → RunOf area len work fuel t r → finishing.finishing_of area len work fuel ≡ finishing.ran_from t r area work
  -- joining's reply and what it leaves are those that its relation gives: the join of the two terms, or the first refusal
  pub joins :
      (f g area area' : List ℕ) (reply : Reply ℕ) →
      (joining.joining_of f g area ≡ joining.After.after reply area') ↔ JoinsAs f g area reply area'
  -- so with rows: those of the chain, each tested before one is stored, and how many of them are different
  pub rings :
      (bytes : List ℕ) (n : ℕ) (table table' : List ℕ) (reply : Reply ringing.Rung) →
      (ringing.ringing_of bytes n table ≡ ringing.After.after reply table') ↔ RingsAs bytes n table reply table'
  -- and with the catalogue: the number of a result that is there, or the next one for a result that is not and has room
  pub enters :
      (bytes store store' : List ℕ) (reply : Reply entering.Entered) →
      (entering.entering_of bytes store ≡ entering.After.after reply store') ↔ EntersAs bytes store reply store'
  -- and with books: each refusal on its condition, the first line that does not finish, or the result of the last
  pub plays :
      (book area work store area' work' store' : List ℕ) (fuel : ℕ) (reply : Reply playing.Played) →
      (playing.playing_of book area work store fuel ≡ playing.After.after reply area' work' store')
      ↔ PlaysAs book area work store fuel reply area' work' store'
  -- and with sweeps: the run of every small term, and what the runs come to
  pub sweeps : (n fuel area : ℕ) (reply : Reply Swept) → (sweep_of n fuel area ≡ reply) ↔ SweepsAs n fuel area reply
  -- and with the dearest small term: its run finishes, none makes more steps, and no earlier one as many
  pub finds : (n fuel area : ℕ) (reply : Reply Dear) → (dearest_of n fuel area ≡ reply) ↔ FindsAs n fuel area reply
  -- checking's reply is the one that its relation gives: the first bad line, and in it the first number
  pub checks : (file : List ℕ) (reply : Reply ℕ) → (checking_of file ≡ reply) ↔ ChecksAs file reply
  pub accepted_exactly : (file : List ℕ) (n : ℕ) → (checking_of file ≡ Reply.answered n) ↔ Accepted file n
  -- an accepted file has one claim, and the claim is derivable
  pub claimed : (file : List ℕ) (n : ℕ) → Accepted file n → (j : Judgement) × Claims file j
  pub one-claim : (file : List ℕ) (j k : Judgement) → Claims file j → Claims file k → j ≡ k
  pub claim-derivable : (file : List ℕ) (j : Judgement) → Claims file j → Derivable j
  -- each derivation is laid out as lines, one a judgement in the same order, and its text is accepted where it fits the limits
  pub laid_out : (j : Judgement) (earlier : List Judgement) → Derivation (j ∷ earlier) → LaidOut j earlier
  pub matched :
      (first second : List ℕ) (G D : Context) (t u : Term) (W X : Ty) → Claims first (Judgement.judge G t W) → Claims second (Judgement.judge D u X) →
      (matching_of first second ≡ Reply.answered true) ↔ ((G ≡ D) × (W ≡ X))
  -- ---- 3: equal results exactly when the terms turn into each other, and reduction keeps the claimed type
  pub equal_exactly :
      (area₁ work₁ area₁' work₁' area₂ work₂ area₂' work₂' : List ℕ) (len₁ fuel₁ n₁ s₁ len₂ fuel₂ n₂ s₂ : ℕ) (k₁ k₂ : List ℕ) (t u : Term) →
      Holds area₁ len₁ t →
      Holds area₂ len₂ u →
      finishing.finishing_of area₁ len₁ work₁ fuel₁ ≡ finishing.After.after (Reply.answered tt) (finishing.Ran.ran Outcome.finished n₁ k₁ s₁) area₁' work₁' →
      finishing.finishing_of area₂ len₂ work₂ fuel₂ ≡ finishing.After.after (Reply.answered tt) (finishing.Ran.ran Outcome.finished n₂ k₂ s₂) area₂' work₂' →
      (take s₁ area₁' ≡ take s₂ area₂') ↔ Turn t u
  -- the same of any two runs, alone or inside comparing
  pub results_exactly :
      (area₁ work₁ area₂ work₂ : List ℕ) (len₁ fuel₁ len₂ fuel₂ : ℕ) (t u : Term) (r s : Run) →
      RunOf area₁ len₁ work₁ fuel₁ t r → RunOf area₂ len₂ work₂ fuel₂ u s → outcome r ≡ Outcome.finished → outcome s ≡ Outcome.finished →
      (text (reached t r) ≡ text (reached u s)) ↔ Turn t u
  -- what the catalogue is for: where the results of two finished runs were both entered in one store, by calls among any others, they have one
  -- number exactly when the terms that the runs started from turn into each other. The store may have held anything before
  pub one_number :
      (area₁ work₁ area₁' work₁' area₂ work₂ area₂' work₂' : List ℕ) (len₁ fuel₁ n₁ s₁ len₂ fuel₂ n₂ s₂ : ℕ) (k₁ k₂ : List ℕ) (t u : Term)
      (store store' : List ℕ) (calls : List Call) (e₁ e₂ : entering.Entered) →
      Holds area₁ len₁ t →
      Holds area₂ len₂ u →
      finishing.finishing_of area₁ len₁ work₁ fuel₁ ≡ finishing.After.after (Reply.answered tt) (finishing.Ran.ran Outcome.finished n₁ k₁ s₁) area₁' work₁' →
      finishing.finishing_of area₂ len₂ work₂ fuel₂ ≡ finishing.After.after (Reply.answered tt) (finishing.Ran.ran Outcome.finished n₂ k₂ s₂) area₂' work₂' →
      Calls store calls store' →
      Memᴰ (Call.made (take s₁ area₁') (Reply.answered e₁)) calls →
      Memᴰ (Call.made (take s₂ area₂') (Reply.answered e₂)) calls →
      (entering.entered_number e₁ ≡ entering.entered_number e₂) ↔ Turn t u
  -- every term of any run, whatever its fuel, area and outcome, has the type of an accepted claim on the term that it started from
  pub kept :
      (file : List ℕ) (G : Context) (t : Term) (W : Ty) (area work : List ℕ) (len fuel : ℕ) (r : Run) →
      Claims file (Judgement.judge G t W) → RunOf area len work fuel t r → (u : Term) → Memᴰ u (terms t r) → Derivable (Judgement.judge G u W)
