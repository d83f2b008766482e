-- What a call with a book that is not refused answers and leaves: its line and size are within their limits, areas and store as long as
-- before. Assumes nothing.
use Prim.Native.Nat.{ℕ, ◌-◌, ◌≤◌}
use native.Mathlib.Omega.{arith}
use mathlib.Core.Path.{◌≡◌, refl, ◌∙◌, ap, subst}
use mathlib.Core.List.{List, ◌∷◌, ◌++◌}
use lib.ListN.{length, take, drop, replicate, length-append, length-drop, length-replicate}
use lib.Seq.{drop_at, length-take-le}
use Rattle.calculus.specs.Limits.{area_limit}
use Rattle.calculus.specs.Term.{Term, text, size}
use Rattle.calculus.specs.Run.{Outcome, reached}
use Rattle.calculus.proofs.PrefixCode.{length-text}
use Rattle.calculus.proofs.Runs.{reached-fits, runs-run}
use Rattle.reading.specs.Reply.{Reply}
use Rattle.reading.specs.Area.{holding}
use Rattle.books.specs.Line.{Line}
use Rattle.books.specs.Book.{line_limit, ReadsBook}
use Rattle.books.specs.Play.{store_size, Result, LineGives, Finished}
use Rattle.books.specs.Playing.{Played, After, emptied, playing_of}
use Rattle.books.specs.PlaysAs.{PlaysAs}
use Rattle.books.proofs.Reading.{reads_exactly, book-read, lines-few}
use Rattle.books.proofs.Plays.{stopped-line, stopped-outcome}
use Rattle.books.proofs.Exactly.{plays_exactly}

-- ---- lines and results

-- lines that are read are some, and no more than the limit
pub read_range :
    {book : List ℕ} {lines : List Line} → ReadsBook book (Reply.answered lines) → (1 ≤ length lines) × (length lines ≤ line_limit)
read_range {book} {lines} r =
    let (well, some, texts) = book-read book lines ((reads_exactly book (Reply.answered lines)).1 r) in
    (some, lines-few well)

-- what a line gives fits the area
gives_fits : {fuel area : ℕ} {results : List Result} {l : Line} {v : Term} → LineGives fuel area results l v → size v ≤ area
gives_fits {fuel} {area} g =
    let reaches = ap (reached g.start) (runs-run g.runs) ∙ g.reaches in
    subst (λ (u : Term). size u ≤ area) reaches (reached-fits fuel area g.start g.fits)

-- so does the last result of lines that finished
last_fits :
    {fuel area : ℕ} {lines : List Line} {results : List Result} {name : List ℕ} {v : Term} →
    Finished fuel area lines (Result.result name v ∷ results) → size v ≤ area
last_fits (Finished.line f g) = gives_fits g

-- ---- what is left

-- zeros in the first bytes leave the length, and what stands behind them
zeros-long : (k : ℕ) (store : List ℕ) → k ≤ length store → length (replicate k 0 ++ drop k store) ≡ length store
zeros-long k store fits =
    omega (arith, length-append (replicate k 0) (drop k store), length-replicate {A = ℕ} k 0, length-drop k store)

zeros-behind : (k : ℕ) (store : List ℕ) → drop k (replicate k 0 ++ drop k store) ≡ drop k store
zeros-behind k store = drop_at (replicate k 0) (drop k store) k (length-replicate {A = ℕ} k 0)

-- so does a store that is emptied
pub emptied-long : (store : List ℕ) → store_size ≤ length store → length (emptied store) ≡ length store
unfolding emptied
emptied-long store fits = zeros-long store_size store fits

pub emptied-behind : (store : List ℕ) → drop store_size (emptied store) ≡ drop store_size store
unfolding emptied
emptied-behind store = zeros-behind store_size store

-- an area that holds a term which fits is as long as it was
length-holding : (v : Term) (area : List ℕ) → size v ≤ length area → length (holding v area) ≡ length area
length-holding v area fits =
    let zeros : List ℕ = replicate (length area - size v) 0 in
    omega (arith, length-append (text v) zeros, length-text v, length-replicate {A = ℕ} (length area - size v) 0)

-- ---- the call

-- `Answers book area work store o line n area' work' store'`: the line is one of the book's, the last where it finished; the size fits, and
-- is 0 where it did not; what is left is as long as before
pub record Answers (book area work store : List ℕ) (o : Outcome) (line n : ℕ) (area' work' store' : List ℕ) : Type 0 where
  pub lines : List Line
  pub read : ReadsBook book (Reply.answered lines)
  pub least : 1 ≤ line
  pub most : line ≤ length lines
  pub few : length lines ≤ line_limit
  pub last : o ≡ Outcome.finished → line ≡ length lines
  pub none : (o ≡ Outcome.finished → ⊥) → n ≡ 0
  pub small : n ≤ area_limit
  pub area-long : length area' ≡ length area
  pub work_long : length work' ≡ length work
  pub store_long : length store' ≡ length store
  pub behind : drop store_size store' ≡ drop store_size store

plays_answers :
    {book area work store area' work' store' : List ℕ} {fuel line n : ℕ} {o : Outcome} →
    PlaysAs book area work store fuel (Reply.answered (Played.played o line n)) area' work' store' →
    Answers book area work store o line n area' work' store'
plays_answers {area = area} {work = work} {store = store} (PlaysAs.stopped {lines = lines} admitted r s) =
    let (least, most) = stopped-line s in
    record {
      lines = lines;
      read = r;
      least = least;
      most = most;
      few = (read_range r).1;
      last = λ done. absurd (stopped-outcome s done);
      none = λ other. refl;
      small = omega arith;
      area-long = length-replicate (length area) 0;
      work_long = length-replicate (length work) 0;
      store_long = emptied-long store admitted.stored;
      behind = emptied-behind store;
    }
plays_answers {area = area} {work = work} {store = store} (PlaysAs.finished {lines = lines} {v = v} admitted r f) =
    let (some, few) = read_range r in
    let fits = last_fits f in
    record {
      lines = lines;
      read = r;
      least = some;
      most = omega arith;
      few = few;
      last = λ done. refl;
      none = λ other. absurd (other refl);
      small = omega (arith, fits, admitted.short);
      area-long = length-holding v area fits;
      work_long = length-replicate (length work) 0;
      store_long = emptied-long store admitted.stored;
      behind = emptied-behind store;
    }

-- a call that is not refused
pub call_answers :
    (book area work store area' work' store' : List ℕ) (fuel line n : ℕ) (o : Outcome) →
    playing_of book area work store fuel ≡ After.after (Reply.answered (Played.played o line n)) area' work' store' →
    Answers book area work store o line n area' work' store'
call_answers book area work store area' work' store' fuel line n o e =
    plays_answers ((plays_exactly book area work store area' work' store' fuel (Reply.answered (Played.played o line n))).0 e)

-- zeros in the first bytes of a store, and what stood behind them
pub emptied_by :
    (part store : List ℕ) → store_size ≤ length store → part ≡ replicate (length (take store_size store) - 0) 0 →
    part ++ drop store_size store ≡ emptied store
unfolding emptied
emptied_by part store fits e =
    let all : length (take store_size store) - 0 ≡ store_size = omega (arith, length-take-le store_size store fits) in
    ap (λ (s : List ℕ). s ++ drop store_size store) (e ∙ ap (λ (n : ℕ). replicate {A = ℕ} n 0) all)

-- what stood in the first bytes is of no account
pub emptied-again : (store store' : List ℕ) → drop store_size store' ≡ drop store_size store → emptied store' ≡ emptied store
unfolding emptied
emptied-again store store' same = ap (λ (s : List ℕ). replicate {A = ℕ} store_size 0 ++ s) same
