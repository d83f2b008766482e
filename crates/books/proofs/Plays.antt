-- What becomes of the lines of a book, as a function and as a relation: they agree. Carried by what one line does behind finished ones, and
-- by induction on the lines. Assumes nothing.
use Prim.Native.Nat.{ℕ, suc, ◌+◌, ◌<◌, ◌≤◌}
use native.Mathlib.Omega.{arith}
use mathlib.Core.Path.{◌≡◌, refl, sym, ◌∙◌, ap, subst}
use mathlib.Core.Logic.{◌↔◌}
use mathlib.Core.Bool.{Bool, true, false, cond}
use mathlib.Core.List.{List, [], ◌∷◌}
use borrow.Author.Tests.{ltb-true, ltb-false, lt-ltb, le-ltb}
use lib.Dec.{ltb}
use lib.ListN.{length}
use Rattle.calculus.specs.Term.{Term, size}
use Rattle.calculus.specs.Run.{Outcome, Run, run, Runs, outcome, reached}
use Rattle.calculus.proofs.Runs.{run-runs, runs-run}
use Rattle.books.specs.Piece.{Replaced, replaced}
use Rattle.books.specs.Line.{Line, name_in, piece_in}
use Rattle.books.specs.Book.{Book}
use Rattle.books.specs.Play.{
  store_size,
  Result,
  letters,
  ResultOf,
  LineGives,
  LineStops,
  Finished,
  Stopped,
  result_of,
  Play,
  kept,
  ended,
  play_term,
  further,
  play,
}
use Rattle.books.proofs.Results.{earlier-book, line-replaced, line-replaced-one}

-- ---- what the relations say of lines

-- each line has a result
pub finished-length :
    {fuel area : ℕ} {lines : List Line} {results : List Result} → Finished fuel area lines results → length results ≡ length lines
finished-length Finished.none = refl
finished-length (Finished.line f g) = ap suc (finished-length f)

-- the line that stops is one of them
pub stopped-line :
    {fuel area : ℕ} {lines : List Line} {o : Outcome} {n : ℕ} → Stopped fuel area lines o n → (1 ≤ n) × (n ≤ length lines)
stopped-line (Stopped.here f s) = (omega arith, omega arith)
stopped-line (Stopped.before s) = let (least, most) = stopped-line s in (least, omega arith)

-- its outcome is another than finished
line-stops-outcome :
    {fuel area : ℕ} {results : List Result} {l : Line} {o : Outcome} → LineStops fuel area results l o → o ≡ Outcome.finished → ⊥
line-stops-outcome (LineStops.too_large r large) e = let z : ◌≡◌ {A = ℕ} 0 1 = cc in omega (arith, z)
line-stops-outcome (LineStops.unfinished r fits runs other) e = other e
line-stops-outcome (LineStops.store-full r fits runs done full) e = let z : ◌≡◌ {A = ℕ} 0 1 = cc in omega (arith, z)

-- a line that stops is not finished
pub stopped-outcome :
    {fuel area : ℕ} {lines : List Line} {o : Outcome} {n : ℕ} → Stopped fuel area lines o n → o ≡ Outcome.finished → ⊥
stopped-outcome (Stopped.here f s) = line-stops-outcome s
stopped-outcome (Stopped.before s) = stopped-outcome s

-- ---- what the function does with one line

module _ (fuel area : ℕ) (name : List ℕ) (results : List Result) where
  -- the line that comes next stops
  abbrev stop : Outcome → Play
  stop o = Play.stopped o (suc (length results))

  -- by whether the term is over the area
  abbrev by_size : Term → Bool → Play
  by_size t large = cond large (stop Outcome.no_room) (ended (outcome (run fuel area t)) name (reached t (run fuel area t)) results)

  -- a term over the area stops
  term-large : (t : Term) → area < size t → play_term fuel area name t results ≡ stop Outcome.no_room
  term-large t large = ap (by_size t) (lt-ltb area (size t) large)

  -- any other runs
  term_runs :
      (t : Term) (r : Run) → size t ≤ area → Runs fuel area 0 t r →
      play_term fuel area name t results ≡ ended (outcome r) name (reached t r) results
  term_runs t r fits runs =
      ap (by_size t) (le-ltb area (size t) fits) ∙ ap (λ (r : Run). ended (outcome r) name (reached t r) results) (runs-run runs)

  -- a run that is not finished stops
  ended-other : (o : Outcome) (v : Term) → (o ≡ Outcome.finished → ⊥) → ended o name v results ≡ stop o
  ended-other Outcome.finished v other = absurd (other refl)
  ended-other Outcome.spent v other = refl
  ended-other Outcome.no_room v other = refl

  -- by whether the store has no room
  abbrev by-room : Term → Bool → Play
  by-room v full = cond full (stop Outcome.no_room) (Play.finished (Result.result name v ∷ results))

  -- a result for which the store has no room stops
  kept_full : (v : Term) → store_size < letters results + size v → kept name v results ≡ stop Outcome.no_room
  kept_full v full = ap (by-room v) (lt-ltb store_size (letters results + size v) full)

  -- any other is kept
  kept-room : (v : Term) → letters results + size v ≤ store_size → kept name v results ≡ Play.finished (Result.result name v ∷ results)
  kept-room v room = ap (by-room v) (le-ltb store_size (letters results + size v) room)

-- ---- what the relation says is what the function makes

module _
    {fuel area : ℕ} {l : Line} {earlier : List Line} {results : List Result} (book : Book (l ∷ earlier))
    (f : Finished fuel area earlier results)
  where
    -- the next line is played on any term that is made of it
    line-term :
        (t : Term) → Replaced (ResultOf results) (piece_in l) t →
        further fuel area l (Play.finished results) ≡ play_term fuel area (name_in l) t results
    line-term t made = ap (λ (u : Term). play_term fuel area (name_in l) u results) (line-replaced-one book f t made)

    -- one that gives a result
    gives-further :
        {v : Term} → LineGives fuel area results l v →
        further fuel area l (Play.finished results) ≡ Play.finished (Result.result (name_in l) v ∷ results)
    gives-further {v} g =
        line-term g.start g.made
        ∙ term_runs fuel area (name_in l) results g.start g.way g.fits g.runs
        ∙ ap (λ (o : Outcome). ended o (name_in l) (reached g.start g.way) results) g.ends
        ∙ ap (λ (u : Term). kept (name_in l) u results) g.reaches
        ∙ kept-room fuel area (name_in l) results v g.room

    -- one that stops
    stops-further :
        {o : Outcome} → LineStops fuel area results l o →
        further fuel area l (Play.finished results) ≡ Play.stopped o (suc (length results))
    stops-further (LineStops.too_large {t = t} made large) =
        line-term t made ∙ term-large fuel area (name_in l) results t large
    stops-further (LineStops.unfinished {t = t} {r = r} made fits runs other) =
        line-term t made
        ∙ term_runs fuel area (name_in l) results t r fits runs
        ∙ ended-other fuel area (name_in l) results (outcome r) (reached t r) other
    stops-further (LineStops.store-full {t = t} {r = r} made fits runs done full) =
        line-term t made
        ∙ term_runs fuel area (name_in l) results t r fits runs
        ∙ ap (λ (o : Outcome). ended o (name_in l) (reached t r) results) done
        ∙ kept_full fuel area (name_in l) results (reached t r) full

-- lines that finish are finished by the function
finished-play :
    {fuel area : ℕ} {lines : List Line} {results : List Result} → Book lines → Finished fuel area lines results →
    play fuel area lines ≡ Play.finished results
finished-play book Finished.none = refl
finished-play {fuel} {area} book (Finished.line {l = l} f g) =
    ap (further fuel area l) (finished-play (earlier-book book) f) ∙ gives-further book f g

-- lines that stop are stopped by it, at the same line
stopped-play :
    {fuel area : ℕ} {lines : List Line} {o : Outcome} {n : ℕ} → Book lines → Stopped fuel area lines o n →
    play fuel area lines ≡ Play.stopped o n
stopped-play {fuel} {area} book (Stopped.here {l = l} {o = o} f s) =
    ap (further fuel area l) (finished-play (earlier-book book) f)
    ∙ stops-further book f s
    ∙ ap (λ (n : ℕ). Play.stopped o (suc n)) (finished-length f)
stopped-play {fuel} {area} book (Stopped.before {l = l} s) = ap (further fuel area l) (stopped-play (earlier-book book) s)

-- ---- what the function makes is in the relation

-- what the lines came to, in the relation
abbrev pub PlaysTo : (fuel area : ℕ) (lines : List Line) → Play → Type 0
PlaysTo fuel area lines (Play.finished results) = Finished fuel area lines results
PlaysTo fuel area lines (Play.stopped o n) = Stopped fuel area lines o n

module _ (fuel area : ℕ) (l : Line) (earlier : List Line) (results : List Result) (f : Finished fuel area earlier results) where
  -- the next line stops
  stops-to : {o : Outcome} → LineStops fuel area results l o → Stopped fuel area (l ∷ earlier) o (suc (length results))
  stops-to {o} s =
      subst (λ (n : ℕ). Stopped fuel area (l ∷ earlier) o (suc n)) (sym (finished-length f)) (Stopped.here f s)

  module _ (t : Term) (made : Replaced (ResultOf results) (piece_in l) t) where
    -- the run of the term that is made of the next line, and the term that it reaches
    abbrev way : Run
    way = run fuel area t

    abbrev last : Term
    last = reached t way

    -- a finished run, by whether the store has no room
    room-to :
        (full : Bool) → size t ≤ area → outcome way ≡ Outcome.finished → ltb store_size (letters results + size last) ≡ full →
        PlaysTo fuel area (l ∷ earlier) (by-room fuel area (name_in l) results last full)
    room-to true fits done e =
        stops-to
        (LineStops.store-full made fits (run-runs fuel area t) done (ltb-true store_size (letters results + size last) e))
    room-to false fits done e =
        Finished.line f
        (record {
          start = t;
          way = way;
          made = made;
          fits = fits;
          runs = run-runs fuel area t;
          ends = done;
          reaches = refl;
          room = ltb-false store_size (letters results + size last) e;
        })

    -- a run that is not finished
    unfinished-to :
        (o : Outcome) → size t ≤ area → outcome way ≡ o → (o ≡ Outcome.finished → ⊥) →
        Stopped fuel area (l ∷ earlier) o (suc (length results))
    unfinished-to o fits e other =
        subst (λ (o : Outcome). Stopped fuel area (l ∷ earlier) o (suc (length results))) e
        (stops-to (LineStops.unfinished made fits (run-runs fuel area t) (λ d. other (sym e ∙ d))))

    -- any run, by its outcome
    ended_to :
        (o : Outcome) → size t ≤ area → outcome way ≡ o → PlaysTo fuel area (l ∷ earlier) (ended o (name_in l) last results)
    ended_to Outcome.finished fits e = room-to (ltb store_size (letters results + size last)) fits e refl
    ended_to Outcome.spent fits e =
        unfinished-to Outcome.spent fits e (λ d. let z : ◌≡◌ {A = ℕ} 0 1 = cc in omega (arith, z))
    ended_to Outcome.no_room fits e =
        unfinished-to Outcome.no_room fits e (λ d. let z : ◌≡◌ {A = ℕ} 0 1 = cc in omega (arith, z))

    -- the term, by whether it is over the area
    size-to : (large : Bool) → ltb area (size t) ≡ large → PlaysTo fuel area (l ∷ earlier) (by_size fuel area (name_in l) results t large)
    size-to true e = stops-to (LineStops.too_large made (ltb-true area (size t) e))
    size-to false e = ended_to (outcome way) (ltb-false area (size t) e) refl

-- one line more
further-to :
    (fuel area : ℕ) {l : Line} {earlier : List Line} (p : Play) → Book (l ∷ earlier) → PlaysTo fuel area earlier p →
    PlaysTo fuel area (l ∷ earlier) (further fuel area l p)
further-to fuel area (Play.stopped o n) book s = Stopped.before s
further-to fuel area {l} {earlier} (Play.finished results) book f =
    let t = replaced (result_of results) (piece_in l) in
    size-to fuel area l earlier results f t (line-replaced book f) (ltb area (size t)) refl

-- whatever the function makes of the lines is in the relation
plays-to : (fuel area : ℕ) {lines : List Line} → Book lines → PlaysTo fuel area lines (play fuel area lines)
plays-to fuel area {lines = []} book = Finished.none
plays-to fuel area {lines = l ∷ earlier} book =
    further-to fuel area (play fuel area earlier) book (plays-to fuel area (earlier-book book))

-- ---- both ways

-- the function finishes the lines exactly where the relation does, with the same results
pub play-finished :
    (fuel area : ℕ) (lines : List Line) (results : List Result) → Book lines →
    (play fuel area lines ≡ Play.finished results) ↔ Finished fuel area lines results
play-finished fuel area lines results book =
    (λ e. subst (PlaysTo fuel area lines) e (plays-to fuel area book), finished-play book)

-- and stops where the relation does, with the same outcome at the same line
pub play-stopped :
    (fuel area : ℕ) (lines : List Line) (o : Outcome) (n : ℕ) → Book lines →
    (play fuel area lines ≡ Play.stopped o n) ↔ Stopped fuel area lines o n
play-stopped fuel area lines o n book = (λ e. subst (PlaysTo fuel area lines) e (plays-to fuel area book), stopped-play book)
