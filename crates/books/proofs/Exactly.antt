-- What a call with a book comes to in the relation: the function is the relation. And what a composer gets: a finished book's result is the
-- only normal form of its last line written out in full. Assumes nothing.
use Prim.Native.Nat.{ℕ, ◌-◌, ◌≤◌}
use native.Mathlib.Omega.{arith}
use mathlib.Core.Path.{◌≡◌, refl, sym, ◌∙◌, ap, subst}
use mathlib.Core.Logic.{◌↔◌}
use mathlib.Core.Bool.{Bool, true, false}
use mathlib.Core.List.Memᴰ
use mathlib.Core.List.{List, [], ◌∷◌}
use borrow.Author.Tests.{ltb-true, ltb-false}
use lib.Dec.{ltb}
use lib.ListN.{length, take, replicate}
use lib.Seq.{take_at}
use Rattle.calculus.specs.Limits.{area_limit, fuel_limit}
use Rattle.calculus.specs.Term.{Term, text, size, Normal}
use Rattle.calculus.specs.Turning.{Turn}
use Rattle.calculus.specs.Run.{Outcome}
use Rattle.calculus.specs.Found.{Finds}
use Rattle.calculus.proofs.PrefixCode.{length-text}
use Rattle.calculus.proofs.Confluence.{turn_trans, turn-sym, normal-turn}
use Rattle.calculus.proofs.Found.{found_exactly}
use Rattle.reading.specs.Reply.{Reply, Refuses}
use Rattle.reading.specs.Area.{holding, cleared}
use Rattle.books.specs.Line.{Line}
use Rattle.books.specs.Book.{Book, ReadsBook, book_of}
use Rattle.books.specs.InFull.{InFull, BookInFull}
use Rattle.books.specs.Play.{store_size, Result, Finished, Play, play}
use Rattle.books.specs.Playing.{Played, After, emptied, playing_of}
use Rattle.books.specs.PlaysAs.{Admitted, PlaysAs}
use Rattle.books.proofs.Reading.{reads_exactly, book-read, book-refused}
use Rattle.books.proofs.InFull.{in_full-one, in_full-some, finished-turn, finished-normal}
use Rattle.books.proofs.Plays.{finished-length, stopped-outcome, play-finished, play-stopped}
use Rattle.books.proofs.Replies.{
  long-playing,
  work-playing,
  store-playing,
  fuel-playing,
  unread-playing,
  stopped-playing,
  finished-playing,
}

-- ---- what the function answers is in the relation

-- what the definition answers and leaves, in the relation
abbrev pub PlaysInto : (book area work store : List ℕ) (fuel : ℕ) → After → Type 0
PlaysInto book area work store fuel (After.after reply area' work' store') = PlaysAs book area work store fuel reply area' work' store'

module _ (book area work store : List ℕ) (fuel : ℕ) where
  abbrev Plays : Type 0
  Plays = PlaysInto book area work store fuel (playing_of book area work store fuel)

  by :
      {reply : Reply Played} {area' work' store' : List ℕ} →
      playing_of book area work store fuel ≡ After.after reply area' work' store' →
      PlaysAs book area work store fuel reply area' work' store' → Plays
  by e found = subst (PlaysInto book area work store fuel) (sym e) found

  module _ (admitted : Admitted area work store fuel) where
    module _ (lines : List Line) (read : book_of book ≡ Reply.answered lines) where
      by-play : (p : Play) → play fuel (length area) lines ≡ p → Plays
      by-play (Play.stopped o n) e =
          by
          (stopped-playing book area work store fuel admitted lines read o n e)
          (PlaysAs.stopped admitted ((reads_exactly book (Reply.answered lines)).0 read)
          ((play-stopped fuel (length area) lines o n (book-read book lines read).0).0 e))
      by-play (Play.finished []) e =
          let (well, some, all) = book-read book lines read in
          let none = finished-length ((play-finished fuel (length area) lines [] well).0 e) in
          absurd (omega (arith, none, some))
      by-play (Play.finished (Result.result name v ∷ results)) e =
          let f = (play-finished fuel (length area) lines (Result.result name v ∷ results) (book-read book lines read).0).0 e in
          by
          (finished-playing book area work store fuel admitted lines read results name v e
          ∙ ap
          (λ (n : ℕ).
          After.after (Reply.answered (Played.played Outcome.finished n (size v))) (holding v area) (cleared work) (emptied store))
          (finished-length f))
          (PlaysAs.finished admitted ((reads_exactly book (Reply.answered lines)).0 read) f)

    by-book : (x : Reply (List Line)) → book_of book ≡ x → Plays
    by-book (Reply.refused number line) e =
        by
        (unread-playing book area work store fuel admitted number line e)
        (PlaysAs.unread admitted ((reads_exactly book (Reply.refused number line)).0 e))
    by-book (Reply.answered lines) e = by-play lines e (play fuel (length area) lines) refl

  module _ (short : length area ≤ area_limit) where
    module _ (room : length area ≤ length work) where
      module _ (stored : store_size ≤ length store) where
        by-fuel : (high : Bool) → ltb fuel_limit fuel ≡ high → Plays
        by-fuel true e =
            let h = ltb-true fuel_limit fuel e in
            by (fuel-playing book area work store fuel short room stored h) (PlaysAs.fuel_too_high short room stored h)
        by-fuel false e =
            by-book
            (record { short = short; room = room; stored = stored; fuelled = ltb-false fuel_limit fuel e })
            (book_of book)
            refl

      by-store : (small : Bool) → ltb (length store) store_size ≡ small → Plays
      by-store true e =
          let h = ltb-true (length store) store_size e in
          by (store-playing book area work store fuel short h) (PlaysAs.store_too_short short h)
      by-store false e = by-fuel (ltb-false (length store) store_size e) (ltb fuel_limit fuel) refl

    by-work : (small : Bool) → ltb (length work) (length area) ≡ small → Plays
    by-work true e =
        let h = ltb-true (length work) (length area) e in
        by (work-playing book area work store fuel short h) (PlaysAs.work_too_short short h)
    by-work false e = by-store (ltb-false (length work) (length area) e) (ltb (length store) store_size) refl

  by_length : (long : Bool) → ltb area_limit (length area) ≡ long → Plays
  by_length true e =
      let h = ltb-true area_limit (length area) e in by (long-playing book area work store fuel h) (PlaysAs.area_too_long h)
  by_length false e = by-work (ltb-false area_limit (length area) e) (ltb (length work) (length area)) refl

  -- whatever the definition answers and leaves is in the relation
  plays-into : Plays
  plays-into = by_length (ltb area_limit (length area)) refl

-- ---- and nothing else is

-- lines that are read of bytes are a book
read-book : {bytes : List ℕ} {lines : List Line} → ReadsBook bytes (Reply.answered lines) → Book lines
read-book {bytes} {lines} r = (book-read bytes lines ((reads_exactly bytes (Reply.answered lines)).1 r)).0

-- what the relation says is what the definition answers and leaves
plays-only :
    {book area work store area' work' store' : List ℕ} {fuel : ℕ} {reply : Reply Played} →
    PlaysAs book area work store fuel reply area' work' store' →
    playing_of book area work store fuel ≡ After.after reply area' work' store'
plays-only {book} {area} {work} {store} {fuel = fuel} (PlaysAs.area_too_long h) = long-playing book area work store fuel h
plays-only {book} {area} {work} {store} {fuel = fuel} (PlaysAs.work_too_short short h) =
    work-playing book area work store fuel short h
plays-only {book} {area} {work} {store} {fuel = fuel} (PlaysAs.store_too_short short h) =
    store-playing book area work store fuel short h
plays-only {book} {area} {work} {store} {fuel = fuel} (PlaysAs.fuel_too_high short room stored h) =
    fuel-playing book area work store fuel short room stored h
plays-only {book} {area} {work} {store} {fuel = fuel} (PlaysAs.unread {number = number} {line = line} admitted r) =
    unread-playing book area work store fuel admitted number line ((reads_exactly book (Reply.refused number line)).1 r)
plays-only {book} {area} {work} {store} {fuel = fuel} (PlaysAs.stopped {lines = lines} {o = o} {n = n} admitted r s) =
    stopped-playing book area work store fuel admitted lines ((reads_exactly book (Reply.answered lines)).1 r) o n
    ((play-stopped fuel (length area) lines o n (read-book r)).1 s)
plays-only
    {book}
    {area}
    {work}
    {store}
    {fuel = fuel}
    (PlaysAs.finished {lines = lines} {results = results} {name = name} {v = v} admitted r f) =
    finished-playing book area work store fuel admitted lines ((reads_exactly book (Reply.answered lines)).1 r) results name v
    ((play-finished fuel (length area) lines (Result.result name v ∷ results) (read-book r)).1 f)
    ∙ ap
    (λ (n : ℕ). After.after (Reply.answered (Played.played Outcome.finished n (size v))) (holding v area) (cleared work) (emptied store))
    (finished-length f)

-- the function is the relation
pub plays_exactly :
    (book area work store area' work' store' : List ℕ) (fuel : ℕ) (reply : Reply Played) →
    (playing_of book area work store fuel ≡ After.after reply area' work' store')
    ↔ PlaysAs book area work store fuel reply area' work' store'
plays_exactly book area work store area' work' store' fuel reply =
    (λ e. subst (PlaysInto book area work store fuel) e (plays-into book area work store fuel), plays-only)

-- ---- refusals

-- 1, 2 and 4, and reading's own
abbrev CallRefuses : (number line : ℕ) → Type 0
CallRefuses number line = Refuses (1 ∷ 2 ∷ 4 ∷ 10 ∷ 11 ∷ 12 ∷ []) (25 ∷ 26 ∷ 27 ∷ []) 1 257 number line

-- what reading a book refuses, among them
beside : {number line : ℕ} → Refuses (10 ∷ 11 ∷ 12 ∷ []) (25 ∷ 26 ∷ 27 ∷ []) 1 257 number line → CallRefuses number line
beside (Refuses.at_zero m here) = Refuses.at_zero (Memᴰ.tail (Memᴰ.tail (Memᴰ.tail m))) here
beside (Refuses.at_place m low high) = Refuses.at_place m low high

-- a refusal in the relation is listed, and changes nothing
call_refused :
    {book area work store area' work' store' : List ℕ} {fuel number line : ℕ} →
    PlaysAs book area work store fuel (Reply.refused number line) area' work' store' →
    CallRefuses number line × (area' ≡ area) × (work' ≡ work) × (store' ≡ store)
call_refused (PlaysAs.area_too_long h) = (Refuses.at_zero (Memᴰ.head refl) refl, refl, refl, refl)
call_refused (PlaysAs.work_too_short short h) = (Refuses.at_zero (Memᴰ.tail (Memᴰ.head refl)) refl, refl, refl, refl)
call_refused (PlaysAs.store_too_short short h) = (Refuses.at_zero (Memᴰ.tail (Memᴰ.head refl)) refl, refl, refl, refl)
call_refused (PlaysAs.fuel_too_high short room stored h) =
    (Refuses.at_zero (Memᴰ.tail (Memᴰ.tail (Memᴰ.head refl))) refl, refl, refl, refl)
call_refused {book = book} {number = number} {line = line} (PlaysAs.unread admitted r) =
    (beside (book-refused book number line ((reads_exactly book (Reply.refused number line)).1 r)), refl, refl, refl)

-- what a call refuses is listed, and changes nothing
pub playing_refuses :
    (book area work store area' work' store' : List ℕ) (fuel number line : ℕ) →
    playing_of book area work store fuel ≡ After.after (Reply.refused number line) area' work' store' →
    Refuses (1 ∷ 2 ∷ 4 ∷ 10 ∷ 11 ∷ 12 ∷ []) (25 ∷ 26 ∷ 27 ∷ []) 1 257 number line
    × (area' ≡ area)
    × (work' ≡ work)
    × (store' ≡ store)
playing_refuses book area work store area' work' store' fuel number line e =
    call_refused ((plays_exactly book area work store area' work' store' fuel (Reply.refused number line)).0 e)

-- ---- what a composer gets

-- `ResultIn book bytes n`: the first n bytes are the only normal form of the book's last line written out in full, and the order finds it
abbrev ResultIn : (book bytes : List ℕ) (n : ℕ) → Type 0
ResultIn book bytes n =
    (t : Term)
    × (v : Term)
    × BookInFull book t
    × (take n bytes ≡ text v)
    × Normal v
    × Turn t v
    × ((u : Term) → Normal u → Turn t u → u ≡ v)
    × Finds t v

-- the last result of a book that finished
finished-result :
    {book : List ℕ} {lines : List Line} {results : List Result} {name : List ℕ} {v : Term} (fuel : ℕ) (area : List ℕ) →
    ReadsBook book (Reply.answered lines) → Finished fuel (length area) lines (Result.result name v ∷ results) →
    ResultIn book (holding v area) (size v)
finished-result {lines = l ∷ earlier} {results = results} {name = name} {v = v} fuel area r f =
    let well = read-book r in
    let (t, full) = in_full-some l earlier well in
    let normal = finished-normal fuel (length area) (l ∷ earlier) results name v f in
    let turns = finished-turn fuel (length area) l earlier results name v t well f full in (
      t,
      v,
      record { lines = l ∷ earlier; read = r; in_full = full },
      take_at (text v) (replicate (length area - size v) 0) (size v) (length-text v),
      normal,
      turns,
      λ u other turned. (normal-turn other normal).0 (turn_trans (turn-sym turned) turns),
      (found_exactly t v).0 (normal, turns),
    )
finished-result {lines = []} fuel area r f = elim f [ ]

-- the same of a call in the relation
played-result :
    {book area work store area' work' store' : List ℕ} {fuel line n : ℕ} →
    PlaysAs book area work store fuel (Reply.answered (Played.played Outcome.finished line n)) area' work' store' →
    ResultIn book area' n
played-result (PlaysAs.stopped admitted r s) = absurd (stopped-outcome s refl)
played-result {area = area} {fuel = fuel} (PlaysAs.finished admitted r f) = finished-result fuel area r f

-- a finished book's result is the only normal form of its last line written out in full
pub book-result :
    (book area work store area' work' store' : List ℕ) (fuel line n : ℕ) →
    playing_of book area work store fuel
    ≡ After.after (Reply.answered (Played.played Outcome.finished line n)) area' work' store' →
    (t : Term)
    × (v : Term)
    × BookInFull book t
    × (take n area' ≡ text v)
    × Normal v
    × Turn t v
    × ((u : Term) → Normal u → Turn t u → u ≡ v)
    × Finds t v
book-result book area work store area' work' store' fuel line n e =
    played-result
    ((plays_exactly book area work store area' work' store' fuel (Reply.answered (Played.played Outcome.finished line n))).0 e)

-- a book's last line written out in full is one term
pub book-full-one : (book : List ℕ) (t u : Term) → BookInFull book t → BookInFull book u → t ≡ u
book-full-one book t u a b =
    let read = (reads_exactly book (Reply.answered a.lines)).1 a.read in
    let read' = (reads_exactly book (Reply.answered b.lines)).1 b.read in
    let same_lines : b.lines ≡ a.lines = cc in
    in_full-one a.lines t u a.in_full (subst (λ (lines : List Line). InFull lines u) same_lines b.in_full)
