-- What a call with a book comes to, by what is known of its areas, store and fuel and of the book: one law for each reply. Assumes nothing.
use Prim.Native.Nat.{ℕ, suc, ◌<◌, ◌≤◌}
use mathlib.Core.Path.{◌≡◌, ◌∙◌, ap}
use mathlib.Core.Bool.{Bool, ◌||◌, or-true}
use mathlib.Core.List.{List, ◌∷◌}
use borrow.Author.Tests.{lt-ltb, le-ltb}
use lib.Dec.{ltb}
use lib.ListN.{length}
use Rattle.calculus.specs.Limits.{area_limit, fuel_limit}
use Rattle.calculus.specs.Term.{Term, size}
use Rattle.calculus.specs.Run.{Outcome}
use Rattle.reading.specs.Reply.{Reply, refuse_if}
use Rattle.reading.specs.Area.{holding, cleared}
use Rattle.books.specs.Line.{Line}
use Rattle.books.specs.Book.{book_of}
use Rattle.books.specs.Play.{store_size, Result, Play, play}
use Rattle.books.specs.Playing.{Played, After, emptied, refused_call, left_by, play_admitted, playing_of}
use Rattle.books.specs.PlaysAs.{Admitted}

-- ---- the tests of a call

module _ {X : Type 0} (area work store : List ℕ) (fuel : ℕ) (other : Reply X) where
  -- by the last test
  abbrev by-fuel : Bool → Reply X
  by-fuel high = refuse_if high 4 other

  -- by the last two
  abbrev by-room : Bool → Reply X
  by-room short = refuse_if short 2 (by-fuel (ltb fuel_limit fuel))

  -- by all
  abbrev by_length : Bool → Reply X
  by_length long = refuse_if long 1 (by-room (ltb (length work) (length area) || ltb (length store) store_size))

  -- an area over the limit
  call_long : area_limit < length area → refused_call area work store fuel other ≡ Reply.refused 1 0
  call_long h = ap by_length (lt-ltb area_limit (length area) h)

  module _ (short : length area ≤ area_limit) where
    call-short :
        refused_call area work store fuel other ≡ by-room (ltb (length work) (length area) || ltb (length store) store_size)
    call-short = ap by_length (le-ltb area_limit (length area) short)

    -- a work area that is shorter
    call-work : length work < length area → refused_call area work store fuel other ≡ Reply.refused 2 0
    call-work h = call-short ∙ ap (λ (b : Bool). by-room (b || ltb (length store) store_size)) (lt-ltb (length work) (length area) h)

    -- a store that is too short
    call-store : length store < store_size → refused_call area work store fuel other ≡ Reply.refused 2 0
    call-store h =
        call-short
        ∙ ap (λ (b : Bool). by-room (ltb (length work) (length area) || b)) (lt-ltb (length store) store_size h)
        ∙ ap by-room (or-true (ltb (length work) (length area)))

    module _ (room : length area ≤ length work) (stored : store_size ≤ length store) where
      call-room : refused_call area work store fuel other ≡ by-fuel (ltb fuel_limit fuel)
      call-room =
          call-short
          ∙ ap (λ (b : Bool). by-room (b || ltb (length store) store_size)) (le-ltb (length work) (length area) room)
          ∙ ap by-room (le-ltb (length store) store_size stored)

      -- too much fuel
      call-fuel : fuel_limit < fuel → refused_call area work store fuel other ≡ Reply.refused 4 0
      call-fuel h = call-room ∙ ap by-fuel (lt-ltb fuel_limit fuel h)

  -- within the limits the other reply counts
  call-admitted : Admitted area work store fuel → refused_call area work store fuel other ≡ other
  call-admitted a = call-room a.short a.room a.stored ∙ ap by-fuel (le-ltb fuel_limit fuel a.fuelled)

-- ---- the call

module _ (book area work store : List ℕ) (fuel : ℕ) where
  by_call :
      {x : Reply (List Line)} → refused_call area work store fuel (book_of book) ≡ x →
      playing_of book area work store fuel ≡ play_admitted x area work store fuel
  unfolding playing_of
  by_call e = ap (λ (x : Reply (List Line)). play_admitted x area work store fuel) e

  -- an area over the limit
  pub long-playing :
      area_limit < length area → playing_of book area work store fuel ≡ After.after (Reply.refused 1 0) area work store
  long-playing h = by_call (call_long area work store fuel (book_of book) h)

  -- a work area that is shorter
  pub work-playing :
      length area ≤ area_limit → length work < length area →
      playing_of book area work store fuel ≡ After.after (Reply.refused 2 0) area work store
  work-playing short h = by_call (call-work area work store fuel (book_of book) short h)

  -- a store that is too short
  pub store-playing :
      length area ≤ area_limit → length store < store_size →
      playing_of book area work store fuel ≡ After.after (Reply.refused 2 0) area work store
  store-playing short h = by_call (call-store area work store fuel (book_of book) short h)

  -- too much fuel
  pub fuel-playing :
      length area ≤ area_limit → length area ≤ length work → store_size ≤ length store → fuel_limit < fuel →
      playing_of book area work store fuel ≡ After.after (Reply.refused 4 0) area work store
  fuel-playing short room stored h = by_call (call-fuel area work store fuel (book_of book) short room stored h)

  module _ (admitted : Admitted area work store fuel) where
    by-book :
        {x : Reply (List Line)} → book_of book ≡ x → playing_of book area work store fuel ≡ play_admitted x area work store fuel
    by-book e = by_call (call-admitted area work store fuel (book_of book) admitted ∙ e)

    -- what reading the book refuses
    pub unread-playing :
        (number line : ℕ) → book_of book ≡ Reply.refused number line →
        playing_of book area work store fuel ≡ After.after (Reply.refused number line) area work store
    unread-playing number line e = by-book e

    module _ (lines : List Line) (read : book_of book ≡ Reply.answered lines) where
      by-play : {p : Play} → play fuel (length area) lines ≡ p → playing_of book area work store fuel ≡ left_by p area work store
      by-play e = by-book read ∙ ap (λ (p : Play). left_by p area work store) e

      -- lines that stop
      pub stopped-playing :
          (o : Outcome) (n : ℕ) → play fuel (length area) lines ≡ Play.stopped o n →
          playing_of book area work store fuel
          ≡ After.after (Reply.answered (Played.played o n 0)) (cleared area) (cleared work) (emptied store)
      stopped-playing o n e = by-play e

      -- lines that finish
      pub finished-playing :
          (results : List Result) (name : List ℕ) (v : Term) →
          play fuel (length area) lines ≡ Play.finished (Result.result name v ∷ results) →
          playing_of book area work store fuel
          ≡ After.after (Reply.answered (Played.played Outcome.finished (suc (length results)) (size v)))
          (holding v area)
          (cleared work)
          (emptied store)
      finished-playing results name v e = by-play e
