-- What books say (REQUIREMENTS, Books), beside the demands: for every call with a book, whatever its fuel and areas. `book-says` of
-- proofs/BookSays.antt is the proof.
use Rattle.std.specs.Prelude.{ℕ, ◌≤◌, ◌≡◌, ◌↔◌, List, length, take, drop}
use Rattle.calculus.specs.Term.{Term, text, Normal}
use Rattle.calculus.specs.Turning.{Turn}
use Rattle.calculus.specs.Run.{Outcome}
use Rattle.calculus.specs.Found.{Finds}
use Rattle.reading.specs.Reply.{Reply}
use Rattle.books.specs.Line.{Line}
use Rattle.books.specs.Book.{line_limit, ReadsBook}
use Rattle.books.specs.InFull.{BookInFull}
use Rattle.books.specs.Play.{store_size}
use Rattle.books.specs.Playing.{Played, After, playing_of}

-- `Yields book t v`: t is the last line of the book, written out in full; v is normal, turns into t, is the only normal term that does, and
-- the order finds it from t
pub record Yields (book : List ℕ) (t v : Term) : Type 0 where
  pub in_full : BookInFull book t
  pub normal : Normal v
  pub turns : Turn t v
  pub only : (u : Term) → Normal u → Turn t u → u ≡ v
  pub found : Finds t v

pub record BookSays : Type 0 where
  -- what a composer gets: if no line stops, the area holds the one result of the last line, taken with all its uses written out
  pub result :
      (book area work store area' work' store' : List ℕ) (fuel line n : ℕ) →
      playing_of book area work store fuel ≡ After.after (Reply.answered (Played.played Outcome.finished line n)) area' work' store' →
      (t v : Term) × Yields book t v × (take n area' ≡ text v)
  -- every book that is read has its last line in full, whether its lines finish or not, and it is one term
  pub some-text : (bytes : List ℕ) (lines : List Line) → ReadsBook bytes (Reply.answered lines) → (t : Term) × BookInFull bytes t
  pub one-text : (bytes : List ℕ) (t u : Term) → BookInFull bytes t → BookInFull bytes u → t ≡ u
  -- two books that finish, whatever their lines, fuels and areas: equal results exactly where the terms in full turn into each other
  pub equal_exactly :
      (book₁ area₁ work₁ store₁ area₁' work₁' store₁' book₂ area₂ work₂ store₂ area₂' work₂' store₂' : List ℕ)
      (fuel₁ line₁ n₁ fuel₂ line₂ n₂ : ℕ) (t u : Term) →
      playing_of book₁ area₁ work₁ store₁ fuel₁ ≡ After.after (Reply.answered (Played.played Outcome.finished line₁ n₁)) area₁' work₁' store₁' →
      playing_of book₂ area₂ work₂ store₂ fuel₂ ≡ After.after (Reply.answered (Played.played Outcome.finished line₂ n₂)) area₂' work₂' store₂' →
      BookInFull book₁ t → BookInFull book₂ u → (take n₁ area₁' ≡ take n₂ area₂') ↔ Turn t u
  -- the line is one of the book, the last where it finished; where it did not there is no result
  pub in_range :
      (book area work store area' work' store' : List ℕ) (fuel line n : ℕ) (o : Outcome) (lines : List Line) →
      playing_of book area work store fuel ≡ After.after (Reply.answered (Played.played o line n)) area' work' store' →
      ReadsBook book (Reply.answered lines) →
      (1 ≤ line) × (line ≤ length lines) × (length lines ≤ line_limit) × (o ≡ Outcome.finished → line ≡ length lines)
      × ((o ≡ Outcome.finished → ⊥) → n ≡ 0)
  -- every call leaves areas and store as long as they were, and what stands behind the store's 65,536 bytes
  pub behind :
      (book area work store area' work' store' : List ℕ) (fuel : ℕ) (reply : Reply Played) →
      playing_of book area work store fuel ≡ After.after reply area' work' store' →
      (length area' ≡ length area) × (length work' ≡ length work) × (length store' ≡ length store) × (drop store_size store' ≡ drop store_size store)
