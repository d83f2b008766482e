-- Each way out of playing a book, as one law: what is answered and left is what the definition says. Assumes nothing.
use Prim.Native.Nat.{ℕ, ◌-◌, ◌≤◌}
use native.Mathlib.Omega.{arith}
use mathlib.Core.Path.{◌≡◌, refl, sym, ◌∙◌, ap, ap₂}
use mathlib.Core.List.{List, [], ◌∷◌, ◌++◌}
use lib.ListN.{length, take, drop, replicate}
use lib.Seq.{length-take-le, drop_at}
use Rattle.std.specs.Prelude.{Err}
use Rattle.calculus.specs.Run as runs
use Rattle.reading.specs.Reply.{Reply, passed_on}
use Rattle.reading.specs.Area.{holding, cleared}
use Rattle.finishing.specs.Answer.{outcome_of}
use Rattle.finishing.specs.declared.Outcome.{Outcome}
use Rattle.books.specs.Line.{Line}
use Rattle.books.specs.Book.{book_of}
use Rattle.books.specs.Play.{store_size, Result, Play, play}
use Rattle.books.specs.Playing.{Played, After, emptied, playing_of}
use Rattle.books.specs.PlaysAs.{Admitted}
use Rattle.books.proofs.Answers.{emptied-again}
use Rattle.books.proofs.Replies.{unread-playing, stopped-playing, finished-playing}
use Rattle.book_reading.specs.Answer.{refusal_of as unread_of, answer_of as readingAnswer}
use Rattle.book_reading.specs.Table.{count_of}
use Rattle.book_reading.specs.declared.Refused.{Refused as Unread}
use Rattle.book.specs.Lines.{BookReady, LinesReady, PlayLeft}

-- no refusal is an answer
refused-other : {X : Type 0} {n p : ℕ} {x : X} → Reply.refused n p ≡ Reply.answered x → ⊥
refused-other e = let z : ◌≡◌ {A = ℕ} 0 1 = cc in omega arith

module _ (book area work store : List ℕ) (fuel : ℕ) (admitted : Admitted area work store fuel) where
  -- what is refused of the book
  pub ends-unread :
      (unread : Unread) → readingAnswer (Err unread) ≡ count_of (book_of book) →
      After.after (passed_on (unread_of unread)) area work store ≡ playing_of book area work store fuel
  ends-unread unread e = go (book_of book) refl e
    where
      go :
          (x : Reply (List Line)) → book_of book ≡ x → readingAnswer (Err unread) ≡ count_of x →
          After.after (passed_on (unread_of unread)) area work store ≡ playing_of book area work store fuel
      go (Reply.refused n p) read e =
          ap (λ (r : Reply ℕ). After.after (passed_on r) area work store) e ∙ sym (unread-playing book area work store fuel admitted n p read)
      go (Reply.answered whole) read e = absurd (refused-other e)

-- what stands behind the bytes that were lent is as it was
pub emptied-alike :
    (store front : List ℕ) → store_size ≤ length store → length front ≡ length (take store_size store) →
    emptied (front ++ drop store_size store) ≡ emptied store
emptied-alike store front room long =
    emptied-again store (front ++ drop store_size store)
    (drop_at front (drop store_size store) store_size (long ∙ length-take-le store_size store room))

module _ {book keys area work store : List ℕ} {fuel : ℕ} (ready : BookReady book keys area work store fuel) where
  -- its lines may be played
  pub lines-ready :
      (work' store' : List ℕ) → length work' ≡ length area → length store' ≡ store_size → LinesReady book keys area work' store' fuel
  lines-ready work' store' wide long =
      record {
        lent = record { short = ready.admitted.short; room = omega (arith, wide); fuelled = ready.admitted.fuelled };
        long = long;
        lines = ready.lines;
        read = ready.read;
        keyed = ready.keyed;
      }

  -- what the lines came to
  pub ends-played :
      (o : Outcome) (line sized : ℕ) (area₁ area' work' store' : List ℕ) →
      ((whole : List Line) → book_of book ≡ Reply.answered whole → PlayLeft (play fuel (length area) whole) o line sized area₁) →
      length area₁ ≡ length area → area' ≡ take sized area₁ ++ replicate (length area₁ - sized) 0 → work' ≡ cleared work →
      store' ≡ emptied store →
      After.after (Reply.answered (Played.played (outcome_of o) line sized)) area' work' store' ≡ playing_of book area work store fuel
  ends-played o line sized area₁ area' work' store' left long in_area_lem in-work in_store =
      ap₂ (λ (w s : List ℕ). After.after (Reply.answered (Played.played (outcome_of o) line sized)) area' w s) in-work in_store
      ∙ go ready.lines ready.read (play fuel (length area) ready.lines) refl (left ready.lines ready.read)
    where
      go :
          (whole : List Line) → book_of book ≡ Reply.answered whole → (p : Play) → play fuel (length area) whole ≡ p →
          PlayLeft p o line sized area₁ →
          After.after (Reply.answered (Played.played (outcome_of o) line sized)) area' (cleared work) (emptied store)
          ≡ playing_of book area work store fuel
      go whole read (Play.stopped q n) played (same, number, none) =
          let all : length area₁ - 0 ≡ length area = omega (arith, long) in
          let zeros : area' ≡ cleared area =
          in_area_lem ∙ ap (λ (i : ℕ). take i area₁ ++ replicate {A = ℕ} (length area₁ - i) 0) none ∙ ap (λ (i : ℕ). replicate {A = ℕ} i 0) all in
          ap (λ (x : List ℕ). After.after (Reply.answered (Played.played (outcome_of o) line sized)) x (cleared work) (emptied store)) zeros
          ∙ ap (λ (x : runs.Outcome). After.after (Reply.answered (Played.played x line sized)) (cleared area) (cleared work) (emptied store)) same
          ∙ ap₂ (λ (i j : ℕ). After.after (Reply.answered (Played.played q i j)) (cleared area) (cleared work) (emptied store)) number none
          ∙ sym (stopped-playing book area work store fuel ready.admitted whole read q n played)
      go whole read (Play.finished []) played left = absurd left
      go whole read (Play.finished (Result.result name v ∷ earlier)) played (same, number, large, front) =
          let held : area' ≡ holding v area =
          in_area_lem
          ∙ ap₂ (λ (x : List ℕ) (i : ℕ). x ++ replicate i 0) front (ap₂ ◌-◌ long large) in
          ap (λ (x : List ℕ). After.after (Reply.answered (Played.played (outcome_of o) line sized)) x (cleared work) (emptied store)) held
          ∙ ap (λ (x : runs.Outcome). After.after (Reply.answered (Played.played x line sized)) (holding v area) (cleared work) (emptied store)) same
          ∙ ap₂ (λ (i j : ℕ). After.after (Reply.answered (Played.played runs.Outcome.finished i j)) (holding v area) (cleared work) (emptied store))
          number large
          ∙ sym (finished-playing book area work store fuel ready.admitted whole read earlier name v played)
