-- One line, played behind others: the text that is made is that of its piece with results for its uses, and each way out is what the line
-- comes to. Assumes nothing.
use Prim.Native.Nat.{ℕ, suc, ◌+◌, ◌-◌, ◌≤◌, ◌<◌}
use native.Mathlib.Omega.{arith}
use mathlib.Core.Path.{◌≡◌, refl, sym, ◌∙◌, ap, ap₂}
use mathlib.Core.List.{List, ◌++◌}
use mathlib.Core.Option.{none}
use Rattle.std.specs.Prelude.{Some}
use borrow.Author.Tests.{lt-ltb, le-ltb}
use lib.ListN.{length, take, drop, replicate, length-append}
use lib.Seq.{take_at}
use Rattle.slices.specs.Part.{part}
use Rattle.slices.specs.Put.{put}
use Rattle.slices.proofs.Part.{part-front}
use Rattle.slices.proofs.Put.{put-fits, length-put}
use Rattle.calculus.specs.Term.{Term, text, size}
use Rattle.calculus.specs.Run as runs
use Rattle.calculus.proofs.PrefixCode.{length-text}
use Rattle.reading.specs.Reply.{Reply}
use Rattle.reading.specs.Reading.{term_read}
use Rattle.reading.proofs.Terms.{term-read}
use Rattle.admission.proofs.Admitting.{read-decides}
use Rattle.finishing.specs.Finishing.{Ran, After, ran_from, finish_admitted, finishing_of}
use Rattle.finishing.specs.Answer.{outcome_of, ran_of}
use Rattle.finishing.specs.declared.Outcome.{Outcome}
use Rattle.finishing.specs.declared.Outcome.TheVariants.{Finished, Spent, NoRoom}
use Rattle.finishing.specs.declared.Run.{Run}
use Rattle.books.specs.Piece.{replaced}
use Rattle.books.specs.Line.{Line, name_in, piece_in}
use Rattle.books.specs.Play.{store_size, Result, letters, result_of, Play, ended, further}
use Rattle.book_names.specs.Key.{key_of}
use Rattle.replacing.specs.Spelled.{held_by, spelled_from, spelled_in}
use Rattle.replacing.specs.Leaves.{Leaves}
use Rattle.replacing.proofs.Spelled.{spelled-text}
use Rattle.line_playing.specs.Shelf.{Shelved, Lent, Playable, Gives}
use Rattle.line_playing.proofs.Shelves.{shelf_held, length-texts}

-- ---- finishing's answer, taken apart

abbrev outcome_in : Ran → runs.Outcome
outcome_in (Ran.ran o count byRule sized) = o

abbrev size_in : Ran → ℕ
size_in (Ran.ran o count byRule sized) = sized

abbrev ran_in : After → Ran
ran_in (After.after reply r area work) = r

abbrev area_in : After → List ℕ
area_in (After.after reply r area work) = area

abbrev reply_in : After → Reply Unit
reply_in (After.after reply r area work) = reply

-- no refusal is an answer
answered-other : {X : Type 0} {n p : ℕ} {x : X} → Reply.refused n p ≡ Reply.answered x → ⊥
answered-other e = let z : ◌≡◌ {A = ℕ} 0 1 = cc in omega arith

-- a term in the area is run
finish-made :
    (t : Term) (area work : List ℕ) (fuel : ℕ) → Lent area work fuel → size t ≤ length area → take (size t) area ≡ text t →
    finishing_of area (size t) work fuel ≡ ran_from t (runs.run fuel (length area) t) area work
unfolding finishing_of
finish-made t area work fuel lent fits written =
    ap (λ (r : Reply Term). finish_admitted r area work fuel)
    (read-decides area (size t) work fuel lent.short lent.room fits lent.fuelled (Reply.answered t) (ap term_read written ∙ term-read t))

-- ---- one line

module _
    {keys ends store piece : List ℕ} {used : ℕ} {earlier : List Line} {results : List Result} {l : Line} (area work : List ℕ) (fuel : ℕ)
    (lent : Lent area work fuel) (shelved : Shelved keys ends store used earlier results) (playable : Playable piece earlier l) where
  -- the line with results for its uses
  abbrev made : Term
  made = replaced (result_of results) (piece_in l)

  abbrev way : runs.Run
  way = runs.run fuel (length area) made

  abbrev end : Term
  end = runs.reached made way

  abbrev came : Play
  came = further fuel (length area) l (Play.finished results)

  -- its text is what is written
  pub spelt-made : spelled_in keys ends store piece ≡ text made
  unfolding spelled_in
  spelt-made =
      ap (spelled_from (λ name. held_by (key_of name) keys ends store) none) playable.spelt
      ∙ spelled-text (λ name. held_by (key_of name) keys ends store) (result_of results) (piece_in l) playable.well_formed.uses-named
      (λ name m. shelf_held name shelved (playable.well_formed.uses-named name m) (playable.given name m))

  length-made : length (spelled_in keys ends store piece) ≡ size made
  length-made = ap length spelt-made ∙ length-text made

  -- it is larger than the area
  pub too_large : length area < length (spelled_in keys ends store piece) → came ≡ Play.stopped runs.Outcome.no_room (suc (length results))
  too_large h = rw (lt-ltb (length area) (size made) (omega (arith, h, length-made))) refl

  -- it fits, and is run
  came-ended : size made ≤ length area → came ≡ ended (runs.outcome way) (name_in l) end results
  came-ended h = rw (le-ltb (length area) (size made) h) refl

  module _ (len : ℕ) (area₁ : List ℕ) (left : Leaves (Some len) (spelled_in keys ends store piece) area area₁) where
    sized : len ≡ length (spelled_in keys ends store piece)
    sized = left.0

    fits : length (spelled_in keys ends store piece) ≤ length area
    fits = left.1

    written : area₁ ≡ put 0 (spelled_in keys ends store piece) area
    written = left.2

    fits-made : size made ≤ length area
    fits-made = omega (arith, fits, length-made)

    long : length area₁ ≡ length area
    long = ap length written ∙ length-put 0 (spelled_in keys ends store piece) area

    front : take (size made) area₁ ≡ text made
    front =
        ap (take (size made))
        (written ∙ ap (λ (s : List ℕ). put 0 s area) spelt-made ∙ put-fits 0 (text made) area (omega (arith, fits-made, length-text made)))
        ∙ take_at (text made) (drop (0 + length (text made)) area) (size made) (length-text made)

    run-made : finishing_of area₁ len work fuel ≡ ran_from made way area₁ work
    run-made =
        ap (λ (n : ℕ). finishing_of area₁ n work fuel) (sized ∙ length-made)
        ∙ finish-made made area₁ work fuel
        (record { short = omega (arith, lent.short, long); room = omega (arith, lent.room, long); fuelled = lent.fuelled })
        (omega (arith, fits-made, long)) front
        ∙ ap (λ (n : ℕ). ran_from made (runs.run fuel n made) area₁ work) long

    -- it is not refused
    pub not-refused :
        {number place : ℕ} {ran : Ran} {area₂ work₂ : List ℕ} →
        After.after (Reply.refused number place) ran area₂ work₂ ≡ finishing_of area₁ len work fuel → ⊥
    not-refused e = answered-other (ap reply_in (e ∙ run-made))

    module _
        {area₂ work₂ : List ℕ} {reply : Reply Unit} (ran : Run)
        (finished : After.after reply (ran_of ran) area₂ work₂ ≡ finishing_of area₁ len work fuel) where
      ran-made : After.after reply (ran_of ran) area₂ work₂ ≡ ran_from made way area₁ work
      ran-made = finished ∙ run-made

      outcome-made : outcome_of ran.outcome ≡ runs.outcome way
      outcome-made = ap (λ (a : After). outcome_in (ran_in a)) ran-made

      size-made : ran.size ≡ size end
      size-made = ap (λ (a : After). size_in (ran_in a)) ran-made

      -- the run's outcome decides
      ended-made : came ≡ ended (outcome_of ran.outcome) (name_in l) end results
      ended-made = came-ended fits-made ∙ ap (λ (o : runs.Outcome). ended o (name_in l) end results) (sym outcome-made)

      -- it did not finish
      pub line-spent : ran.outcome ≡ Spent → came ≡ Play.stopped runs.Outcome.spent (suc (length results))
      line-spent e = ended-made ∙ ap (λ (o : Outcome). ended (outcome_of o) (name_in l) end results) e

      pub line-no_room : ran.outcome ≡ NoRoom → came ≡ Play.stopped runs.Outcome.no_room (suc (length results))
      line-no_room e = ended-made ∙ ap (λ (o : Outcome). ended (outcome_of o) (name_in l) end results) e

      module _ (done : ran.outcome ≡ Finished) where
        finished-made : came ≡ ended runs.Outcome.finished (name_in l) end results
        finished-made = ended-made ∙ ap (λ (o : Outcome). ended (outcome_of o) (name_in l) end results) done

        -- the store has no room for its result
        pub store-full : length store < used + ran.size → came ≡ Play.stopped runs.Outcome.no_room (suc (length results))
        store-full h =
            finished-made
            ∙ rw (lt-ltb store_size (letters results + size end) (omega (arith, h, size-made, shelved.filled, shelved.long))) refl

        in_area : take ran.size area₂ ≡ text end
        in_area =
            ap₂ take size-made (ap area_in ran-made) ∙ take_at (text end) (replicate (length area₁ - size end) 0) (size end) (length-text end)

        -- it has, and the result stands behind the others
        pub line_gives :
            (store' : List ℕ) → used + ran.size ≤ length store → store' ≡ put used (part 0 ran.size area₂) store →
            Gives came l results used ran.size area₂ store'
        line_gives store' h put' =
            record {
              result = end;
              came_to =
                  finished-made
                  ∙ rw (le-ltb store_size (letters results + size end) (omega (arith, fitting, size-made, shelved.filled))) refl;
              as_large = size-made;
              in_area = in_area;
              in_store =
                  ap (take (used + ran.size)) (put' ∙ ap (λ (s : List ℕ). put used s store) (part-front ran.size area₂ ∙ in_area) ∙ placed)
                  ∙ take_at (take used store ++ text end) (drop (used + length (text end)) store) (used + ran.size) both
                  ∙ ap (λ (s : List ℕ). s ++ text end) shelved.held;
              fits = fitting;
            }
          where
            fitting : used + ran.size ≤ store_size
            fitting = omega (arith, h, shelved.long)

            placed : put used (text end) store ≡ take used store ++ text end ++ drop (used + length (text end)) store
            placed = put-fits used (text end) store (omega (arith, fitting, size-made, length-text end, shelved.long))

            both : length (take used store ++ text end) ≡ used + ran.size
            both =
                omega (
                  arith,
                  length-append (take used store) (text end),
                  ap length shelved.held,
                  length-texts results,
                  shelved.filled,
                  length-text end,
                  size-made,
                )
