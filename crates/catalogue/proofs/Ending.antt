-- From what the code finds to the reply and the store: each way out of `enter` and of `enter_result` as one law. Assumes nothing.
use Prim.Native.Nat.{ℕ, suc, ◌+◌, ◌*◌, ◌-◌, ◌≤◌, ◌<◌}
use native.Mathlib.Omega.{arith}
use mathlib.Core.Path.{◌≡◌, refl, sym, ◌∙◌, ap, ap₂}
use mathlib.Core.Bool.{Bool, true, false}
use mathlib.Core.List.{List, ◌∷◌, ◌++◌}
use mathlib.Core.Option.{some}
use Rattle.std.specs.Prelude.{Ok, Err, Some, None}
use lib.ListN.{length, take, drop, take-append-drop}
use lib.Seq.{length-take-le}
use Rattle.calculus.specs.Term.{Term, text, size}
use Rattle.calculus.proofs.PrefixCode.{length-text}
use Rattle.slices.specs.Put.{put}
use Rattle.words.specs.Word.{word_of}
use Rattle.fingerprints.specs.Print.{print_of}
use Rattle.reading.specs.Reply.{Reply}
use Rattle.reading.specs.Reading.{reading_of, term_read}
use Rattle.reading.specs.Stop.{has_stop}
use Rattle.reading.specs.Answer.{answer_of as readingAnswer}
use Rattle.reading.specs.declared.Misread.{Misread}
use Rattle.reading.proofs.Terms.{term-read, whole-read, unread}
use Rattle.entries.specs.Catalogue.{entry_limit, letter_limit, letters, Room, number_of, has_room}
use Rattle.entries.specs.Store.{entry_size, texts_at, store_size, entry_of, store_of, catalogue_in}
use Rattle.entries.specs.Entering.{Entered, After, entering_of}
use Rattle.entries.proofs.Numbers.{room-test, catalogue-fits}
use Rattle.entries.proofs.Laid.{Laid, laid-stored, stored-laid, new-laid}
use Rattle.entries.proofs.Back.{keeps_exactly, keeps-none}
use Rattle.entries.proofs.Replies.{
  short_entering,
  no_catalogue_entering,
  unread-entering,
  stop-entering,
  known-entering,
  full-entering,
  new-entering,
}
use Rattle.stores.specs.Search.{number_in, numbered}
use Rattle.stores.specs.Kept.{KeepsSome, KeptAs}
use Rattle.stores.specs.declared.Kept.{Kept}
use Rattle.stores.proofs.Searching.{numbered-some, numbered-none}
use Rattle.stores.proofs.Replaying.{search_number, keeps_taken, taken_keeps}
use Rattle.catalogue.specs.Answer.{answer_of}
use Rattle.catalogue.specs.Ready.{Ready, Writable}
use Rattle.catalogue.specs.declared.Refused.TheVariants.{Unread}
use Rattle.catalogue.specs.declared.Entered.TheVariants.{Known, New}

-- without room the test says so
no_room : (t : Term) (results : List Term) → (Room t results → ⊥) → has_room t results ≡ false
no_room t results full = go (has_room t results) refl
  where
    go : (b : Bool) → has_room t results ≡ b → has_room t results ≡ false
    go true e = absurd (full ((room-test t results).0 e))
    go false e = e

module _ (bytes store : List ℕ) where
  -- 2
  pub refused-short : length store < store_size → After.after (Reply.refused 2 0) store ≡ entering_of bytes store
  refused-short h = sym (short_entering bytes store h)

  module _ (long : store_size ≤ length store) where
    -- 28
    pub refused-no-catalogue : KeptAs (take store_size store) None → After.after (Reply.refused 28 0) store ≡ entering_of bytes store
    refused-no-catalogue no_one =
        sym (no_catalogue_entering bytes store long (keeps-none store (λ results k. no_one results (taken_keeps store results k))))

    module _ (kept : Kept) (some-kept : KeptAs (take store_size store) (Some kept)) where
      -- the first bytes keep a catalogue, so the store does
      keeps-some : KeepsSome store kept.count kept.used
      keeps-some =
          record {
            long = long;
            results = some-kept.results;
            keeps = keeps_taken store some-kept.results some-kept.keeps;
            counted = some-kept.counted;
            lettered = some-kept.lettered;
          }

      abbrev results : List Term
      results = keeps-some.results

      found : catalogue_in (take store_size store) ≡ some results
      found = (keeps_exactly store results).1 keeps-some.keeps

      -- what reading refuses
      pub refused-unread :
          (m : Misread) → readingAnswer (Err m) ≡ reading_of bytes → After.after (answer_of (Err (Unread m))) store ≡ entering_of bytes store
      refused-unread m first = sym (unread-entering bytes store results long found _ _ (unread bytes m first))

      module _ (n : ℕ) (first : Reply.answered n ≡ reading_of bytes) where
        -- 29
        pub refused-stop : has_stop bytes ≡ true → After.after (Reply.refused 29 0) store ≡ entering_of bytes store
        refused-stop stop =
            let (t, same, sized, read) = whole-read bytes n first in
            sym (stop-entering bytes store results long found t read (ap has_stop (sym same) ∙ stop))

        -- a normal term, and a catalogue for it
        pub ready : has_stop bytes ≡ false → Ready bytes store kept.count kept.used
        ready normal =
            let (t, same, sized, read) = whole-read bytes n first in
            record { term = t; spelt = same; normal = normal; kept = keeps-some }

  module _ {count used : ℕ} (r : Ready bytes store count used) where
    abbrev t : Term
    t = r.term

    abbrev held : List Term
    held = r.kept.results

    fits : (length held ≤ entry_limit) × (letters held ≤ letter_limit)
    fits = catalogue-fits r.kept.keeps.catalogue

    -- so the letters are within their limit
    pub within : used ≤ letter_limit
    within = omega (arith, fits.1, r.kept.lettered)

    found-ready : catalogue_in (take store_size store) ≡ some held
    found-ready = (keeps_exactly store held).1 r.kept.keeps

    read : term_read bytes ≡ Reply.answered t
    read = ap term_read r.spelt ∙ term-read t

    normal-text : has_stop (text t) ≡ false
    normal-text = ap has_stop (sym r.spelt) ∙ r.normal

    long-text : length bytes ≡ size t
    long-text = ap length r.spelt ∙ length-text t

    -- there is room to write
    pub writable : count < entry_limit → length bytes ≤ letter_limit - used → Writable bytes store count used
    writable few short = record { long = r.kept.long; entry = few; letters = omega (arith, within) }

    module _ (print : ℕ) (printed : print ≡ print_of bytes) where
      -- what is looked up
      abbrev pub looked : ℕ
      looked = number_in count used (take store_size store) bytes print

      -- the search finds the number of the term
      number-said : looked ≡ number_of t held
      number-said =
          let whole = r.kept.long in
          let first : List ℕ = take store_size store in
          let kept-first = taken_keeps store held r.kept.keeps in
          let sized : length first ≡ store_size = length-take-le store_size store whole in
          let laid = stored-laid first held fits.0 fits.1 kept-first.stored in
          ap (number_in count used first bytes) printed
          ∙ ap (λ (b : List ℕ). number_in count used first b (print_of b)) r.spelt
          ∙ ap₂ (λ (c u : ℕ). number_in c u first (text t) (print_of (text t))) (sym r.kept.counted) (sym r.kept.lettered)
          ∙ search_number first held t (omega arith) fits.0 fits.1 laid.begins

      -- a result that is there
      pub entered-known :
          (number : ℕ) → Some number ≡ numbered looked → After.after (answer_of (Ok (Known number))) store ≡ entering_of bytes store
      entered-known number e =
          let (same_number, some_number) = numbered-some looked number e in
          let there : ¬ (number_of t held ≡ 0) = λ z. some_number (number-said ∙ z) in
          let same_store : store ≡ store_of held ++ drop store_size store =
          sym (take-append-drop store_size store) ∙ ap (λ (l : List ℕ). l ++ drop store_size store) r.kept.keeps.stored in
          ap₂ (λ (n : ℕ) (l : List ℕ). After.after (Reply.answered (Entered.known n)) l) (same_number ∙ number-said) same_store
          ∙ sym (known-entering bytes store held r.kept.long found-ready t read normal-text there)

      module _ (missing : None ≡ numbered looked) where
        not_there : number_of t held ≡ 0
        not_there = sym number-said ∙ numbered-none looked missing

        full : (Room t held → ⊥) → After.after (Reply.refused 30 0) store ≡ entering_of bytes store
        full shut =
            sym (full-entering bytes store held r.kept.long found-ready t read normal-text not_there (no_room t held shut))

        -- 30: no entry left, or too few letters
        pub refused-count : entry_limit ≤ count → After.after (Reply.refused 30 0) store ≡ entering_of bytes store
        refused-count h = full (λ room. omega (arith, room.entry, r.kept.counted))

        pub refused-letters : letter_limit - used < length bytes → After.after (Reply.refused 30 0) store ≡ entering_of bytes store
        refused-letters h = full (λ room. omega (arith, room.letters_fit, r.kept.lettered, long-text))

        module _ (few : count < entry_limit) (short : length bytes ≤ letter_limit - used) where
          room : Room t held
          room =
              record {
                entry = omega (arith, r.kept.counted);
                letters_fit = omega (arith, r.kept.lettered, long-text, within);
              }

          -- a new result
          pub entered-new :
              (store₁ : List ℕ) →
              store₁ ≡ put (texts_at + used) bytes (put (entry_size * count) (word_of print ++ word_of (length bytes)) store) →
              After.after (answer_of (Ok (New (count + 1)))) store₁ ≡ entering_of bytes store
          entered-new store₁ wrote =
              let whole = r.kept.long in
              let store₀ : List ℕ = put (entry_size * length held) (entry_of t) store in
              let entry : put (entry_size * count) (word_of print ++ word_of (length bytes)) store ≡ store₀ =
              ap (λ (k : ℕ). put (entry_size * k) (word_of print ++ word_of (length bytes)) store) (sym r.kept.counted)
              ∙ ap₂ (λ (p n : ℕ). put (entry_size * length held) (word_of p ++ word_of n) store)
              (printed ∙ ap print_of r.spelt) long-text in
              let written : store₁ ≡ put (texts_at + letters held) (text t) store₀ =
              wrote
              ∙ ap₂ (λ (k : ℕ) (b : List ℕ). put (texts_at + k) b (put (entry_size * count) (word_of print ++ word_of (length bytes)) store))
              (sym r.kept.lettered) r.spelt
              ∙ ap (put (texts_at + letters held) (text t)) entry in
              let before : Laid store held = stored-laid store held fits.0 fits.1 r.kept.keeps.stored in
              let (laid, rest, sized) = new-laid t held store store₀ store₁ whole room before refl written in
              let number-next : count + 1 ≡ suc (length held) = omega (arith, r.kept.counted) in
              let stored : take store_size store₁ ≡ store_of (t ∷ held) =
              laid-stored store₁ (t ∷ held) (omega arith) (omega (arith, room.entry)) (omega (arith, room.letters_fit)) laid in
              let same_store : store₁ ≡ store_of (t ∷ held) ++ drop store_size store =
              sym (take-append-drop store_size store₁) ∙ ap₂ ◌++◌ stored rest in
              ap₂ (λ (n : ℕ) (l : List ℕ). After.after (Reply.answered (Entered.new n)) l) number-next same_store
              ∙ sym (new-entering bytes store held whole found-ready t read normal-text not_there ((room-test t held).1 room))
