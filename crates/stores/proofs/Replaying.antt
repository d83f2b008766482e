-- A store looked at result by result. Where it begins with the results of a catalogue, the search finds their numbers; and what is read of it
-- so far is the beginning of whatever catalogue it may keep. Assumes nothing.
use Prim.Native.Nat.{ℕ, suc, ◌+◌, ◌*◌, ◌-◌, ◌≤◌, ◌<◌}
use native.Mathlib.Decide.{dec_le}
use native.Mathlib.Omega.{arith}
use mathlib.Core.Path.{◌≡◌, refl, sym, ◌∙◌, ap, ap₂, subst}
use mathlib.Core.Bool.{Bool, true, false, cond, not, ◌&&◌, false≢true}
use mathlib.Core.Logic.{◌⊎◌, inl, inr}
use mathlib.Core.List.{List, [], ◌∷◌}
use mathlib.Core.Option.{Option, none, some}
use borrow.Author.Tests.{le-leb, leb-true, eq-eqb, eqb-true}
use lib.Dec.{eqb}
use lib.ListN.{length, take, replicate, get_or, length-take}
use lib.Seq.{take-take}
use Rattle.calculus.specs.Term.{Term, text, size, Normal}
use Rattle.calculus.specs.Parse.{term_of}
use Rattle.calculus.proofs.PrefixCode.{term_of-text, text-term_of, length-text, text_injective, size_positive}
use Rattle.slices.specs.Part.{part}
use Rattle.slices.specs.Same.{same}
use Rattle.slices.proofs.Part.{part-empty, part_length}
use Rattle.slices.proofs.Decimal.{and_both}
use Rattle.slices.proofs.Same.{equal_same, same_equal}
use Rattle.words.specs.Word.{word_of, word_at}
use Rattle.words.proofs.At.{word-known}
use Rattle.fingerprints.specs.Print.{print_of}
use Rattle.fingerprints.proofs.Printing.{print-small}
use Rattle.reading.specs.Stop.{has_stop}
use Rattle.reading.proofs.Stops.{no_stop-normal, stop-not-normal}
use Rattle.entries.specs.Catalogue.{entry_limit, letter_limit, letters, Catalogue, number_of}
use Rattle.entries.specs.Store.{entry_size, texts_at, store_size, store_of}
use Rattle.entries.specs.EntersAs.{Keeps}
use Rattle.entries.proofs.Numbers.{number-none, none_number, catalogue-fits}
use Rattle.entries.proofs.Later.{Later, later-all}
use Rattle.entries.proofs.Laid.{
  Begins,
  Laid,
  laid-stored,
  stored-laid,
  length-store,
  begins-earlier,
  Stands,
  begins-stands,
  stands-begins,
  word_read,
}
use Rattle.entries.proofs.Back.{unused-word}
use Rattle.stores.specs.Search.{size_at, is_at, found_in, number_in, is_normal, is_result, follows}
use Rattle.stores.specs.Kept.{KeepsSome}
use Rattle.stores.proofs.Searching.{size-there, size_none, number-inside, fits, printed, fresh, tests}

-- ---- what stands at a result's place, read

module _ (store : List ℕ) (t : Term) (earlier : List Term) (long : store_size ≤ length store) (stands : Stands store t earlier) where
  module _ (few : length earlier < entry_limit) where
    pub print-read : word_at (entry_size * length earlier) store ≡ print_of (text t)
    print-read = word_read (entry_size * length earlier) (print_of (text t)) store (print-small (text t)) (omega arith) stands.print

    pub size-read : size t ≤ letter_limit → size_at (length earlier) store ≡ size t
    size-read short =
        size-there (length earlier) store few
        ∙ word_read (entry_size * length earlier + 4) (size t) store (omega arith) (omega arith)
        (ap (λ (n : ℕ). part (entry_size * length earlier + 4) n store) (omega arith) ∙ stands.long)

-- ---- the search

-- a store that begins with results has their numbers
pub search_found :
    (store : List ℕ) (results : List Term) (t : Term) → store_size ≤ length store → length results ≤ entry_limit → letters results ≤ letter_limit →
    Begins store results → found_in (length results) (letters results) store (text t) (print_of (text t)) ≡ number_of t results
search_found store [] t long few short begins = refl
search_found store (u ∷ earlier) t long few short begins =
    let stands = begins-stands begins in
    let start : letters earlier + size u - size_at (length earlier) store ≡ letters earlier =
    ap (λ (n : ℕ). letters earlier + size u - n) (size-read store u earlier long stands (omega arith) (omega arith)) ∙ omega arith in
    let spelt : part (texts_at + letters earlier) (texts_at + (letters earlier + size u)) store ≡ text u =
    ap (λ (n : ℕ). part (texts_at + letters earlier) n store) (omega arith) ∙ stands.spelt in
    let at : is_at (length earlier) (letters earlier) (letters earlier + size u) store (text t) (print_of (text t)) ≡ same (text u) (text t) =
    ap₂ (λ (n : ℕ) (l : List ℕ). eqb n (print_of (text t)) && same l (text t)) (print-read store u earlier long stands (omega arith)) spelt
    ∙ passed (text u) (text t) in
    let rest = search_found store earlier t long (omega arith) (omega arith) (begins-earlier (Later.more Later.same) begins) in
    ap (λ (n : ℕ).
    cond (is_at (length earlier) n (letters earlier + size u) store (text t) (print_of (text t)))
    (suc (length earlier)) (found_in (length earlier) n store (text t) (print_of (text t)))) start
    ∙ ap₂ (λ (b : Bool) (n : ℕ). cond b (suc (length earlier)) n) at rest
  where
    -- the fingerprints decide nothing
    passed : (a b : List ℕ) → (eqb (print_of a) (print_of b) && same a b) ≡ same a b
    passed a b = go (same a b) refl
      where
        go : (x : Bool) → same a b ≡ x → (eqb (print_of a) (print_of b) && same a b) ≡ same a b
        go true e = ap (λ (y : Bool). y && same a b) (eq-eqb (print_of a) (print_of b) (ap print_of (same_equal a b e)))
        go false e = ap (λ (y : Bool). eqb (print_of a) (print_of b) && y) e ∙ none_of (eqb (print_of a) (print_of b)) ∙ sym e
          where
            none_of : (x : Bool) → (x && false) ≡ false
            none_of true = refl
            none_of false = refl

pub search_number :
    (store : List ℕ) (results : List Term) (t : Term) → store_size ≤ length store → length results ≤ entry_limit → letters results ≤ letter_limit →
    Begins store results → number_in (length results) (letters results) store (text t) (print_of (text t)) ≡ number_of t results
search_number store results t long few short begins =
    sym (number-inside store (text t) (print_of (text t)) (length results) (letters results) few short)
    ∙ search_found store results t long few short begins

-- ---- the first bytes of a store

pub keeps_taken : (store : List ℕ) (results : List Term) → Keeps (take store_size store) results → Keeps store results
keeps_taken store results keeps =
    record {
      catalogue = keeps.catalogue;
      stored = sym (take-take store_size store_size store (omega arith)) ∙ keeps.stored;
    }

pub taken_keeps : (store : List ℕ) (results : List Term) → Keeps store results → Keeps (take store_size store) results
taken_keeps store results keeps =
    record { catalogue = keeps.catalogue; stored = take-take store_size store_size store (omega arith) ∙ keeps.stored }

-- ---- one result more

-- bytes that are a result are the text of a normal term
result-term : (bytes : List ℕ) → is_result bytes ≡ true → (t : Term) × (bytes ≡ text t) × Normal t
unfolding is_result
result-term bytes e = go (term_of bytes) refl e
  where
    go : (o : Option Term) → term_of bytes ≡ o → is_normal o ≡ true → (t : Term) × (bytes ≡ text t) × Normal t
    go none f g = absurd (false≢true g)
    go (some t) f g = (t, sym (text-term_of bytes t f), no_stop-normal t (no_stop (has_stop (text t)) g))
      where
        no_stop : (b : Bool) → not b ≡ true → b ≡ false
        no_stop true h = absurd (false≢true h)
        no_stop false h = refl

-- and such a text is a result
term-result : (t : Term) → Normal t → is_result (text t) ≡ true
unfolding is_result
term-result t n = ap is_normal (term_of-text t) ∙ go (has_stop (text t)) refl
  where
    go : (b : Bool) → has_stop (text t) ≡ b → not (has_stop (text t)) ≡ true
    go true e = absurd (stop-not-normal t e n)
    go false e = ap not e

-- earlier results of a catalogue are one
later-catalogue : {a b : List Term} → Later a b → Catalogue b → Catalogue a
later-catalogue Later.same c = c
later-catalogue (Later.more l) c = earlier (later-catalogue l c)
  where
    earlier : {t : Term} {a : List Term} → Catalogue (t ∷ a) → Catalogue a
    earlier (Catalogue.entered n f r c) = c

module _ (store : List ℕ) (long : store_size ≤ length store) (bytes : (i : ℕ) → get_or store i 0 < 256) where
  -- the four bytes at a place are those of the number there
  known : (at n : ℕ) → at + 4 ≤ store_size → word_at at store ≡ n → part at (at + 4) store ≡ word_of n
  known at n h e = word-known at store (omega arith) (bytes at) (bytes (at + 1)) (bytes (at + 2)) (bytes (at + 3)) ∙ ap word_of e

  module _ (results : List Term) (catalogue : Catalogue results) (begins : Begins store results) where
    -- an entry that passes the test is a result more
    pub one_more :
        (n : ℕ) → length results < entry_limit → size_at (length results) store ≡ n →
        follows (length results) (letters results) n store ≡ true →
        (t : Term) × Catalogue (t ∷ results) × Begins store (t ∷ results) × (size t ≡ n)
    unfolding follows
    one_more n few sized e =
        let at = entry_size * length results in
        let used = letters results in
        let bytes_of = part (texts_at + used) (texts_at + used + n) store in
        let within = catalogue-fits catalogue in
        let (three, fresh-is) = and_both (fits (length results) used n store && is_result bytes_of && printed (length results) used n store)
        (fresh (length results) used n store) e in
        let (two, printed-is) = and_both (fits (length results) used n store && is_result bytes_of) (printed (length results) used n store) three in
        let (fits-is, result-is) = and_both (fits (length results) used n store) (is_result bytes_of) two in
        let fit : used + n ≤ letter_limit = leb-true (used + n) letter_limit fits-is in
        let (t, spelt, normal) = result-term bytes_of result-is in
        let print-is : word_at at store ≡ print_of bytes_of = eqb-true (word_at at store) (print_of bytes_of) printed-is in
        let length-is : size t ≡ n =
        sym (length-text t) ∙ ap length (sym spelt) ∙ part_length (texts_at + used) (texts_at + used + n) store (omega arith) ∙ omega arith in
        let number_is : number_of t results ≡ 0 =
        sym (search_number store results t long within.0 within.1 begins)
        ∙ ap (λ (l : List ℕ). number_in (length results) used store l (print_of l)) (sym spelt)
        ∙ eqb-true (number_in (length results) used store bytes_of (print_of bytes_of)) 0 fresh-is in
        let stands : Stands store t results =
        record {
          print = known at (print_of (text t)) (omega arith) (print-is ∙ ap print_of spelt);
          long =
              ap (λ (k : ℕ). part (at + 4) k store) (omega arith)
              ∙ known (at + 4) (size t) (omega arith) (sym (size-there (length results) store few) ∙ sized ∙ sym length-is);
          spelt = ap (λ (k : ℕ). part (texts_at + used) (texts_at + used + k) store) length-is ∙ spelt;
        } in (
          t,
          Catalogue.entered normal (number-none t results number_is) (record { entry = few; letters_fit = omega arith }) catalogue,
          stands-begins begins stands,
          length-is,
        )

  -- a result that stands there passes the test
  pub stands-follows :
      (t : Term) (results : List Term) → Catalogue (t ∷ results) → Begins store (t ∷ results) →
      (size_at (length results) store ≡ size t) × (follows (length results) (letters results) (size t) store ≡ true)
  stands-follows t results (Catalogue.entered normal new room earlier) begins =
      let stands = begins-stands begins in
      let used = letters results in
      let few : length results < entry_limit = room.entry in
      let fit : used + size t ≤ letter_limit = room.letters_fit in
      let before = begins-earlier (Later.more Later.same) begins in
      let within = catalogue-fits earlier in
      let there = part (texts_at + used) (texts_at + used + size t) store in
      let spelt : there ≡ text t = stands.spelt in
      let result-is = ap is_result spelt ∙ term-result t normal in
      let printed-is =
      eq-eqb (word_at (entry_size * length results) store) (print_of there)
      (print-read store t results long stands few ∙ ap print_of (sym spelt)) in
      let fresh-is =
      eq-eqb (number_in (length results) used store there (print_of there)) 0
      (ap (λ (l : List ℕ). number_in (length results) used store l (print_of l)) spelt
      ∙ search_number store results t long within.0 within.1 before
      ∙ none_number t results new) in (
        size-read store t results long stands few (omega arith),
        tests (length results) used (size t) store (le-leb (used + size t) letter_limit fit) result-is printed-is ∙ fresh-is,
      )

  -- behind the last result of a kept catalogue the size is 0
  pub last-size : (results : List Term) → Keeps store results → size_at (length results) store ≡ 0
  last-size results keeps = go (dec_le entry_limit (length results))
    where
      go : Dec (entry_limit ≤ length results) → size_at (length results) store ≡ 0
      go (yes full) = size_none (length results) store full
      go (no room) =
          let within = catalogue-fits keeps.catalogue in
          let at = entry_size * length results + 4 in
          size-there (length results) store (omega arith)
          ∙ word_read at 0 store (omega arith) (omega (arith, within.0))
          (ap (λ (k : ℕ). part at k store) (omega arith)
          ∙ unused-word store results (omega arith) (stored-laid store results within.0 within.1 keeps.stored))

-- ---- the loop

-- so many results with so many letters are read of the bytes of a store that is long enough, and whatever catalogue it keeps goes on from
-- them
pub record Replayed (store : List ℕ) (count used : ℕ) : Type 0 where
  pub long : store_size ≤ length store
  pub bytes : (i : ℕ) → get_or store i 0 < 256
  pub results : List Term
  pub catalogue : Catalogue results
  pub begins : Begins store results
  pub counted : length results ≡ count
  pub lettered : letters results ≡ used
  pub only : (whole : List Term) → Keeps store whole → Later results whole

pub replay_start : (store : List ℕ) → store_size ≤ length store → ((i : ℕ) → get_or store i 0 < 256) → Replayed store 0 0
replay_start store long bytes =
    record {
      long = long;
      bytes = bytes;
      results = [];
      catalogue = Catalogue.empty;
      begins = record { entries = refl; texts = part-empty texts_at texts_at store (omega arith) };
      counted = refl;
      lettered = refl;
      only = λ whole keeps. later-all whole;
    }

module _ {store : List ℕ} {count used : ℕ} (so_far : Replayed store count used) where
  abbrev long : store_size ≤ length store
  long = so_far.long

  abbrev bytes : (i : ℕ) → get_or store i 0 < 256
  bytes = so_far.bytes

  abbrev read : List Term
  read = so_far.results

  pub replay-within : (count ≤ entry_limit) × (used ≤ letter_limit)
  replay-within =
      let within = catalogue-fits so_far.catalogue in
      (omega (arith, so_far.counted, within.0), omega (arith, so_far.lettered, within.1))

  -- a size that is not 0 is that of an entry
  pub replay-few : (n : ℕ) → n ≡ size_at count store → ¬ (n ≡ 0) → count < entry_limit
  replay-few n e some_size = go (dec_le entry_limit count)
    where
      go : Dec (entry_limit ≤ count) → count < entry_limit
      go (yes full) = absurd (some_size (e ∙ size_none count store full))
      go (no room) = omega arith

  -- the size that is read, and the test, in terms of the results
  sized : (n : ℕ) → n ≡ size_at count store → size_at (length read) store ≡ n
  sized n e = ap (λ (k : ℕ). size_at k store) so_far.counted ∙ sym e

  tested : (n : ℕ) → follows (length read) (letters read) n store ≡ follows count used n store
  tested n = ap₂ (λ (k m : ℕ). follows k m n store) so_far.counted so_far.lettered

  -- what a kept catalogue has next: nothing, or a result that stands there
  abbrev Next : List Term → Type 0
  Next whole = (whole ≡ read) ⊎ ((t : Term) × Catalogue (t ∷ read) × Begins store (t ∷ read) × Later (t ∷ read) whole)

  next : {whole : List Term} → Keeps store whole → Later read whole → Next whole
  next keeps Later.same = inl refl
  next {whole} keeps (Later.more {t = t} l) =
      let within = catalogue-fits keeps.catalogue in
      let laid = stored-laid store whole within.0 within.1 keeps.stored in
      inr (t, later-catalogue l keeps.catalogue, begins-earlier l laid.begins, l)

  -- where the test fails, none is kept
  pub replay-stop :
      (n : ℕ) → n ≡ size_at count store → ¬ (n ≡ 0) → follows count used n store ≡ false → (whole : List Term) → Keeps store whole → ⊥
  replay-stop n e some_size fails whole keeps = go (next keeps (so_far.only whole keeps))
    where
      go : Next whole → ⊥
      go (inl same-results) = some_size (sym (sized n e) ∙ last-size store long bytes read (subst (Keeps store) same-results keeps))
      go (inr (t, c, b, l)) =
          let (size_is, passes) = stands-follows store long bytes t read c b in
          let n-is : n ≡ size t = sym (sized n e) ∙ size_is in
          false≢true (sym fails ∙ sym (tested n) ∙ ap (λ (k : ℕ). follows (length read) (letters read) k store) n-is ∙ passes)

  -- where it holds, one more is read
  pub replay-turn :
      (n : ℕ) → n ≡ size_at count store → ¬ (n ≡ 0) → follows count used n store ≡ true → Replayed store (count + 1) (used + n)
  replay-turn n e some_size passes =
      let few = replay-few n e some_size in
      let (t, c, b, length-is) =
      one_more store long bytes read so_far.catalogue so_far.begins n (omega (arith, so_far.counted)) (sized n e) (tested n ∙ passes) in
      record {
        long = long;
        bytes = bytes;
        results = t ∷ read;
        catalogue = c;
        begins = b;
        counted = omega (arith, so_far.counted);
        lettered = omega (arith, so_far.lettered);
        only = λ whole keeps. goes_on whole keeps t b length-is (next keeps (so_far.only whole keeps));
      }
    where
      -- the result that a kept catalogue has next is the one that was read
      goes_on :
          (whole : List Term) → Keeps store whole → (t : Term) → Begins store (t ∷ read) → size t ≡ n → Next whole → Later (t ∷ read) whole
      goes_on whole keeps t b length-is (inl same-results) =
          absurd (some_size (sym (sized n e) ∙ last-size store long bytes read (subst (Keeps store) same-results keeps)))
      goes_on whole keeps t b length-is (inr (u, c, b', l)) =
          let (size_is, passes') = stands-follows store long bytes u read c b' in
          let equal-size : size t ≡ size u = length-is ∙ sym (sized n e) ∙ size_is in
          let equal : t ≡ u =
          text_injective t u
          (sym (begins-stands b).spelt
          ∙ ap (λ (k : ℕ). part (texts_at + letters read) (texts_at + letters read + k) store) equal-size
          ∙ (begins-stands b').spelt) in
          subst (λ (v : Term). Later (v ∷ read) whole) (sym equal) l

  -- at the end: the size is 0, and what is kept is what was read
  module _ (ends : size_at count store ≡ 0) where
    whole-is-read : (whole : List Term) → Keeps store whole → whole ≡ read
    whole-is-read whole keeps = go (next keeps (so_far.only whole keeps))
      where
        go : Next whole → whole ≡ read
        go (inl same-results) = same-results
        go (inr (t, c, b, l)) =
            let (size_is, passes) = stands-follows store long bytes t read c b in
            let nothing : size t ≡ 0 = sym size_is ∙ ap (λ (k : ℕ). size_at k store) so_far.counted ∙ ends in
            absurd (omega (arith, size_positive t))

    laid : (whole : List Term) → Keeps store whole → Laid store read
    laid whole keeps =
        let within = catalogue-fits so_far.catalogue in
        stored-laid store read within.0 within.1 (keeps.stored ∙ ap store_of (whole-is-read whole keeps))

    -- how many zeros those parts have
    unused-long : length (part (entry_size * count) texts_at store) ≡ texts_at - entry_size * count
    unused-long = part_length (entry_size * count) texts_at store (omega arith)

    behind-long : length (part (texts_at + used) store_size store) ≡ store_size - (texts_at + used)
    behind-long = part_length (texts_at + used) store_size store (omega arith)

    abbrev zeros : List ℕ → Bool
    zeros s = same s (replicate (length s) 0)

    unused-is : (l : Laid store read) → part (entry_size * count) texts_at store ≡ replicate (texts_at - entry_size * count) 0
    unused-is l =
        ap (λ (k : ℕ). part (entry_size * k) texts_at store) (sym so_far.counted)
        ∙ l.unused
        ∙ ap (λ (k : ℕ). replicate (texts_at - entry_size * k) 0) so_far.counted

    behind-is : (l : Laid store read) → part (texts_at + used) store_size store ≡ replicate (letter_limit - used) 0
    behind-is l =
        ap (λ (k : ℕ). part (texts_at + k) store_size store) (sym so_far.lettered)
        ∙ l.behind
        ∙ ap (λ (k : ℕ). replicate (letter_limit - k) 0) so_far.lettered

    pub replay-unused : zeros (part (entry_size * count) texts_at store) ≡ false → (whole : List Term) → Keeps store whole → ⊥
    replay-unused fails whole keeps =
        false≢true
        (sym fails
        ∙ equal_same (part (entry_size * count) texts_at store) (replicate (length (part (entry_size * count) texts_at store)) 0)
        (unused-is (laid whole keeps) ∙ ap (λ (k : ℕ). replicate k 0) (sym unused-long)))

    pub replay-behind : zeros (part (texts_at + used) store_size store) ≡ false → (whole : List Term) → Keeps store whole → ⊥
    replay-behind fails whole keeps =
        let same-long : letter_limit - used ≡ store_size - (texts_at + used) = omega arith in
        false≢true
        (sym fails
        ∙ equal_same (part (texts_at + used) store_size store) (replicate (length (part (texts_at + used) store_size store)) 0)
        (behind-is (laid whole keeps) ∙ ap (λ (k : ℕ). replicate k 0) (same-long ∙ sym behind-long)))

    pub replay-keeps :
        zeros (part (entry_size * count) texts_at store) ≡ true → zeros (part (texts_at + used) store_size store) ≡ true → KeepsSome store count used
    replay-keeps unused behind =
        let within = catalogue-fits so_far.catalogue in
        let same-long : store_size - (texts_at + used) ≡ letter_limit - used = omega arith in
        let unused-zeros : part (entry_size * count) texts_at store ≡ replicate (texts_at - entry_size * count) 0 =
        same_equal (part (entry_size * count) texts_at store) (replicate (length (part (entry_size * count) texts_at store)) 0) unused
        ∙ ap (λ (k : ℕ). replicate k 0) unused-long in
        let behind-zeros : part (texts_at + used) store_size store ≡ replicate (letter_limit - used) 0 =
        same_equal (part (texts_at + used) store_size store) (replicate (length (part (texts_at + used) store_size store)) 0) behind
        ∙ ap (λ (k : ℕ). replicate k 0) (behind-long ∙ same-long) in
        let laid_out : Laid store read =
        record {
          begins = so_far.begins;
          unused =
              ap (λ (k : ℕ). part (entry_size * k) texts_at store) so_far.counted
              ∙ unused-zeros ∙ ap (λ (k : ℕ). replicate (texts_at - entry_size * k) 0) (sym so_far.counted);
          behind =
              ap (λ (k : ℕ). part (texts_at + k) store_size store) so_far.lettered
              ∙ behind-zeros ∙ ap (λ (k : ℕ). replicate (letter_limit - k) 0) (sym so_far.lettered);
        } in
        record {
          long = long;
          results = read;
          keeps = record { catalogue = so_far.catalogue; stored = laid-stored store read long within.0 within.1 laid_out };
          counted = so_far.counted;
          lettered = so_far.lettered;
        }

-- a store that is too short keeps nothing
pub short-keeps : (store : List ℕ) → length store < store_size → (results : List Term) → Keeps store results → ⊥
short-keeps store short results keeps =
    let within = catalogue-fits keeps.catalogue in
    let whole : length (take store_size store) ≡ store_size = ap length keeps.stored ∙ length-store results within.0 within.1 in
    omega (arith, length-take store_size store)
