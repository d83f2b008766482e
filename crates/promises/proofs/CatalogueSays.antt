-- What the catalogue says: by the laws of `entries`; where a result stands, by the entries and texts that its store begins with.
-- Assumes nothing.
use Prim.Native.Nat.{ℕ, suc, ◌+◌, ◌*◌, ◌-◌, ◌≤◌, ◌<◌}
use native.Mathlib.Omega.{arith}
use mathlib.Core.Path.{◌≡◌, refl, sym, ◌∙◌, ap, ap₂, subst}
use mathlib.Core.List.{List, [], ◌∷◌}
use lib.ListN.{length, drop}
use Rattle.calculus.specs.Term.{Term, text, size}
use Rattle.calculus.proofs.PrefixCode.{length-text}
use Rattle.slices.specs.Part.{part}
use Rattle.words.specs.Word.{word_at}
use Rattle.fingerprints.specs.Print.{print_of}
use Rattle.fingerprints.proofs.Printing.{print-small}
use Rattle.reading.specs.Reply.{Reply}
use Rattle.entries.specs.Catalogue.{entry_limit, letter_limit, letters, Catalogue, Numbered}
use Rattle.entries.specs.Store.{entry_size, texts_at, store_size}
use Rattle.entries.specs.Entering.{Entered, entered_number, After, entering_of}
use Rattle.entries.specs.EntersAs.{Keeps, EntersAs}
use Rattle.entries.proofs.Numbers.{numbered_positive, numbered-most, catalogue-fits}
use Rattle.entries.proofs.Later.{Later, later-entry, later-long}
use Rattle.entries.proofs.Laid.{Begins, stored-laid, begins-earlier, begins-stands, word_read}
use Rattle.entries.proofs.Exactly.{store_keeps, enters_exactly, entering_behind}
use Rattle.entries.proofs.Calls.{answered-numbered, number-bytes, entered-again, left_exactly}
use Rattle.promises.specs.CatalogueSays.{start_in, Filed, CatalogueSays}

-- ---- numbers

in_range :
    (bytes store store' : List ℕ) (e : Entered) → entering_of bytes store ≡ After.after (Reply.answered e) store' →
    (1 ≤ entered_number e) × (entered_number e ≤ entry_limit)
in_range bytes store store' e made =
    let (t, results, spelt, normal, kept, numbered, long) = answered-numbered bytes store store' e made in
    let (few, fit) = catalogue-fits kept.catalogue in
    (numbered_positive numbered, omega (arith, numbered-most numbered, few))

-- a new result is the last
new-last :
    {bytes store store' : List ℕ} {n : ℕ} → EntersAs bytes store (Reply.answered (Entered.new n)) store' →
    (results : List Term) × Keeps store' results × (length results ≡ n)
new-last {store = store} (EntersAs.new {results = results} t long k d normal missing room) =
    let c = Catalogue.entered normal missing room k.catalogue in
    (t ∷ results, store_keeps (t ∷ results) (drop store_size store) c, refl)

-- ---- where a result stands

module _ (store : List ℕ) (whole : store_size ≤ length store) where
  -- the size of the last of the first results
  size-read :
      (t : Term) (earlier : List Term) → length earlier < entry_limit → size t ≤ letter_limit → Begins store (t ∷ earlier) →
      word_at (entry_size * length earlier + 4) store ≡ size t
  size-read t earlier few short begins =
      let at = entry_size * length earlier in
      let eight : at + 4 + 4 ≡ at + 8 = omega arith in
      word_read (at + 4) (size t) store (omega arith) (omega arith)
      (ap (λ (k : ℕ). part (at + 4) k store) eight ∙ (begins-stands begins).long)

  -- the next text begins behind all their letters
  start-read :
      (results : List Term) → length results ≤ entry_limit → letters results ≤ letter_limit → Begins store results →
      start_in (length results) store ≡ texts_at + letters results
  start-read [] few short begins = refl
  start-read (t ∷ earlier) few short begins =
      let before = start-read earlier (omega arith) (omega arith) (begins-earlier (Later.more Later.same) begins) in
      let long = size-read t earlier (omega arith) (omega arith) begins in
      omega (arith, before, long)

  -- the last of the first results
  last-filed :
      (t : Term) (earlier : List Term) (n : ℕ) → n ≡ suc (length earlier) → length (t ∷ earlier) ≤ entry_limit →
      letters (t ∷ earlier) ≤ letter_limit → Begins store (t ∷ earlier) → Filed store n (text t)
  last-filed t earlier n counted few short begins =
      let at = entry_size * length earlier in
      let m = texts_at + letters earlier in
      let stands = begins-stands begins in
      let before : n - 1 ≡ length earlier = omega arith in
      let long : length (text t) ≡ size t = length-text t in
      let starts : start_in (n - 1) store ≡ m =
      ap (λ (k : ℕ). start_in k store) before
      ∙ start-read earlier (omega arith) (omega arith) (begins-earlier (Later.more Later.same) begins) in
      let ends : start_in (n - 1) store + length (text t) ≡ m + size t = omega (arith, starts, long) in
      record {
        print =
            ap (λ (k : ℕ). word_at (entry_size * k) store) before
            ∙ word_read at (print_of (text t)) store (print-small (text t)) (omega arith) stands.print;
        sized =
            ap (λ (k : ℕ). word_at (entry_size * k + 4) store) before
            ∙ size-read t earlier (omega arith) (omega arith) begins
            ∙ sym long;
        spelt = ap₂ (λ (a b : ℕ). part a b store) starts ends ∙ stands.spelt;
      }

-- a result's number says how many came before it
numbered-behind :
    {t : Term} {n : ℕ} {results : List Term} → Numbered t n results →
    (earlier : List Term) × (n ≡ suc (length earlier)) × Later (t ∷ earlier) results
numbered-behind (Numbered.last {earlier = earlier}) = (earlier, refl, Later.same)
numbered-behind (Numbered.before h) =
    let (earlier, counted, later) = numbered-behind h in
    (earlier, counted, later-entry later)

filed :
    (bytes store store' : List ℕ) (e : Entered) → entering_of bytes store ≡ After.after (Reply.answered e) store' →
    Filed store' (entered_number e) bytes
filed bytes store store' e made =
    let (t, results, spelt, normal, kept, numbered, whole) = answered-numbered bytes store store' e made in
    let (few, fit) = catalogue-fits kept.catalogue in
    let (earlier, counted, later) = numbered-behind numbered in
    let long = later-long later in
    let laid = stored-laid store' results few fit kept.stored in
    subst (Filed store' (entered_number e)) (sym spelt)
    (last-filed store' whole t earlier (entered_number e) counted (omega (arith, long.0)) (omega (arith, long.1))
    (begins-earlier later laid.begins))

pub catalogue-says : CatalogueSays
catalogue-says =
    record {
      left_exactly = left_exactly;
      number-bytes = number-bytes;
      again = entered-again;
      in_range = in_range;
      next-number = λ bytes store store' n e. new-last ((enters_exactly bytes store store' (Reply.answered (Entered.new n))).0 e);
      behind = entering_behind;
      filed = filed;
    }
