-- What an entry comes to in the relation: the function is the relation. And what every entry leaves as it was. Assumes nothing.
use Prim.Native.Nat.{ℕ, ◌≤◌}
use native.Mathlib.Omega.{arith}
use mathlib.Core.Path.{◌≡◌, refl, sym, ◌∙◌, ap, ap₂, subst}
use mathlib.Core.Logic.{◌↔◌}
use mathlib.Core.Bool.{Bool, true, false}
use mathlib.Core.List.Memᴰ
use mathlib.Core.List.{List, [], ◌∷◌, ◌++◌}
use mathlib.Core.Option.{Option, none, some}
use borrow.Author.Tests.{ltb-true, ltb-false, eqb-true, eqb-false}
use lib.Dec.{ltb, eqb}
use lib.ListN.{length, take, drop, length-append, length-drop, take-append-drop}
use lib.Seq.{take_at, drop_at}
use Rattle.calculus.specs.Term.{Term, text, Normal}
use Rattle.reading.specs.Reply.{Reply, Refuses}
use Rattle.reading.specs.Reading.{reading_of, ReadsAs, term_read}
use Rattle.reading.specs.Stop.{has_stop}
use Rattle.reading.proofs.Numbers.{Unread, reading_refused}
use Rattle.reading.proofs.Whole.{reads_as, reads_as_only}
use Rattle.reading.proofs.Terms.{term-read, whole-read, refused-read}
use Rattle.reading.proofs.Stops.{no_stop-normal, stop-not-normal}
use Rattle.entries.specs.Catalogue.{Room, Catalogue, number_of, has_room}
use Rattle.entries.specs.Store.{store_size, store_of, catalogue_in}
use Rattle.entries.specs.Entering.{Entered, After, entering_of}
use Rattle.entries.specs.EntersAs.{Keeps, EntersAs}
use Rattle.entries.proofs.Numbers.{
  number-none,
  none_number,
  number-some,
  numbered_positive,
  numbered-number,
  room-test,
  catalogue-fits,
}
use Rattle.entries.proofs.Laid.{length-store}
use Rattle.entries.proofs.Replies.{
  short_entering,
  no_catalogue_entering,
  unread-entering,
  stop-entering,
  known-entering,
  full-entering,
  new-entering,
}
use Rattle.entries.proofs.Back.{keeps_exactly, keeps-none}

-- ---- stores

-- a catalogue's store is as long as it says
pub catalogue-long : {results : List Term} → Catalogue results → length (store_of results) ≡ store_size
catalogue-long {results} c = let (few, short) = catalogue-fits c in length-store results few short

-- bytes that keep a catalogue are its store and what stands behind it
pub keeps-whole : (store : List ℕ) (results : List Term) → Keeps store results → store_of results ++ drop store_size store ≡ store
keeps-whole store results k =
    ap (λ (s : List ℕ). s ++ drop store_size store) (sym k.stored) ∙ take-append-drop store_size store

-- a catalogue's store keeps it, whatever stands behind
pub store_keeps : (results : List Term) (behind : List ℕ) → Catalogue results → Keeps (store_of results ++ behind) results
store_keeps results behind c =
    record { catalogue = c; stored = take_at (store_of results) behind store_size (catalogue-long c) }

-- and behind it that stands
pub store-behind :
    (results : List Term) (behind : List ℕ) → Catalogue results → drop store_size (store_of results ++ behind) ≡ behind
store-behind results behind c = drop_at (store_of results) behind store_size (catalogue-long c)

-- put in the place of as many bytes, it makes nothing longer
pub store_long :
    (results : List Term) (store : List ℕ) → Catalogue results → store_size ≤ length store →
    length (store_of results ++ drop store_size store) ≡ length store
store_long results store c long =
    let whole = length-append (store_of results) (drop store_size store) in
    omega (arith, whole, catalogue-long c, length-drop store_size store, long)

-- ---- tests

-- a term that is not normal has a full stop
has_stop_lem : (t : Term) → (Normal t → ⊥) → has_stop (text t) ≡ true
has_stop_lem t not = go (has_stop (text t)) refl
  where
    go : (b : Bool) → has_stop (text t) ≡ b → has_stop (text t) ≡ true
    go true e = e
    go false e = absurd (not (no_stop-normal t e))

-- a normal one has none
no_stop : (t : Term) → Normal t → has_stop (text t) ≡ false
no_stop t n = go (has_stop (text t)) refl
  where
    go : (b : Bool) → has_stop (text t) ≡ b → has_stop (text t) ≡ false
    go true e = absurd (stop-not-normal t e n)
    go false e = e

-- where there is no room, the test says so
no_room : (t : Term) (results : List Term) → (Room t results → ⊥) → has_room t results ≡ false
no_room t results not = go (has_room t results) refl
  where
    go : (b : Bool) → has_room t results ≡ b → has_room t results ≡ false
    go true e = absurd (not ((room-test t results).0 e))
    go false e = e

-- ---- what the function answers is in the relation

-- what the definition answers and leaves, in the relation
abbrev pub EntersTo : (bytes store : List ℕ) → After → Type 0
EntersTo bytes store (After.after reply store') = EntersAs bytes store reply store'

module _ (bytes store : List ℕ) where
  abbrev Enters : Type 0
  Enters = EntersTo bytes store (entering_of bytes store)

  by :
      {reply : Reply Entered} {store' : List ℕ} → entering_of bytes store ≡ After.after reply store' →
      EntersAs bytes store reply store' → Enters
  by e found = subst (EntersTo bytes store) (sym e) found

  module _ (long : store_size ≤ length store) where
    module _ (results : List Term) (found : catalogue_in (take store_size store) ≡ some results) where
      kept : Keeps store results
      kept = (keeps_exactly store results).0 found

      module _ (t : Term) (spelt : bytes ≡ text t) where
        read : term_read bytes ≡ Reply.answered t
        read = ap term_read spelt ∙ term-read t

        module _ (clear : has_stop (text t) ≡ false) where
          normal : Normal t
          normal = no_stop-normal t clear

          by-room : (none-there : number_of t results ≡ 0) (room : Bool) → has_room t results ≡ room → Enters
          by-room none-there true e =
              by
              (new-entering bytes store results long found t read clear none-there e)
              (EntersAs.new t long kept spelt normal (number-none t results none-there) ((room-test t results).0 e))
          by-room none-there false e =
              let full : Room t results → ⊥ = λ r. full-not e ((room-test t results).1 r) in
              by
              (full-entering bytes store results long found t read clear none-there e)
              (EntersAs.full t long kept spelt normal (number-none t results none-there) full)
            where
              full-not : {b : Bool} → b ≡ false → b ≡ true → ⊥
              full-not d e = let z : ◌≡◌ {A = ℕ} 0 1 = cc in omega (arith, z)

          by_number : (missing : Bool) → eqb (number_of t results) 0 ≡ missing → Enters
          by_number true e = by-room (eqb-true (number_of t results) 0 e) (has_room t results) refl
          by_number false e =
              let there = eqb-false (number_of t results) 0 e in
              by
              (known-entering bytes store results long found t read clear there
              ∙ ap (After.after (Reply.answered (Entered.known (number_of t results)))) (keeps-whole store results kept))
              (EntersAs.known t long kept spelt normal (number-some t results there))

        by-stop : (stop : Bool) → has_stop (text t) ≡ stop → Enters
        by-stop true e =
            by
            (stop-entering bytes store results long found t read e)
            (EntersAs.not-normal t long kept spelt (stop-not-normal t e))
        by-stop false e = by_number e (eqb (number_of t results) 0) refl

      by-reading : (reading : Reply ℕ) → reading_of bytes ≡ reading → Enters
      by-reading (Reply.refused number place) e =
          by
          (unread-entering bytes store results long found number place (refused-read bytes number place (sym e)))
          (EntersAs.unread long kept (subst (ReadsAs bytes) e (reads_as bytes)))
      by-reading (Reply.answered n) e =
          let (t, spelt, sized, read) = whole-read bytes n (sym e) in
          by-stop t spelt (has_stop (text t)) refl

    by-catalogue : (found : Option (List Term)) → catalogue_in (take store_size store) ≡ found → Enters
    by-catalogue none e =
        let not : (results : List Term) → Keeps store results → ⊥ =
        λ results k. differ (sym e ∙ (keeps_exactly store results).1 k) in
        by (no_catalogue_entering bytes store long e) (EntersAs.no_catalogue long not)
      where
        differ : {results : List Term} → none ≡ some results → ⊥
        differ e = let z : ◌≡◌ {A = ℕ} 0 1 = cc in omega (arith, z)
    by-catalogue (some results) e = by-reading results e (reading_of bytes) refl

  by_length : (short : Bool) → ltb (length store) store_size ≡ short → Enters
  by_length true e = let h = ltb-true (length store) store_size e in by (short_entering bytes store h) (EntersAs.short h)
  by_length false e = by-catalogue (ltb-false (length store) store_size e) (catalogue_in (take store_size store)) refl

pub enters-to : (bytes store : List ℕ) → EntersTo bytes store (entering_of bytes store)
enters-to bytes store = by_length bytes store (ltb (length store) store_size) refl

-- ---- and nothing else is

enters-only :
    {bytes store store' : List ℕ} {reply : Reply Entered} → EntersAs bytes store reply store' →
    entering_of bytes store ≡ After.after reply store'
enters-only {bytes} {store} (EntersAs.short h) = short_entering bytes store h
enters-only {bytes} {store} (EntersAs.no_catalogue long not) = no_catalogue_entering bytes store long (keeps-none store not)
enters-only {bytes} {store} (EntersAs.unread {results = results} {number = number} {place = place} long k r) =
    unread-entering bytes store results long ((keeps_exactly store results).1 k) number place
    (refused-read bytes number place (sym (reads_as_only r)))
enters-only {bytes} {store} (EntersAs.not-normal {results = results} t long k d not) =
    stop-entering bytes store results long ((keeps_exactly store results).1 k) t (ap term_read d ∙ term-read t) (has_stop_lem t not)
enters-only {bytes} {store} (EntersAs.full {results = results} t long k d normal missing full) =
    full-entering bytes store results long ((keeps_exactly store results).1 k) t (ap term_read d ∙ term-read t) (no_stop t normal)
    (none_number t results missing)
    (no_room t results full)
enters-only {bytes} {store} (EntersAs.known {results = results} {n = n} t long k d normal numbered) =
    let counted = numbered-number k.catalogue numbered in
    let positive = numbered_positive numbered in
    let there : ¬ (number_of t results ≡ 0) = λ e. omega (arith, e, counted, positive) in
    known-entering bytes store results long ((keeps_exactly store results).1 k) t (ap term_read d ∙ term-read t) (no_stop t normal) there
    ∙ ap₂ (λ (m : ℕ) (s : List ℕ). After.after (Reply.answered (Entered.known m)) s) counted (keeps-whole store results k)
enters-only {bytes} {store} (EntersAs.new {results = results} t long k d normal missing room) =
    new-entering bytes store results long ((keeps_exactly store results).1 k) t (ap term_read d ∙ term-read t) (no_stop t normal)
    (none_number t results missing)
    ((room-test t results).1 room)

-- the function is the relation
pub enters_exactly :
    (bytes store store' : List ℕ) (reply : Reply Entered) →
    (entering_of bytes store ≡ After.after reply store') ↔ EntersAs bytes store reply store'
enters_exactly bytes store store' reply = (λ e. subst (EntersTo bytes store) e (enters-to bytes store), enters-only)

-- ---- refusals

-- 2, 28, 29 and 30, and reading's own; a refusal leaves the store as it is
abbrev pub EntryRefuses : (bytes : List ℕ) (number place : ℕ) → Type 0
EntryRefuses bytes number place = Refuses (2 ∷ 28 ∷ 29 ∷ 30 ∷ []) (5 ∷ 6 ∷ 7 ∷ []) 0 (length bytes) number place

entry-refused :
    {bytes store store' : List ℕ} {number place : ℕ} → EntersAs bytes store (Reply.refused number place) store' →
    EntryRefuses bytes number place × (store' ≡ store)
entry-refused (EntersAs.short h) = (Refuses.at_zero (Memᴰ.head refl) refl, refl)
entry-refused (EntersAs.no_catalogue long not) = (Refuses.at_zero (Memᴰ.tail (Memᴰ.head refl)) refl, refl)
entry-refused {bytes = bytes} {number = number} {place = place} (EntersAs.unread long k r) =
    (listed (reading_refused bytes number place (reads_as_only r)), refl)
  where
    listed : Unread (length bytes) number place → EntryRefuses bytes number place
    listed (Refuses.at_zero m here) = absurd (elim m [ ])
    listed (Refuses.at_place m low high) = Refuses.at_place m low high
entry-refused (EntersAs.not-normal t long k d not) =
    (Refuses.at_zero (Memᴰ.tail (Memᴰ.tail (Memᴰ.head refl))) refl, refl)
entry-refused (EntersAs.full t long k d _ missing full) =
    (Refuses.at_zero (Memᴰ.tail (Memᴰ.tail (Memᴰ.tail (Memᴰ.head refl)))) refl, refl)

-- what an entry refuses is listed, and changes nothing
pub entering_refuses :
    (bytes store store' : List ℕ) (number place : ℕ) → entering_of bytes store ≡ After.after (Reply.refused number place) store' →
    Refuses (2 ∷ 28 ∷ 29 ∷ 30 ∷ []) (5 ∷ 6 ∷ 7 ∷ []) 0 (length bytes) number place × (store' ≡ store)
entering_refuses bytes store store' number place e = entry-refused ((enters_exactly bytes store store' (Reply.refused number place)).0 e)

-- ---- what stays

enters-behind :
    {bytes store store' : List ℕ} {reply : Reply Entered} → EntersAs bytes store reply store' →
    (length store' ≡ length store) × (drop store_size store' ≡ drop store_size store)
enters-behind (EntersAs.short h) = (refl, refl)
enters-behind (EntersAs.no_catalogue long not) = (refl, refl)
enters-behind (EntersAs.unread long k r) = (refl, refl)
enters-behind (EntersAs.not-normal t long k d not) = (refl, refl)
enters-behind (EntersAs.full t long k d _ missing full) = (refl, refl)
enters-behind (EntersAs.known t long k d normal numbered) = (refl, refl)
enters-behind {store = store} (EntersAs.new {results = results} t long k d normal missing room) =
    let c = Catalogue.entered normal missing room k.catalogue in
    (store_long (t ∷ results) store c long, store-behind (t ∷ results) (drop store_size store) c)

-- every call leaves the store as long as it was, and what stands behind its bytes
pub entering_behind :
    (bytes store store' : List ℕ) (reply : Reply Entered) → entering_of bytes store ≡ After.after reply store' →
    (length store' ≡ length store) × (drop store_size store' ≡ drop store_size store)
entering_behind bytes store store' reply e = enters-behind ((enters_exactly bytes store store' reply).0 e)
