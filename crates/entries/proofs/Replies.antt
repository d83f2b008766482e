-- What an entry comes to, by what is known of the store and of the bytes: one law for each reply. Assumes nothing.
use Prim.Native.Nat.{ℕ, suc, ◌≤◌, ◌<◌}
use mathlib.Core.Path.{◌≡◌, ◌∙◌, ap}
use mathlib.Core.Bool.{Bool, true, false, not, cond}
use mathlib.Core.List.{List, ◌∷◌, ◌++◌}
use mathlib.Core.Option.{Option, none, some}
use borrow.Author.Tests.{lt-ltb, le-ltb, eq-eqb, ne_eqb}
use lib.ListN.{length, take, drop}
use Rattle.calculus.specs.Term.{Term, text}
use Rattle.reading.specs.Reply.{Reply, refuse_if, onward}
use Rattle.reading.specs.Reading.{term_read}
use Rattle.reading.specs.Stop.{has_stop}
use Rattle.entries.specs.Catalogue.{number_of, has_room}
use Rattle.entries.specs.Store.{store_size, store_of, catalogue_in}
use Rattle.entries.specs.Entering.{Entered, After, Entry, catalogued, catalogue_for, if_normal, entry_in, left, entering_of}

-- ---- 2 and 28, by the store

module _ (store : List ℕ) where
  abbrev by_length : Bool → Reply (List Term)
  by_length short = refuse_if short 2 (catalogued (catalogue_in (take store_size store)))

  store-short : length store < store_size → catalogue_for store ≡ Reply.refused 2 0
  store-short h = ap by_length (lt-ltb (length store) store_size h)

  store_long :
      store_size ≤ length store → {found : Option (List Term)} → catalogue_in (take store_size store) ≡ found →
      catalogue_for store ≡ catalogued found
  store_long h e = ap by_length (le-ltb (length store) store_size h) ∙ ap catalogued e

-- ---- 30, by the catalogue and the term

module _ (t : Term) (results : List Term) where
  abbrev as-known : Reply Entry
  as-known = Reply.answered (Entry.entry (Entered.known (number_of t results)) results)

  abbrev as-new : Reply Entry
  as-new = Reply.answered (Entry.entry (Entered.new (suc (length results))) (t ∷ results))

  abbrev by-room : Bool → Reply Entry
  by-room room = refuse_if (not room) 30 as-new

  abbrev by_number : Bool → Reply Entry
  by_number missing = cond missing (by-room (has_room t results)) as-known

  entry_known : ¬ (number_of t results ≡ 0) → entry_in t results ≡ as-known
  entry_known h = ap by_number (ne_eqb (number_of t results) 0 h)

  entry-missing : number_of t results ≡ 0 → {room : Bool} → has_room t results ≡ room → entry_in t results ≡ by-room room
  entry-missing h e = ap by_number (eq-eqb (number_of t results) 0 h) ∙ ap by-room e

-- ---- the call

module _ (bytes store : List ℕ) where
  abbrev by-term : Reply Term → (results : List Term) → Reply Entry
  by-term x results = onward (onward x if_normal) (λ t. entry_in t results)

  by-store :
      {x : Reply (List Term)} → catalogue_for store ≡ x → entering_of bytes store ≡ left (onward x (by-term (term_read bytes))) store
  unfolding entering_of
  by-store e = ap (λ (x : Reply (List Term)). left (onward x (by-term (term_read bytes))) store) e

-- a store that is too short
pub short_entering :
    (bytes store : List ℕ) → length store < store_size → entering_of bytes store ≡ After.after (Reply.refused 2 0) store
short_entering bytes store h = by-store bytes store (store-short store h)

-- bytes that are the store of no catalogue
pub no_catalogue_entering :
    (bytes store : List ℕ) → store_size ≤ length store → catalogue_in (take store_size store) ≡ none →
    entering_of bytes store ≡ After.after (Reply.refused 28 0) store
no_catalogue_entering bytes store long e = by-store bytes store (store_long store long e)

module _
    (bytes store : List ℕ) (results : List Term) (long : store_size ≤ length store)
    (found : catalogue_in (take store_size store) ≡ some results)
  where
    by-reading :
        {x : Reply Term} → term_read bytes ≡ x → entering_of bytes store ≡ left (by-term bytes store x results) store
    by-reading e =
        by-store bytes store (store_long store long found)
        ∙ ap (λ (x : Reply Term). left (by-term bytes store x results) store) e

    -- what reading refuses
    pub unread-entering :
        (number place : ℕ) → term_read bytes ≡ Reply.refused number place →
        entering_of bytes store ≡ After.after (Reply.refused number place) store
    unread-entering number place e = by-reading e

    module _ (t : Term) (read : term_read bytes ≡ Reply.answered t) where
      abbrev by-stop : Bool → After
      by-stop stop = left (onward (refuse_if stop 29 (Reply.answered t)) (λ u. entry_in u results)) store

      -- a term that is not normal
      pub stop-entering : has_stop (text t) ≡ true → entering_of bytes store ≡ After.after (Reply.refused 29 0) store
      stop-entering e = by-reading read ∙ ap by-stop e

      module _ (normal : has_stop (text t) ≡ false) where
        by-entry : {x : Reply Entry} → entry_in t results ≡ x → entering_of bytes store ≡ left x store
        by-entry e = by-reading read ∙ ap by-stop normal ∙ ap (λ (x : Reply Entry). left x store) e

        -- a result that is there
        pub known-entering :
            ¬ (number_of t results ≡ 0) →
            entering_of bytes store
            ≡ After.after (Reply.answered (Entered.known (number_of t results))) (store_of results ++ drop store_size store)
        known-entering h = by-entry (entry_known t results h)

        -- one for which there is no room
        pub full-entering :
            number_of t results ≡ 0 → has_room t results ≡ false → entering_of bytes store ≡ After.after (Reply.refused 30 0) store
        full-entering h e = by-entry (entry-missing t results h e)

        -- a new result
        pub new-entering :
            number_of t results ≡ 0 → has_room t results ≡ true →
            entering_of bytes store
            ≡ After.after (Reply.answered (Entered.new (suc (length results)))) (store_of (t ∷ results) ++ drop store_size store)
        new-entering h e = by-entry (entry-missing t results h e)
