-- Entries one after the other: a catalogue keeps its results and their numbers, whatever is called; a number is that of the same bytes; and
-- the stores that entries leave of zeros are those that 28 does not refuse. Assumes nothing.
use Prim.Native.Nat.{ℕ, suc, ◌+◌, ◌≤◌}
use native.Mathlib.Omega.{arith}
use mathlib.Core.Path.{◌≡◌, refl, sym, ◌∙◌, ap, subst}
use mathlib.Core.Logic.{◌↔◌}
use mathlib.Core.List.Memᴰ
use mathlib.Core.List.{List, [], ◌∷◌, ◌++◌, Memᴰ}
use mathlib.Core.Option.{Option, none, some}
use lib.ListN.{length, take, drop, replicate, length-append, replicate-append-replicate}
use Rattle.calculus.specs.Term.{Term, text, Normal}
use Rattle.calculus.proofs.PrefixCode.{text_injective}
use Rattle.reading.specs.Reply.{Reply}
use Rattle.entries.specs.Catalogue.{Catalogue, Numbered}
use Rattle.entries.specs.Store.{store_size, store_of, catalogue_in}
use Rattle.entries.specs.Entering.{Entered, entered_number, After, entering_of}
use Rattle.entries.specs.EntersAs.{Keeps, EntersAs}
use Rattle.entries.specs.Calls.{Call, Calls, Left}
use Rattle.entries.proofs.Numbers.{numbered-one, numbered-same}
use Rattle.entries.proofs.Later.{Later, later-numbered, later-later}
use Rattle.entries.proofs.Back.{keeps_exactly, keeps-one}
use Rattle.entries.proofs.Replies.{no_catalogue_entering}
use Rattle.entries.proofs.Exactly.{
  catalogue-long,
  keeps-whole,
  store_keeps,
  store-behind,
  store_long,
  enters_exactly,
  entering_behind,
}

-- ---- one call

-- `NumberedIn bytes number store`: the bytes are a result that has the number in the store's catalogue
abbrev pub NumberedIn : (bytes : List ℕ) (number : ℕ) (store : List ℕ) → Type 0
NumberedIn bytes number store =
    (t : Term) × (results : List Term) × (bytes ≡ text t) × Normal t × Keeps store results × Numbered t number results
    × (store_size ≤ length store)

answered_in :
    {bytes store store' : List ℕ} {e : Entered} → EntersAs bytes store (Reply.answered e) store' → NumberedIn bytes (entered_number e) store'
answered_in (EntersAs.known {results = results} t long k d normal numbered) = (t, results, d, normal, k, numbered, long)
answered_in {store = store} (EntersAs.new {results = results} t long k d normal missing room) =
    let c = Catalogue.entered normal missing room k.catalogue in
    let kept = store_keeps (t ∷ results) (drop store_size store) c in
    let same = store_long (t ∷ results) store c long in
    (t, t ∷ results, d, normal, kept, Numbered.last, omega (arith, same, long))

-- an answered call: the bytes are a result that has the number in the catalogue then
pub answered-numbered :
    (bytes store store' : List ℕ) (e : Entered) → entering_of bytes store ≡ After.after (Reply.answered e) store' →
    (t : Term) × (results : List Term) × (bytes ≡ text t) × Normal t × Keeps store' results × Numbered t (entered_number e) results
    × (store_size ≤ length store')
answered-numbered bytes store store' e made = answered_in ((enters_exactly bytes store store' (Reply.answered e)).0 made)

-- what goes on from a catalogue, in a store
abbrev pub LaterIn : (results : List Term) (store : List ℕ) → Type 0
LaterIn results store = (later : List Term) × Keeps store later × Later results later

enters_keep :
    {bytes store store' : List ℕ} {reply : Reply Entered} {results : List Term} → Keeps store results →
    EntersAs bytes store reply store' → LaterIn results store'
enters_keep {results = results} kept (EntersAs.short h) = (results, kept, Later.same)
enters_keep {results = results} kept (EntersAs.no_catalogue long not) = (results, kept, Later.same)
enters_keep {results = results} kept (EntersAs.unread long k r) = (results, kept, Later.same)
enters_keep {results = results} kept (EntersAs.not-normal t long k d not) = (results, kept, Later.same)
enters_keep {results = results} kept (EntersAs.full t long k d normal missing full) = (results, kept, Later.same)
enters_keep {results = results} kept (EntersAs.known t long k d normal numbered) = (results, kept, Later.same)
enters_keep {store = store} {results = results} kept (EntersAs.new {results = others} t long k d normal missing room) =
    let c = Catalogue.entered normal missing room k.catalogue in
    let later : Later results (t ∷ others) =
    subst (λ (l : List Term). Later l (t ∷ others)) (keeps-one k kept) (Later.more Later.same) in
    (t ∷ others, store_keeps (t ∷ others) (drop store_size store) c, later)

-- ---- calls one after the other

-- they leave the store as long as it was
calls-long : {store store' : List ℕ} {calls : List Call} → Calls store calls store' → length store' ≡ length store
calls-long Calls.done = refl
calls-long {store} (Calls.then {store₁ = store₁} {bytes = bytes} {reply = reply} made rest) =
    calls-long rest ∙ (entering_behind bytes store store₁ reply made).0

calls-later :
    {store store' : List ℕ} {calls : List Call} {results : List Term} → Keeps store results → Calls store calls store' →
    LaterIn results store'
calls-later {results = results} kept Calls.done = (results, kept, Later.same)
calls-later {store} kept (Calls.then {store₁ = store₁} {bytes = bytes} {reply = reply} made rest) =
    let (next, kept₁, first) = enters_keep kept ((enters_exactly bytes store store₁ reply).0 made) in
    let (last, kept₂, others) = calls-later kept₁ rest in
    (last, kept₂, later-later first others)

-- a catalogue stays one, with all its results and their numbers, whatever is called
pub calls-keep :
    {store store' : List ℕ} {calls : List Call} {results : List Term} → store_size ≤ length store → Keeps store results →
    Calls store calls store' → (later : List Term) × Keeps store' later × Later results later
calls-keep long kept led = calls-later kept led

-- what has a number has it after any calls
numbered_stays :
    {bytes store store' : List ℕ} {number : ℕ} {calls : List Call} → NumberedIn bytes number store → Calls store calls store' →
    NumberedIn bytes number store'
numbered_stays (t, results, d, normal, kept, numbered, long) led =
    let (later, kept', goes_on) = calls-later kept led in
    (t, later, d, normal, kept', later-numbered goes_on numbered, omega (arith, long, calls-long led))

-- each answered call's result has its number at the end
pub called-numbered :
    {store store' : List ℕ} {calls : List Call} {bytes : List ℕ} {e : Entered} → Calls store calls store' →
    Memᴰ (Call.made bytes (Reply.answered e)) calls →
    (t : Term) × (results : List Term) × (bytes ≡ text t) × Normal t × Keeps store' results × Numbered t (entered_number e) results
    × (store_size ≤ length store')
called-numbered Calls.done m = absurd (Memᴰ.not-nil m)
called-numbered {store} {bytes = bytes} {e = e} (Calls.then {store₁ = next} {bytes = first} {reply = reply} made rest) (Memᴰ.head here) =
    let same_bytes : bytes ≡ first = cc in
    let same-reply : Reply.answered e ≡ reply = cc in
    let call : entering_of bytes store ≡ After.after (Reply.answered e) next =
    ap (λ (s : List ℕ). entering_of s store) same_bytes ∙ made ∙ ap (λ (r : Reply Entered). After.after r next) (sym same-reply) in
    numbered_stays (answered-numbered bytes store next e call) rest
called-numbered (Calls.then made rest) (Memᴰ.tail m) = called-numbered rest m

-- any two answered calls, in any order, with any calls before, between and behind them, on any store: one number exactly for the same bytes
pub number-bytes :
    (store store' bytes₁ bytes₂ : List ℕ) (calls : List Call) (e₁ e₂ : Entered) → Calls store calls store' →
    Memᴰ (Call.made bytes₁ (Reply.answered e₁)) calls → Memᴰ (Call.made bytes₂ (Reply.answered e₂)) calls →
    (entered_number e₁ ≡ entered_number e₂) ↔ (bytes₁ ≡ bytes₂)
number-bytes store store' bytes₁ bytes₂ calls e₁ e₂ led m₁ m₂ =
    let (t, results, spelt₁, normal₁, kept₁, numbered₁, long₁) = called-numbered led m₁ in
    let (u, others, spelt₂, normal₂, kept₂, numbered₂, long₂) = called-numbered led m₂ in
    let numbered : Numbered u (entered_number e₂) results =
    subst (Numbered u (entered_number e₂)) (keeps-one kept₂ kept₁) numbered₂ in (
      λ (e : entered_number e₁ ≡ entered_number e₂).
          spelt₁ ∙ ap text (numbered-same (subst (λ (n : ℕ). Numbered t n results) e numbered₁) numbered) ∙ sym spelt₂,
      λ (e : bytes₁ ≡ bytes₂).
          numbered-one kept₁.catalogue numbered₁
          (subst (λ (v : Term). Numbered v (entered_number e₂) results) (text_injective u t (sym spelt₂ ∙ sym e ∙ spelt₁)) numbered),
    )

-- entered again after any further calls, a result is known by its number and the store stays
pub entered-again :
    (store store' bytes : List ℕ) (calls : List Call) (e : Entered) → Calls store calls store' →
    Memᴰ (Call.made bytes (Reply.answered e)) calls →
    entering_of bytes store' ≡ After.after (Reply.answered (Entered.known (entered_number e))) store'
entered-again store store' bytes calls e led m =
    let (t, results, spelt, normal, kept, numbered, long) = called-numbered led m in
    (enters_exactly bytes store' store' (Reply.answered (Entered.known (entered_number e)))).1
    (EntersAs.known t long kept spelt normal numbered)

-- ---- from zeros

-- a call behind others
calls-then :
    {store store₁ store₂ : List ℕ} {calls : List Call} (bytes : List ℕ) (reply : Reply Entered) → Calls store calls store₁ →
    entering_of bytes store₁ ≡ After.after reply store₂ → Calls store (calls ++ (Call.made bytes reply ∷ [])) store₂
calls-then bytes reply Calls.done made = Calls.then made Calls.done
calls-then bytes reply (Calls.then first rest) made = Calls.then first (calls-then bytes reply rest made)

-- the store of no results is zeros
pub empty-store : store_of [] ≡ replicate store_size 0
unfolding store_of
empty-store = replicate-append-replicate 2048 65536 0

-- calls that enter the results of a catalogue one after the other, in a store of zeros
filled :
    {results : List Term} → Catalogue results → (behind : List ℕ) →
    (calls : List Call) × Calls (replicate store_size 0 ++ behind) calls (store_of results ++ behind)
filled Catalogue.empty behind =
    ([], subst (λ (s : List ℕ). Calls (replicate store_size 0 ++ behind) [] (s ++ behind)) (sym empty-store) Calls.done)
filled (Catalogue.entered {t = t} {earlier = earlier} normal missing room c) behind =
    let (calls, led) = filled c behind in
    let store = store_of earlier ++ behind in
    let whole : length store ≡ length (store_of earlier) + length behind = length-append (store_of earlier) behind in
    let long : store_size ≤ length store = omega (arith, whole, catalogue-long c) in
    let kept : Keeps store earlier = store_keeps earlier behind c in
    let reply : Reply Entered = Reply.answered (Entered.new (suc (length earlier))) in
    let made : entering_of (text t) store ≡ After.after reply (store_of (t ∷ earlier) ++ drop store_size store) =
    (enters_exactly (text t) store (store_of (t ∷ earlier) ++ drop store_size store) reply).1
    (EntersAs.new t long kept refl normal missing room) in
    let there : entering_of (text t) store ≡ After.after reply (store_of (t ∷ earlier) ++ behind) =
    made ∙ ap (λ (s : List ℕ). After.after reply (store_of (t ∷ earlier) ++ s)) (store-behind earlier behind c) in
    (calls ++ (Call.made (text t) reply ∷ []), calls-then (text t) reply led there)

-- entries leave of zeros every store that keeps a catalogue
keeps-left : (store : List ℕ) (results : List Term) → Keeps store results → Left store
keeps-left store results kept =
    let (calls, led) = filled kept.catalogue (drop store_size store) in
    record {
      calls = calls;
      led =
          subst (Calls (replicate store_size 0 ++ drop store_size store) calls) (keeps-whole store results kept) led;
    }

-- and no other
left-keeps : (store : List ℕ) → Left store → (results : List Term) × Keeps store results
left-keeps store left =
    let behind = drop store_size store in
    let kept : Keeps (replicate store_size 0 ++ behind) [] =
    subst (λ (s : List ℕ). Keeps (s ++ behind) []) empty-store (store_keeps [] behind Catalogue.empty) in
    let (later, kept', goes_on) = calls-later kept left.led in
    (later, kept')

-- 28 refuses only what keeps no catalogue
refused_none :
    {bytes store store' : List ℕ} → EntersAs bytes store (Reply.refused 28 0) store' → (results : List Term) → Keeps store results → ⊥
refused_none (EntersAs.no_catalogue long not) results kept = not results kept
refused_none (EntersAs.unread long k r) results kept = elim r [ ]

-- the stores that 28 does not refuse are those that entries leave of zeros
pub left_exactly :
    (bytes store : List ℕ) → store_size ≤ length store →
    ((store' : List ℕ) → entering_of bytes store ≡ After.after (Reply.refused 28 0) store' → ⊥) ↔ Left store
left_exactly bytes store long = (λ not. go not (catalogue_in (take store_size store)) refl, λ left store' e. back left store' e)
  where
    go :
        ((store' : List ℕ) → entering_of bytes store ≡ After.after (Reply.refused 28 0) store' → ⊥) →
        (found : Option (List Term)) → catalogue_in (take store_size store) ≡ found → Left store
    go not none e = absurd (not store (no_catalogue_entering bytes store long e))
    go not (some results) e = keeps-left store results ((keeps_exactly store results).0 e)

    back : Left store → (store' : List ℕ) → entering_of bytes store ≡ After.after (Reply.refused 28 0) store' → ⊥
    back left store' e =
        let (results, kept) = left-keeps store left in
        refused_none ((enters_exactly bytes store store' (Reply.refused 28 0)).0 e) results kept
