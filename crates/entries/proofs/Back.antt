-- From a store back to its catalogue: its results are those that it was made of, so bytes are the store of one catalogue at most.
-- Assumes nothing.
use Prim.Native.Nat.{ℕ, suc, ◌+◌, ◌*◌, ◌-◌, ◌≤◌, ◌<◌}
use native.Mathlib.Omega.{arith}
use native.Mathlib.Decide.{dec_le}
use mathlib.Core.Path.{◌≡◌, refl, sym, ◌∙◌, ap, ap₂}
use mathlib.Core.Logic.{◌↔◌}
use mathlib.Core.Bool.{Bool, true, false, cond, ◌&&◌}
use mathlib.Core.List.{List, ◌∷◌}
use mathlib.Core.Option.{Option, none, some}
use lib.ListN.{length, take, drop, replicate}
use lib.Seq.{take_all, drop-drop}
use Rattle.calculus.specs.Term.{Term, text, size}
use Rattle.calculus.specs.Parse.{term_of}
use Rattle.calculus.proofs.PrefixCode.{term_of-text}
use Rattle.slices.specs.Same.{same}
use Rattle.slices.specs.Part.{part}
use Rattle.slices.proofs.Same.{equal_same, same_equal}
use Rattle.slices.proofs.Part.{part-part}
use Rattle.slices.proofs.Decimal.{and_both}
use Rattle.words.specs.Word.{word_of, word_in}
use Rattle.entries.specs.Catalogue.{entry_limit, letter_limit, letters, Catalogue, is_catalogue}
use Rattle.entries.specs.Store.{entry_size, texts_at, store_size, store_of, or_end, results_from, results_in, catalogue_in}
use Rattle.entries.specs.EntersAs.{Keeps}
use Rattle.entries.proofs.Numbers.{catalogue_test, catalogue-fits}
use Rattle.entries.proofs.Later.{Later, later-all, later-long}
use Rattle.entries.proofs.Laid.{Laid, Stands, length-store, stored-laid, begins-earlier, begins-stands, part-size, word-front}

-- ---- one result

module _ (left : ℕ) (entries texts : List ℕ) (results : List Term) where
  -- a length and its text say a result
  one_more :
      (n : ℕ) (t : Term) → word_in (drop 4 entries) ≡ n → take n texts ≡ text t →
      results_from (suc left) entries texts results ≡ results_from left (drop entry_size entries) (drop n texts) (t ∷ results)
  one_more n t e spelt =
      ap (λ (k : ℕ). or_end (term_of (take k texts)) results (λ u. results_from left (drop entry_size entries) (drop k texts) (u ∷ results))) e
      ∙ ap (λ (o : Option Term). or_end o results (λ u. results_from left (drop entry_size entries) (drop n texts) (u ∷ results)))
      (ap term_of spelt ∙ term_of-text t)

  -- the length 0 ends them
  no_more : word_in (drop 4 entries) ≡ 0 → results_from (suc left) entries texts results ≡ results
  unfolding term_of
  no_more e =
      ap (λ (k : ℕ). or_end (term_of (take k texts)) results (λ u. results_from left (drop entry_size entries) (drop k texts) (u ∷ results))) e

-- where eight zeros stand, the last four say 0
zero_word : (n : ℕ) → 8 ≤ n → part 4 8 (replicate n 0) ≡ word_of 0
zero_word n h = go (n - 8) (omega arith)
  where
    go : (k : ℕ) → n ≡ suc (suc (suc (suc (suc (suc (suc (suc k))))))) → part 4 8 (replicate n 0) ≡ word_of 0
    go k e = ap (λ (j : ℕ). part 4 8 (replicate j 0)) e

-- so behind the last entry the next size is 0
pub unused-word :
    (store : List ℕ) (a : List Term) → length a < entry_limit → Laid store a →
    part (entry_size * length a + 4) (entry_size * length a + 8) store ≡ word_of 0
unused-word store a room laid =
    let at = entry_size * length a in
    sym (part-part 4 8 at texts_at store (omega arith))
    ∙ ap (part 4 8) laid.unused
    ∙ zero_word (texts_at - at) (omega arith)

-- ---- all results

module _ (store : List ℕ) where
  -- what the store says behind the results a
  abbrev onFrom : List Term → List Term
  onFrom a = results_from (entry_limit - length a) (drop (entry_size * length a) store) (drop (texts_at + letters a) store) a

  -- where a result stands, it is said
  on-more : (t : Term) (a : List Term) → length a < entry_limit → size t ≤ letter_limit → Stands store t a → onFrom a ≡ onFrom (t ∷ a)
  on-more t a few short stands =
      let at = entry_size * length a in
      let m = texts_at + letters a in
      let left = entry_limit - length (t ∷ a) in
      let count : entry_limit - length a ≡ suc left = omega arith in
      let eight : at + 4 + 4 ≡ at + 8 = omega arith in
      let long : word_in (drop 4 (drop at store)) ≡ size t =
      ap word_in (drop-drop 4 at store)
      ∙ word-front (at + 4) (size t) store (omega arith) (ap (λ (k : ℕ). part (at + 4) k store) eight ∙ stands.long) in
      let spelt : take (size t) (drop m store) ≡ text t = sym (part-size m (size t) store) ∙ stands.spelt in
      let next : at + 8 ≡ entry_size * length (t ∷ a) = omega arith in
      let ends : m + size t ≡ texts_at + letters (t ∷ a) = omega arith in
      ap (λ (k : ℕ). results_from k (drop at store) (drop m store) a) count
      ∙ one_more left (drop at store) (drop m store) a (size t) t long spelt
      ∙ ap₂ (λ (e x : List ℕ). results_from left e x (t ∷ a))
      (drop-drop 8 at store ∙ ap (λ (k : ℕ). drop k store) next)
      (drop-drop (size t) m store ∙ ap (λ (k : ℕ). drop k store) ends)

  -- where zeros stand, no more is said
  on-end : (a : List Term) → length a ≤ entry_limit → Laid store a → onFrom a ≡ a
  on-end a few laid = go (dec_le entry_limit (length a))
    where
      go : Dec (entry_limit ≤ length a) → onFrom a ≡ a
      go (yes full) =
          let at = entry_size * length a in
          let count : entry_limit - length a ≡ 0 = omega arith in
          ap (λ (k : ℕ). results_from k (drop at store) (drop (texts_at + letters a) store) a) count
      go (no room) =
          let at = entry_size * length a in
          let m = texts_at + letters a in
          let left = entry_limit - suc (length a) in
          let count : entry_limit - length a ≡ suc left = omega arith in
          let eight : at + 4 + 4 ≡ at + 8 = omega arith in
          let nothing : part (at + 4) (at + 8) store ≡ word_of 0 = unused-word store a (omega arith) laid in
          let long : word_in (drop 4 (drop at store)) ≡ 0 =
          ap word_in (drop-drop 4 at store)
          ∙ word-front (at + 4) 0 store (omega arith) (ap (λ (k : ℕ). part (at + 4) k store) eight ∙ nothing) in
          ap (λ (k : ℕ). results_from k (drop at store) (drop m store) a) count
          ∙ no_more left (drop at store) (drop m store) a long

  -- so all results are said
  on-later : {a b : List Term} → Later a b → length b ≤ entry_limit → letters b ≤ letter_limit → Laid store b → onFrom a ≡ b
  on-later {a} Later.same few short laid = on-end a few laid
  on-later {a} (Later.more {t = t} l) few short laid =
      let long = later-long l in
      on-more t a (omega (arith, long.0)) (omega (arith, long.1)) (begins-stands (begins-earlier l laid.begins))
      ∙ on-later l few short laid

-- the results of a store are those that it was made of
pub results-back : (results : List Term) → Catalogue results → results_in (store_of results) ≡ results
results-back results c =
    let (few, short) = catalogue-fits c in
    let size = length-store results few short in
    on-later (store_of results) (later-all results) few short
    (stored-laid (store_of results) results few short (take_all store_size (store_of results) (omega arith)))

-- ---- the catalogue of a store

-- where a test decides between an answer and none, an answer says that it held
decided : {A : Type 0} (b : Bool) (r a : A) → cond b (some r) none ≡ some a → (b ≡ true) × (r ≡ a)
decided true r a e = (refl, cc)
decided false r a e = let z : ◌≡◌ {A = ℕ} 0 1 = cc in absurd (omega arith)

-- whether bytes are the store of results
abbrev is_store_of : (results : List Term) (store : List ℕ) → Bool
is_store_of results store = is_catalogue results && same (store_of results) store

-- it says that they are a catalogue and these its store
store_test : (results : List Term) (store : List ℕ) → (is_store_of results store ≡ true) ↔ (Catalogue results × (store ≡ store_of results))
store_test results store = (λ e. says e, λ k. holds k.0 k.1)
  where
    says : is_store_of results store ≡ true → Catalogue results × (store ≡ store_of results)
    says e =
        let (good, equal) = and_both (is_catalogue results) (same (store_of results) store) e in
        ((catalogue_test results).0 good, sym (same_equal (store_of results) store equal))

    holds : Catalogue results → store ≡ store_of results → is_store_of results store ≡ true
    holds c e = ap₂ ◌&&◌ ((catalogue_test results).1 c) (equal_same (store_of results) store (sym e))

-- bytes have that catalogue exactly if they are its store
pub catalogue_exactly :
    (store : List ℕ) (results : List Term) → (catalogue_in store ≡ some results) ↔ (Catalogue results × (store ≡ store_of results))
unfolding catalogue_in
catalogue_exactly store results = (λ e. says e, λ k. holds k.0 k.1)
  where
    answer_of : List Term → Option (List Term)
    answer_of found = cond (is_store_of found store) (some found) none

    says : answer_of (results_in store) ≡ some results → Catalogue results × (store ≡ store_of results)
    says e =
        let (held, found) = decided (is_store_of (results_in store) store) (results_in store) results e in
        (store_test results store).0 (ap (λ (l : List Term). is_store_of l store) (sym found) ∙ held)

    holds : Catalogue results → store ≡ store_of results → answer_of (results_in store) ≡ some results
    holds c e =
        ap answer_of (ap results_in e ∙ results-back results c)
        ∙ ap (λ (b : Bool). cond b (some results) none) ((store_test results store).1 (c, e))

-- and of a longer list the first bytes count
pub keeps_exactly : (store : List ℕ) (results : List Term) → (catalogue_in (take store_size store) ≡ some results) ↔ Keeps store results
keeps_exactly store results = (λ e. says e, λ k. exactly.1 (k.catalogue, k.stored))
  where
    exactly : (catalogue_in (take store_size store) ≡ some results) ↔ (Catalogue results × (take store_size store ≡ store_of results))
    exactly = catalogue_exactly (take store_size store) results

    says : catalogue_in (take store_size store) ≡ some results → Keeps store results
    says e = let (c, stored) = exactly.0 e in record { catalogue = c; stored = stored }

-- a store keeps one catalogue
pub keeps-one : {store : List ℕ} {a b : List Term} → Keeps store a → Keeps store b → a ≡ b
keeps-one {store} {a} {b} k l = cc (sym ((keeps_exactly store a).1 k) ∙ (keeps_exactly store b).1 l)

-- and where it keeps none, none is found
pub keeps-none : (store : List ℕ) → ((results : List Term) → Keeps store results → ⊥) → catalogue_in (take store_size store) ≡ none
keeps-none store no_one = go (catalogue_in (take store_size store)) refl
  where
    go : (o : Option (List Term)) → catalogue_in (take store_size store) ≡ o → catalogue_in (take store_size store) ≡ none
    go none e = e
    go (some results) e = absurd (no_one results ((keeps_exactly store results).0 e))
