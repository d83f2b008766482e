-- What the number of a term in a catalogue says, and what the tests of a catalogue say. Assumes nothing.
use Prim.Native.Nat.{ℕ, suc, ◌+◌, ◌<◌, ◌≤◌}
use native.Mathlib.Omega.{arith}
use mathlib.Core.Path.{◌≡◌, refl, sym, ◌∙◌, ap, subst}
use mathlib.Core.Logic.{◌↔◌}
use mathlib.Core.Bool.{Bool, true, false, cond, not, ◌&&◌}
use mathlib.Core.List.Memᴰ
use mathlib.Core.List.{List, [], ◌∷◌, Memᴰ}
use borrow.Author.Tests.{eqb-true, eq-eqb, ltb-true, lt-ltb, leb-true, le-leb, not-true}
use lib.Dec.{ltb, leb, eqb}
use lib.ListN.{length}
use Rattle.calculus.specs.Term.{Term, text, size, Normal}
use Rattle.calculus.proofs.PrefixCode.{text_injective}
use Rattle.slices.specs.Same.{same}
use Rattle.slices.proofs.Same.{same_equal, equal_same}
use Rattle.slices.proofs.Decimal.{and_both}
use Rattle.reading.specs.Stop.{has_stop}
use Rattle.reading.proofs.Stops.{no_stop-normal, stop-not-normal}
use Rattle.entries.specs.Catalogue.{
  entry_limit,
  letter_limit,
  letters,
  Room,
  Catalogue,
  Numbered,
  number_of,
  has_room,
  is_new,
  is_catalogue,
}

-- ---- the number as a function

-- by whether the last result is that term
abbrev by_last : Term → (earlier : List Term) → Bool → ℕ
by_last t earlier b = cond b (suc (length earlier)) (number_of t earlier)

-- a term that is the last result has that one's number
at_last : (t u : Term) (earlier : List Term) → t ≡ u → number_of t (u ∷ earlier) ≡ suc (length earlier)
at_last t u earlier e = ap (by_last t earlier) (equal_same (text u) (text t) (ap text (sym e)))

-- one that is not has the number that it had before
past_last : (t u : Term) (earlier : List Term) → (t ≡ u → ⊥) → number_of t (u ∷ earlier) ≡ number_of t earlier
past_last t u earlier other = go (same (text u) (text t)) refl
  where
    go : (b : Bool) → same (text u) (text t) ≡ b → by_last t earlier b ≡ number_of t earlier
    go true e = absurd (other (sym (text_injective u t (same_equal (text u) (text t) e))))
    go false e = refl

-- a term with the number 0 is not there
pub number-none : (t : Term) (results : List Term) → number_of t results ≡ 0 → Memᴰ t results → ⊥
number-none t [] e m = Memᴰ.not-nil m
number-none t (u ∷ earlier) e (Memᴰ.head here) = let counted = at_last t u earlier here in omega (arith, e, counted)
number-none t (u ∷ earlier) e (Memᴰ.tail m) = go (same (text u) (text t)) e (λ z. number-none t earlier z m)
  where
    go : (b : Bool) → by_last t earlier b ≡ 0 → (number_of t earlier ≡ 0 → ⊥) → ⊥
    go true z before = omega (arith, z)
    go false z before = before z

-- one that is not there has the number 0
pub none_number : (t : Term) (results : List Term) → (Memᴰ t results → ⊥) → number_of t results ≡ 0
none_number t [] not = refl
none_number t (u ∷ earlier) not =
    past_last t u earlier (λ e. not (Memᴰ.head e)) ∙ none_number t earlier (λ m. not (Memᴰ.tail m))

-- any other number is that of the term
pub number-some : (t : Term) (results : List Term) → ¬ (number_of t results ≡ 0) → Numbered t (number_of t results) results
number-some t [] n = absurd (n refl)
number-some t (u ∷ earlier) n = go (same (text u) (text t)) refl n (number-some t earlier)
  where
    go :
        (b : Bool) → same (text u) (text t) ≡ b → ¬ (by_last t earlier b ≡ 0) →
        (¬ (number_of t earlier ≡ 0) → Numbered t (number_of t earlier) earlier) → Numbered t (by_last t earlier b) (u ∷ earlier)
    go true e n before =
        subst (λ (v : Term). Numbered t (suc (length earlier)) (v ∷ earlier))
        (sym (text_injective u t (same_equal (text u) (text t) e)))
        Numbered.last
    go false e n before = Numbered.before (before n)

-- ---- the number as a relation

-- a number is not 0
pub numbered_positive : {t : Term} {n : ℕ} {results : List Term} → Numbered t n results → 0 < n
numbered_positive Numbered.last = omega arith
numbered_positive (Numbered.before h) = numbered_positive h

-- and at most how many results there are
pub numbered-most : {t : Term} {n : ℕ} {results : List Term} → Numbered t n results → n ≤ length results
numbered-most Numbered.last = omega arith
numbered-most (Numbered.before h) = omega (arith, numbered-most h)

-- what has a number is a result
pub numbered_member : {t : Term} {n : ℕ} {results : List Term} → Numbered t n results → Memᴰ t results
numbered_member Numbered.last = Memᴰ.head refl
numbered_member (Numbered.before h) = Memᴰ.tail (numbered_member h)

-- a result of a catalogue has the number that the function gives
pub numbered-number : {t : Term} {n : ℕ} {results : List Term} → Catalogue results → Numbered t n results → number_of t results ≡ n
numbered-number {t} (Catalogue.entered {earlier = earlier} normal fresh room c) Numbered.last = at_last t t earlier refl
numbered-number {t} (Catalogue.entered {t = u} {earlier = earlier} normal fresh room c) (Numbered.before h) =
    let member = numbered_member h in
    past_last t u earlier (λ e. fresh (subst (λ (v : Term). Memᴰ v earlier) e member)) ∙ numbered-number c h
numbered-number Catalogue.empty x = elim x [ ]

-- so one number
pub numbered-one :
    {t : Term} {m n : ℕ} {results : List Term} → Catalogue results → Numbered t m results → Numbered t n results → m ≡ n
numbered-one c h k = sym (numbered-number c h) ∙ numbered-number c k

-- and a number is that of one result
pub numbered-same : {t u : Term} {n : ℕ} {results : List Term} → Numbered t n results → Numbered u n results → t ≡ u
numbered-same h k = go h k refl refl
  where
    go :
        {t u : Term} {m n : ℕ} {results others : List Term} → Numbered t m results → Numbered u n others → m ≡ n → results ≡ others → t ≡ u
    go Numbered.last Numbered.last e s = cc
    go Numbered.last (Numbered.before k) e s = absurd (omega (arith, numbered-most k, ap length s))
    go (Numbered.before h) Numbered.last e s = absurd (omega (arith, numbered-most h, ap length s))
    go (Numbered.before {earlier = x} h) (Numbered.before {earlier = y} k) e s = let rest : x ≡ y = cc in go h k e rest

-- ---- tests

-- two tests that hold hold together
both_true : (s t : Bool) → s ≡ true → t ≡ true → (s && t) ≡ true
both_true s t d e = ap (λ (b : Bool). b && t) d ∙ e

-- a term without a full stop is normal, as a test
normal_test : (t : Term) → (not (has_stop (text t)) ≡ true) ↔ Normal t
normal_test t = (λ e. no_stop-normal t (not-true (has_stop (text t)) e), λ n. go (has_stop (text t)) refl n)
  where
    go : (b : Bool) → has_stop (text t) ≡ b → Normal t → not b ≡ true
    go true e n = absurd (stop-not-normal t e n)
    go false e n = refl

module _ (t : Term) (results : List Term) where
  abbrev few : Bool
  few = ltb (length results) entry_limit

  abbrev short : Bool
  short = leb (letters results + size t) letter_limit

  -- there is room where the test says so
  pub room-test : (has_room t results ≡ true) ↔ Room t results
  room-test = (λ e. says e, λ r. holds r)
    where
      says : has_room t results ≡ true → Room t results
      says e =
          let (entry, fit) = and_both few short e in
          record {
            entry = ltb-true (length results) entry_limit entry;
            letters_fit = leb-true (letters results + size t) letter_limit fit;
          }

      holds : Room t results → has_room t results ≡ true
      holds r =
          both_true few short
          (lt-ltb (length results) entry_limit r.entry)
          (le-leb (letters results + size t) letter_limit r.letters_fit)

  abbrev no_stop : Bool
  no_stop = not (has_stop (text t))

  abbrev no_number : Bool
  no_number = eqb (number_of t results) 0

  -- a term may be entered as a new result where the test says so
  pub new-test : (is_new t results ≡ true) ↔ (Normal t × (Memᴰ t results → ⊥) × Room t results)
  new-test = (λ e. says e, λ r. holds r)
    where
      says : is_new t results ≡ true → Normal t × (Memᴰ t results → ⊥) × Room t results
      says e =
          let (rest, room) = and_both (no_stop && no_number) (has_room t results) e in
          let (normal, fresh) = and_both no_stop no_number rest in
          ((normal_test t).0 normal, number-none t results (eqb-true (number_of t results) 0 fresh), room-test.0 room)

      holds : Normal t × (Memᴰ t results → ⊥) × Room t results → is_new t results ≡ true
      holds (normal, fresh, room) =
          both_true (no_stop && no_number) (has_room t results)
          (both_true no_stop no_number ((normal_test t).1 normal) (eq-eqb (number_of t results) 0 (none_number t results fresh)))
          (room-test.1 room)

-- results are a catalogue where the test says so
pub catalogue_test : (results : List Term) → (is_catalogue results ≡ true) ↔ Catalogue results
catalogue_test results = (says results, holds)
  where
    says : (results : List Term) → is_catalogue results ≡ true → Catalogue results
    says [] e = Catalogue.empty
    says (t ∷ earlier) e =
        let (new, others) = and_both (is_new t earlier) (is_catalogue earlier) e in
        let (normal, fresh, room) = (new-test t earlier).0 new in
        Catalogue.entered normal fresh room (says earlier others)

    holds : {results : List Term} → Catalogue results → is_catalogue results ≡ true
    holds Catalogue.empty = refl
    holds (Catalogue.entered {t = t} {earlier = earlier} normal fresh room c) =
        both_true (is_new t earlier) (is_catalogue earlier) ((new-test t earlier).1 (normal, fresh, room)) (holds c)

-- ---- catalogues

-- a catalogue keeps the limits
pub catalogue-fits : {results : List Term} → Catalogue results → (length results ≤ entry_limit) × (letters results ≤ letter_limit)
catalogue-fits Catalogue.empty = (omega arith, omega arith)
catalogue-fits (Catalogue.entered normal fresh room c) = (omega (arith, room.entry), omega (arith, room.letters_fit))

-- and its results are normal
pub catalogue-normal : {t : Term} {results : List Term} → Catalogue results → Memᴰ t results → Normal t
catalogue-normal Catalogue.empty m = absurd (Memᴰ.not-nil m)
catalogue-normal (Catalogue.entered normal fresh room c) (Memᴰ.head here) = subst Normal (sym here) normal
catalogue-normal (Catalogue.entered normal fresh room c) (Memᴰ.tail m) = catalogue-normal c m
