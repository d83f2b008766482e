-- The functions on a store's bytes, case by case as the code decides them. Assumes nothing.
use Prim.Native.Nat.{ℕ, zero, suc, ◌+◌, ◌*◌, ◌-◌, ◌≤◌, ◌<◌}
use native.Mathlib.Omega.{arith}
use native.Mathlib.Numerals.{add-one}
use mathlib.Core.Path.{◌≡◌, refl, sym, ◌∙◌, ap, ap₂}
use mathlib.Core.Bool.{Bool, true, false, cond, not, ◌&&◌}
use mathlib.Core.List.{List}
use borrow.Author.Tests.{lt-ltb, le-ltb, le-leb, lt-leb, eq-eqb, ne_eqb}
use lib.Dec.{leb, eqb}
use Rattle.std.specs.Prelude.{Result, Ok, Err, Option, Some, None}
use Rattle.std.specs.Option.{is_some}
use Rattle.std.specs.Result.{is_err}
use Rattle.calculus.specs.Parse.{term_of}
use Rattle.calculus.proofs.PrefixCode.{term_of-text}
use Rattle.slices.specs.Part.{part}
use Rattle.words.specs.Word.{word_at}
use Rattle.fingerprints.specs.Print.{print_of}
use Rattle.reading.specs.Reply.{Reply}
use Rattle.reading.specs.Reading.{reading_of}
use Rattle.reading.specs.Stop.{has_stop}
use Rattle.reading.specs.Answer.{answer_of as readingAnswer}
use Rattle.reading.specs.declared.Misread.{Misread}
use Rattle.reading.specs.declared.Misread.TheVariants.{NoLetter, NotWhole, Beyond}
use Rattle.reading.proofs.Whole.{whole-term, refused_none}
use Rattle.entries.specs.Catalogue.{entry_limit, letter_limit}
use Rattle.entries.specs.Store.{entry_size, texts_at}
use Rattle.stores.specs.Search.{size_at, is_at, found_in, number_in, numbered, is_normal, is_result, follows}

-- ---- sizes

module _ (entry : ℕ) (store : List ℕ) where
  pub size-there : entry < entry_limit → size_at entry store ≡ word_at (entry_size * entry + 4) store
  unfolding size_at
  size-there h = ap (λ (b : Bool). cond b (word_at (entry_size * entry + 4) store) 0) (lt-ltb entry entry_limit h)

  pub size_none : entry_limit ≤ entry → size_at entry store ≡ 0
  unfolding size_at
  size_none h = ap (λ (b : Bool). cond b (word_at (entry_size * entry + 4) store) 0) (le-ltb entry entry_limit h)

-- ---- the search

module _ (store result : List ℕ) (print : ℕ) where
  -- within the limits and outside them
  pub number-inside : (count used : ℕ) → count ≤ entry_limit → used ≤ letter_limit →
      found_in count used store result print ≡ number_in count used store result print
  unfolding number_in
  number-inside count used h k =
      sym (ap₂ (λ (b c : Bool). cond (b && c) (found_in count used store result print) 0) (le-leb count entry_limit h) (le-leb used letter_limit k))

  pub number-past-count : (count used : ℕ) → entry_limit < count → 0 ≡ number_in count used store result print
  unfolding number_in
  number-past-count count used h =
      sym (ap (λ (b : Bool). cond (b && leb used letter_limit) (found_in count used store result print) 0) (lt-leb count entry_limit h))

  pub number-past-used : (count used : ℕ) → count ≤ entry_limit → letter_limit < used → 0 ≡ number_in count used store result print
  unfolding number_in
  number-past-used count used h k =
      sym (ap₂ (λ (b c : Bool). cond (b && c) (found_in count used store result print) 0) (le-leb count entry_limit h) (lt-leb used letter_limit k))

  -- one result, and then those before it
  step :
      (left end entry start : ℕ) → left ≡ entry + 1 → start ≡ end - size_at entry store →
      found_in left end store result print
      ≡ cond (is_at entry start end store result print) (entry + 1) (found_in entry start store result print)
  step left end entry start e f =
      ap (λ (n : ℕ). found_in n end store result print) (e ∙ add-one entry)
      ∙ ap (λ (n : ℕ). cond (is_at entry n end store result print) (suc entry) (found_in entry n store result print)) (sym f)
      ∙ ap (λ (n : ℕ). cond (is_at entry start end store result print) n (found_in entry start store result print)) (sym (add-one entry))

  pub found_here :
      (left end entry start : ℕ) → left ≡ entry + 1 → start ≡ end - size_at entry store →
      is_at entry start end store result print ≡ true → entry + 1 ≡ found_in left end store result print
  found_here left end entry start e f h =
      sym (step left end entry start e f ∙ ap (λ (b : Bool). cond b (entry + 1) (found_in entry start store result print)) h)

  pub found_before :
      (left end entry start : ℕ) → left ≡ entry + 1 → start ≡ end - size_at entry store →
      is_at entry start end store result print ≡ false → found_in entry start store result print ≡ found_in left end store result print
  found_before left end entry start e f h =
      sym (step left end entry start e f ∙ ap (λ (b : Bool). cond b (entry + 1) (found_in entry start store result print)) h)

-- a number that is there
pub next-numbered : (entry : ℕ) → Some (entry + 1) ≡ numbered (entry + 1)
next-numbered entry = ap Some (add-one entry) ∙ ap numbered (sym (add-one entry))

-- none is there exactly where the number is 0
pub none-numbered : (n : ℕ) (r : Option ℕ) (b : Bool) → r ≡ numbered n → is_some r ≡ not b → b ≡ eqb n 0
none-numbered zero r true e k = sym (eq-eqb 0 0 refl)
none-numbered zero r false e k = let there : false ≡ true = sym (ap is_some e) ∙ k in cc
none-numbered (suc n) r true e k = let there : true ≡ false = sym (ap is_some e) ∙ k in cc
none-numbered (suc n) r false e k = sym (ne_eqb (suc n) 0 (λ z. omega arith))

pub numbered-some : (n number : ℕ) → Some number ≡ numbered n → (number ≡ n) × ¬ (n ≡ 0)
numbered-some zero number e = absurd (cc)
numbered-some (suc n) number e = (cc, λ z. omega arith)

pub numbered-none : (n : ℕ) → None ≡ numbered n → n ≡ 0
numbered-none zero e = refl
numbered-none (suc n) e = cc

-- ---- normal terms

-- bytes that reading refuses are no result
refused-result : (bytes : List ℕ) (number place : ℕ) → Reply.refused number place ≡ reading_of bytes → is_result bytes ≡ false
unfolding is_result
refused-result bytes number place e = ap is_normal (refused_none bytes number place (sym e))

-- of a term's text the full stop decides
whole-result : (bytes : List ℕ) (n : ℕ) → Reply.answered n ≡ reading_of bytes → not (has_stop bytes) ≡ is_result bytes
unfolding is_result
whole-result bytes n e =
    let (t, same_text, sized) = whole-term bytes n (sym e) in
    ap (λ (l : List ℕ). not (has_stop l)) same_text
    ∙ sym (ap is_normal (ap term_of same_text ∙ term_of-text t))

-- what reading refuses, and what it does not
pub unread-result :
    (bytes : List ℕ) (r : Result ℕ Misread) → readingAnswer r ≡ reading_of bytes → is_err r ≡ true → false ≡ is_result bytes
unread-result bytes (Ok n) e k = cc
unread-result bytes (Err (NoLetter place)) e k = sym (refused-result bytes 5 place e)
unread-result bytes (Err (NotWhole place)) e k = sym (refused-result bytes 6 place e)
unread-result bytes (Err (Beyond place)) e k = sym (refused-result bytes 7 place e)

pub read-result :
    (bytes : List ℕ) (r : Result ℕ Misread) → readingAnswer r ≡ reading_of bytes → is_err r ≡ false → not (has_stop bytes) ≡ is_result bytes
read-result bytes (Ok n) e k = whole-result bytes n e
read-result bytes (Err misread) e k = cc

-- ---- an entry behind others, test by test

module _ (count used size : ℕ) (store : List ℕ) where
  abbrev pub result : List ℕ
  result = part (texts_at + used) (texts_at + used + size) store

  abbrev pub fits : Bool
  fits = leb (used + size) letter_limit

  abbrev pub printed : Bool
  printed = eqb (word_at (entry_size * count) store) (print_of result)

  abbrev pub fresh : Bool
  fresh = eqb (number_in count used store result (print_of result)) 0

  pub tests : {a b c : Bool} → fits ≡ a → is_result result ≡ b → printed ≡ c → follows count used size store ≡ (a && b && c && fresh)
  unfolding follows
  tests e f g = cc

  pub too_long : letter_limit - used < size → used ≤ letter_limit → false ≡ follows count used size store
  too_long h k = sym (tests (lt-leb (used + size) letter_limit (omega arith)) refl refl)

  module _ (short : size ≤ letter_limit - used) (within : used ≤ letter_limit) where
    fit : fits ≡ true
    fit = le-leb (used + size) letter_limit (omega arith)

    pub no_result : is_result result ≡ false → false ≡ follows count used size store
    no_result e = sym (tests fit e refl)

    module _ (is : is_result result ≡ true) where
      pub other-print : ¬ (word_at (entry_size * count) store ≡ print_of result) → false ≡ follows count used size store
      other-print n = sym (tests fit is (ne_eqb (word_at (entry_size * count) store) (print_of result) n))

      pub print-agrees : word_at (entry_size * count) store ≡ print_of result → fresh ≡ follows count used size store
      print-agrees e = sym (tests fit is (eq-eqb (word_at (entry_size * count) store) (print_of result) e))
