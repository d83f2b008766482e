-- Premise fields as the code reads them: the number that a field writes, and the line that it names. Assumes nothing.
use Prim.Native.Nat.{ℕ, ◌+◌, ◌-◌, ◌≤◌, ◌<◌, min}
use native.Mathlib.Omega.{arith}
use mathlib.Core.Path.{◌≡◌, refl, sym, ◌∙◌, ap, ap₂}
use mathlib.Core.Bool.{Bool, true, false, ◌&&◌, cond, false≢true}
use mathlib.Core.List.{List, [], ◌∷◌}
use mathlib.Core.Option.{Option, none, some}
use borrow.Author.Tests.{eqb-true, le-leb, lt-leb, lt-ltb, le-ltb, leb-true, leb-false, ltb-true, ltb-false}
use lib.Dec.{leb, ltb}
use lib.ListN.{length, get_or}
use Rattle.std.specs.Prelude.{Some, None, is_some, option_copied, option_map, unwrap_or}
use Rattle.std.specs.Prelude as std
use Rattle.std.proofs.Common.{Bor}
use Rattle.calculus.specs.Limits.{line_limit}
use Rattle.slices.specs.Numeral.{digit0, all_digits, value_from, some_if, number_of, zero_or, is_zero, decimal_of}
use Rattle.decimals.specs.Parsed.{up_to}
use Rattle.derivation_files.specs.Line.{premise_or, is_dash, premise_of}
use Rattle.premises.specs.declared.Cited.TheVariants.{Dash, Line, Nothing}
use Rattle.premises.specs.Cited.{within, line_if, cited_of}

-- ---- the number

-- `0` names no line, as no number does
zero-none : (s : List ℕ) → is_zero s ≡ true → number_of s ≡ none
unfolding number_of
zero-none [] e = absurd (false≢true e)
zero-none (b ∷ []) e = ap (λ (c : ℕ). some_if (all_digits (c ∷ []) && ltb digit0 c) (value_from 0 (c ∷ []))) (eqb-true b digit0 e)
zero-none (b ∷ c ∷ s) e = absurd (false≢true e)

same_number : (s : List ℕ) → within line_limit (decimal_of s) ≡ within line_limit (number_of s)
unfolding decimal_of
same_number s = go (is_zero s) refl
  where
    go : (t : Bool) → is_zero s ≡ t → within line_limit (zero_or t (number_of s)) ≡ within line_limit (number_of s)
    go true e = sym (ap (within line_limit) (zero-none s e))
    go false e = refl

-- what is read of a field: no number, or one that is cut past the limit
pub number_none : (s : List ℕ) → None ≡ up_to (line_limit + 1) (decimal_of s) → None ≡ within line_limit (number_of s)
number_none s e = go (decimal_of s) e ∙ same_number s
  where
    go : (o : Option ℕ) → None ≡ up_to (line_limit + 1) o → None ≡ within line_limit o
    go none e = refl
    go (some m) e = cc

pub number_some :
    (s : List ℕ) (kept : ℕ) → Some kept ≡ up_to (line_limit + 1) (decimal_of s) →
    cond (ltb 0 kept && leb kept line_limit) (Some kept) None ≡ within line_limit (number_of s)
number_some s kept e = go (decimal_of s) e ∙ same_number s
  where
    cut :
        (m : ℕ) (some-m few : Bool) → ltb 0 m ≡ some-m → leb m line_limit ≡ few → kept ≡ min m (line_limit + 1) →
        cond (ltb 0 kept && leb kept line_limit) (Some kept) None ≡ cond (some-m && few) (Some m) None
    cut m false few p q r =
        let zero-m = ltb-false 0 m p in
        ap (λ (t : Bool). cond (t && leb kept line_limit) (Some kept) None) (le-ltb 0 kept (omega arith))
    cut m true true p q r =
        let low = ltb-true 0 m p in
        let high = leb-true m line_limit q in
        let same : kept ≡ m = omega arith in
        ap₂ (λ (t u : Bool). cond (t && u) (Some kept) None) (lt-ltb 0 kept (omega arith)) (le-leb kept line_limit (omega arith))
        ∙ ap Some same
    cut m true false p q r =
        let high = leb-false m line_limit q in
        ap₂ (λ (t u : Bool). cond (t && u) (Some kept) None) (lt-ltb 0 kept (omega arith)) (lt-leb kept line_limit (omega arith))

    go :
        (o : Option ℕ) → Some kept ≡ up_to (line_limit + 1) o →
        cond (ltb 0 kept && leb kept line_limit) (Some kept) None ≡ within line_limit o
    go none e = cc
    go (some m) e = let same : kept ≡ min m (line_limit + 1) = cc in cut m (ltb 0 m) (leb m line_limit) refl refl same

-- ---- the line that is named

module _ (starts bytes : List ℕ) where
  abbrev last : ℕ
  last = min (length starts) line_limit

  pub cite_dash : is_dash bytes ≡ true → Dash ≡ cited_of starts last (premise_of bytes)
  unfolding premise_of
  cite_dash e = sym (ap (λ (t : Bool). cited_of starts last (premise_or t (number_of bytes))) e)

  module _ (no-dash : is_dash bytes ≡ false) where
    -- a field that is not `-` names what its number does
    number-cited : cited_of starts last (premise_or false (number_of bytes)) ≡ cited_of starts last (premise_of bytes)
    unfolding premise_of
    number-cited = sym (ap (λ (t : Bool). cited_of starts last (premise_or t (number_of bytes))) no-dash)

    pub cite_none : None ≡ within line_limit (number_of bytes) → Nothing ≡ cited_of starts last (premise_of bytes)
    cite_none e = go (number_of bytes) e ∙ number-cited
      where
        late :
            (m : ℕ) (some-m few : Bool) → ltb 0 m ≡ some-m → leb m line_limit ≡ few → std.None ≡ cond (some-m && few) (Some m) None →
            Nothing ≡ line_if (some-m && leb m last) (get_or starts (m - 1) 0)
        late m false few p q e = refl
        late m true true p q e = cc
        late m true false p q e =
            let high = leb-false m line_limit q in
            ap (λ (t : Bool). line_if t (get_or starts (m - 1) 0)) (sym (lt-leb m last (omega arith)))

        go : (o : Option ℕ) → None ≡ within line_limit o → Nothing ≡ cited_of starts last (premise_or false o)
        go none e = refl
        go (some m) e = late m (ltb 0 m) (leb m line_limit) refl refl e

    -- a number that is read is the one that the field writes, from 1 up to the limit
    number-read :
        (number : ℕ) → Some number ≡ within line_limit (number_of bytes) →
        (number_of bytes ≡ some number) × (0 < number) × (number ≤ line_limit)
    number-read number e = go (number_of bytes) e
      where
        small :
            (m : ℕ) (some-m few : Bool) → ltb 0 m ≡ some-m → leb m line_limit ≡ few → Some number ≡ cond (some-m && few) (Some m) None →
            (some m ≡ some number) × (0 < number) × (number ≤ line_limit)
        small m false few p q e = cc
        small m true true p q e =
            let low = ltb-true 0 m p in
            let high = leb-true m line_limit q in
            let same : number ≡ m = cc in
            (ap some (sym same), omega arith, omega arith)
        small m true false p q e = cc

        go : (o : Option ℕ) → Some number ≡ within line_limit o → (o ≡ some number) × (0 < number) × (number ≤ line_limit)
        go none e = cc
        go (some m) e = small m (ltb 0 m) (leb m line_limit) refl refl e

    pub number_few : (number : ℕ) → Some number ≡ within line_limit (number_of bytes) → 0 < number
    number_few number e = (number-read number e).1

    -- and names the line that begins there, if so many went before
    cite-number :
        (number : ℕ) → Some number ≡ within line_limit (number_of bytes) → (early : Bool) → leb number (length starts) ≡ early →
        line_if early (get_or starts (number - 1) 0) ≡ cited_of starts last (premise_of bytes)
    cite-number number e early p =
        let (named, some-n, few) = number-read number e in
        ap (λ (t : Bool). line_if t (get_or starts (number - 1) 0)) (tests early p some-n few)
        ∙ ap (λ (o : Option ℕ). cited_of starts last (premise_or false o)) (sym named)
        ∙ number-cited
      where
        tests :
            (early : Bool) → leb number (length starts) ≡ early → 0 < number → number ≤ line_limit →
            early ≡ (ltb 0 number && leb number last)
        tests true p some-n few =
            let fits = leb-true number (length starts) p in
            sym (ap₂ ◌&&◌ (lt-ltb 0 number some-n) (le-leb number last (omega arith)))
        tests false p some-n few =
            let past = leb-false number (length starts) p in
            sym (ap₂ ◌&&◌ (lt-ltb 0 number some-n) (lt-leb number last (omega arith)))

    pub cite_late :
        (number : ℕ) → Some number ≡ within line_limit (number_of bytes) → length starts ≤ number - 1 →
        Nothing ≡ cited_of starts last (premise_of bytes)
    cite_late number e late =
        let some-n = number_few number e in
        cite-number number e false (lt-leb number (length starts) (omega arith))

    pub cite_line :
        (number start : ℕ) → Some number ≡ within line_limit (number_of bytes) → number - 1 < length starts →
        start ≡ get_or starts (number - 1) 0 → Line start ≡ cited_of starts last (premise_of bytes)
    cite_line number start e early p =
        ap Line p ∙ cite-number number e true (le-leb number (length starts) (omega arith))

-- what `get` and `copied` answer
pub got :
    (starts : List ℕ) (i start : ℕ) (o : std.Option (Bor ℕ)) → Some start ≡ option_copied o →
    is_some o ≡ ltb i (length starts) → unwrap_or (option_map (λ (x : Bor ℕ). x.now) o) 0 ≡ get_or starts i 0 →
    (i < length starts) × (start ≡ get_or starts i 0)
got starts i start None e p q = cc
got starts i start (Some x) e p q =
    let same : start ≡ x.now = cc in
    (ltb-true i (length starts) (sym p), same ∙ q)

pub got_none :
    (starts : List ℕ) (i : ℕ) (o : std.Option (Bor ℕ)) → None ≡ option_copied o →
    is_some o ≡ ltb i (length starts) → length starts ≤ i
got_none starts i None e p = ltb-false i (length starts) (sym p)
got_none starts i (Some x) e p = cc
