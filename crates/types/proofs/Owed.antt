-- Bytes as the text of what is owed: some simple types and, behind them, a context or nothing. What the readers of specs/Parse.antt
-- find is told by what is owed at the start, and each step of a scan from the first byte leaves it the same. Assumes nothing.
use Prim.Native.Nat.{ℕ, zero, suc, ◌+◌, ◌-◌, ◌<◌, ◌≤◌}
use native.Mathlib.Numerals.{add-one}
use native.Mathlib.Omega.{arith}
use mathlib.Core.Path.{◌≡◌, refl, sym, ◌∙◌, ap}
use mathlib.Core.Bool.{Bool, true, false}
use mathlib.Core.List.{List, [], ◌∷◌}
use mathlib.Core.Option.{Option, none, some}
use borrow.Author.Tests.{eq-eqb, ne_eqb, eqb-true, eqb-false}
use lib.Dec.{eqb}
use lib.ListN.{length, get_or, drop, drop_of_length-le, length-drop}
use lib.Seq.{drop-cons, drop-drop}
use native.Mathlib.Decide.{dec_le}
use Rattle.calculus.specs.Types.{Sign, Ty}
use Rattle.types.specs.Signs.{atom_if, chosen, sign_of, cons_sign, signs_of}
use Rattle.types.specs.Parse.{Item, push_arrow, push_bind, push, items, single, type_of_signs, type_of, only_context, context_of}
use Rattle.types.specs.Tests.{is_some, is_simple}
use Rattle.types.specs.Scan.{behind_sign, behind_simple, index_of, simple_end}

-- the items are that many simple types and, behind them, a context if the flag says so, and no more
abbrev pub fits : (simples : ℕ) (context : Bool) → List Item → Bool
fits zero false [] = true
fits zero false (i ∷ is) = false
fits zero true [] = false
fits zero true (Item.loose g ∷ is) = false
fits zero true (Item.type (Ty.simple U) ∷ is) = false
fits zero true (Item.type (Ty.context G) ∷ []) = true
fits zero true (Item.type (Ty.context G) ∷ i ∷ is) = false
fits (suc k) context [] = false
fits (suc k) context (Item.loose g ∷ is) = false
fits (suc k) context (Item.type (Ty.simple U) ∷ is) = fits k context is
fits (suc k) context (Item.type (Ty.context G) ∷ is) = false

abbrev pub fits_signs : ℕ → Bool → Option (List Sign) → Bool
fits_signs k context none = false
fits_signs k context (some signs) = fits k context (items signs)

-- the bytes are the text of that many simple types and, behind them, of a context if the flag says so
pub owes : (simples : ℕ) (context : Bool) → List ℕ → Bool
owes k context bytes = fits_signs k context (signs_of bytes)

-- ---- what the readers find

pub context-owed : (s : List ℕ) → is_some (context_of s) ≡ owes 0 true s
unfolding context_of type_of owes
context-owed s = go (signs_of s)
  where
    one : (is : List Item) → is_some (only_context (single is)) ≡ fits 0 true is
    one [] = refl
    one (Item.loose g ∷ is) = refl
    one (Item.type (Ty.simple U) ∷ []) = refl
    one (Item.type (Ty.simple U) ∷ i ∷ is) = refl
    one (Item.type (Ty.context G) ∷ []) = refl
    one (Item.type (Ty.context G) ∷ i ∷ is) = refl

    go : (o : Option (List Sign)) → is_some (only_context (type_of_signs o)) ≡ fits_signs 0 true o
    go none = refl
    go (some signs) = one (items signs)

pub simple-owed : (s : List ℕ) → is_simple (type_of s) ≡ owes 1 false s
unfolding type_of owes
simple-owed s = go (signs_of s)
  where
    one : (is : List Item) → is_simple (single is) ≡ fits 1 false is
    one [] = refl
    one (Item.loose g ∷ is) = refl
    one (Item.type (Ty.simple U) ∷ []) = refl
    one (Item.type (Ty.simple U) ∷ i ∷ is) = refl
    one (Item.type (Ty.context G) ∷ []) = refl
    one (Item.type (Ty.context G) ∷ i ∷ is) = refl

    go : (o : Option (List Sign)) → is_simple (type_of_signs o) ≡ fits_signs 1 false o
    go none = refl
    go (some signs) = one (items signs)

-- ---- one sign more in front

push-arrow : (k : ℕ) (context : Bool) (is : List Item) → fits (suc k) context (push_arrow is) ≡ fits (suc (suc k)) context is
push-arrow k context [] = refl
push-arrow k context (Item.loose g ∷ is) = refl
push-arrow k context (Item.type (Ty.context G) ∷ is) = refl
push-arrow k context (Item.type (Ty.simple U) ∷ []) = refl
push-arrow k context (Item.type (Ty.simple U) ∷ Item.loose g ∷ is) = refl
push-arrow k context (Item.type (Ty.simple U) ∷ Item.type (Ty.context G) ∷ is) = refl
push-arrow k context (Item.type (Ty.simple U) ∷ Item.type (Ty.simple T) ∷ is) = refl

-- `*` is no part of a simple type
bind-refused : (k : ℕ) (context : Bool) (is : List Item) → fits (suc k) context (push_bind is) ≡ false
bind-refused k context [] = refl
bind-refused k context (Item.loose g ∷ is) = refl
bind-refused k context (Item.type (Ty.context G) ∷ is) = refl
bind-refused k context (Item.type (Ty.simple U) ∷ []) = refl
bind-refused k context (Item.type (Ty.simple U) ∷ Item.loose g ∷ is) = refl
bind-refused k context (Item.type (Ty.simple U) ∷ Item.type (Ty.simple T) ∷ is) = refl
bind-refused k context (Item.type (Ty.simple U) ∷ Item.type (Ty.context G) ∷ is) = refl

push-bind : (is : List Item) → fits 0 true (push_bind is) ≡ fits 1 true is
push-bind [] = refl
push-bind (Item.loose g ∷ is) = refl
push-bind (Item.type (Ty.context G) ∷ []) = refl
push-bind (Item.type (Ty.context G) ∷ i ∷ is) = refl
push-bind (Item.type (Ty.simple U) ∷ []) = refl
push-bind (Item.type (Ty.simple U) ∷ Item.loose g ∷ is) = refl
push-bind (Item.type (Ty.simple U) ∷ Item.type (Ty.simple T) ∷ is) = refl
push-bind (Item.type (Ty.simple U) ∷ Item.type (Ty.context G) ∷ []) = refl
push-bind (Item.type (Ty.simple U) ∷ Item.type (Ty.context G) ∷ i ∷ is) = refl

-- `>` begins no context
arrow-refused : (is : List Item) → fits 0 true (push_arrow is) ≡ false
arrow-refused [] = refl
arrow-refused (Item.loose g ∷ is) = refl
arrow-refused (Item.type (Ty.context G) ∷ is) = refl
arrow-refused (Item.type (Ty.simple U) ∷ []) = refl
arrow-refused (Item.type (Ty.simple U) ∷ Item.loose g ∷ is) = refl
arrow-refused (Item.type (Ty.simple U) ∷ Item.type (Ty.context G) ∷ is) = refl
arrow-refused (Item.type (Ty.simple U) ∷ Item.type (Ty.simple T) ∷ is) = refl

push-empty : (is : List Item) → fits 0 true (push Sign.empty is) ≡ fits 0 false is
push-empty [] = refl
push-empty (i ∷ is) = refl

-- ---- the scan of simple types

abbrev pub from_rest : Bool → Option (List ℕ) → Bool
from_rest context none = false
from_rest context (some rest) = owes 0 context rest

-- what stands behind the simple types owed is the rest of what is owed
pub owed-rest : (k : ℕ) (context : Bool) (s : List ℕ) → owes k context s ≡ from_rest context (behind_simple k s)
unfolding owes signs_of
owed-rest zero context [] = refl
owed-rest zero context (b ∷ s) = refl
owed-rest (suc k) context [] = refl
owed-rest (suc k) context (b ∷ s) = go (sign_of b) (signs_of s) refl (λ n. owed-rest n context s)
  where
    go :
        (o : Option Sign) (rest : Option (List Sign)) → signs_of s ≡ rest →
        ((n : ℕ) → fits_signs n context (signs_of s) ≡ from_rest context (behind_simple n s)) →
        fits_signs (suc k) context (cons_sign o rest) ≡ from_rest context (behind_sign o k (λ n. behind_simple n s))
    go none rest q later = refl
    go (some (Sign.name a)) none q later = ap (fits_signs k context) (sym q) ∙ later k
    go (some (Sign.name a)) (some signs) q later = ap (fits_signs k context) (sym q) ∙ later k
    go (some Sign.arrow) none q later = ap (fits_signs (suc (suc k)) context) (sym q) ∙ later (suc (suc k))
    go (some Sign.arrow) (some signs) q later = push-arrow k context (items signs) ∙ ap (fits_signs (suc (suc k)) context) (sym q) ∙ later (suc (suc k))
    go (some Sign.bind) none q later = refl
    go (some Sign.bind) (some signs) q later = bind-refused k context (items signs)
    go (some Sign.empty) none q later = refl
    go (some Sign.empty) (some signs) q later = refl

-- the rest is what is left from some place on
suffix : (k : ℕ) (s rest : List ℕ) → behind_simple k s ≡ some rest → (m : ℕ) × (rest ≡ drop m s)
suffix zero [] rest e = (0, cc)
suffix zero (b ∷ s) rest e = (0, cc)
suffix (suc k) [] rest e = (0, cc)
suffix (suc k) (b ∷ s) rest e = go (sign_of b) (λ n. suffix n s rest) e
  where
    go :
        (o : Option Sign) → ((n : ℕ) → behind_simple n s ≡ some rest → (m : ℕ) × (rest ≡ drop m s)) →
        behind_sign o k (λ n. behind_simple n s) ≡ some rest → (m : ℕ) × (rest ≡ drop m (b ∷ s))
    go none later e = (0, cc)
    go (some (Sign.name a)) later e = let (m, q) = later k e in (suc m, q)
    go (some Sign.arrow) later e = let (m, q) = later (suc (suc k)) e in (suc m, q)
    go (some Sign.bind) later e = (0, cc)
    go (some Sign.empty) later e = (0, cc)

-- what is left from some place on is what is left from the index that its length tells
drop_index : (n : ℕ) (s rest : List ℕ) → rest ≡ drop n s → drop (length s - length rest) s ≡ rest
drop_index n s rest e = go (dec_le n (length s))
  where
    size : length rest ≡ length s - n
    size = ap length e ∙ length-drop n s

    go : Dec (n ≤ length s) → drop (length s - length rest) s ≡ rest
    go (yes h) =
        let place : length s - length rest ≡ n = omega (arith, size) in
        ap (λ (i : ℕ). drop i s) place ∙ sym e
    go (no h) =
        let all : length s ≤ length s - length rest = omega (arith, size) in
        let past : length s ≤ n = omega arith in
        drop_of_length-le s all ∙ sym (e ∙ drop_of_length-le s past)

-- the index lies behind the place where the scan began, and at most one past the end
pub end-bounds : (s : List ℕ) (from : ℕ) → from ≤ length s → (from ≤ simple_end s from) × (simple_end s from ≤ length s + 1)
unfolding simple_end
end-bounds s from h = go (behind_simple 1 (drop from s)) refl
  where
    go : (o : Option (List ℕ)) → behind_simple 1 (drop from s) ≡ o → (from ≤ index_of s o) × (index_of s o ≤ length s + 1)
    go none e = (omega arith, omega arith)
    go (some rest) e =
        let (m, q) = suffix 1 (drop from s) rest e in
        let size : length rest ≡ length s - from - m = ap length q ∙ length-drop m (drop from s) ∙ ap (λ (n : ℕ). n - m) (length-drop from s) in
        (omega (arith, size), omega arith)

-- what is owed behind a simple type is owed from its end on
pub owed-end :
    (context : Bool) (s : List ℕ) (from : ℕ) → owes 0 context [] ≡ false →
    owes 1 context (drop from s) ≡ owes 0 context (drop (simple_end s from) s)
unfolding simple_end
owed-end context s from nothing = owed-rest 1 context (drop from s) ∙ go (behind_simple 1 (drop from s)) refl
  where
    go : (o : Option (List ℕ)) → behind_simple 1 (drop from s) ≡ o → from_rest context o ≡ owes 0 context (drop (index_of s o) s)
    go none e =
        let past : length s ≤ suc (length s) = omega arith in
        sym (ap (owes 0 context) (drop_of_length-le s past) ∙ nothing)
    go (some rest) e =
        let (m, q) = suffix 1 (drop from s) rest e in
        ap (owes 0 context) (sym (drop_index (from + m) s rest (q ∙ drop-drop m from s)))

-- ---- one turn of `is_context`

at_sign :
    (at : ℕ) (s : List ℕ) → at < length s →
    owes 0 true (drop at s) ≡ fits_signs 0 true (cons_sign (sign_of (get_or s at 0)) (signs_of (drop (at + 1) s)))
unfolding owes signs_of
at_sign at s h = ap (owes 0 true) (drop-cons s at 0 h) ∙ ap (λ (n : ℕ). fits_signs 0 true (cons_sign (sign_of (get_or s at 0)) (signs_of (drop n s)))) (sym (add-one at))

-- nothing is owed exactly where no byte is left
empty-owed : (s : List ℕ) → owes 0 false s ≡ eqb 0 (length s)
unfolding owes signs_of
empty-owed [] = refl
empty-owed (b ∷ s) = go (sign_of b) (signs_of s) ∙ sym (ne_eqb 0 (suc (length s)) (omega arith))
  where
    arrow : (is : List Item) → fits 0 false (push_arrow is) ≡ false
    arrow [] = refl
    arrow (Item.loose g ∷ is) = refl
    arrow (Item.type (Ty.context G) ∷ is) = refl
    arrow (Item.type (Ty.simple U) ∷ []) = refl
    arrow (Item.type (Ty.simple U) ∷ Item.loose g ∷ is) = refl
    arrow (Item.type (Ty.simple U) ∷ Item.type (Ty.context G) ∷ is) = refl
    arrow (Item.type (Ty.simple U) ∷ Item.type (Ty.simple T) ∷ is) = refl

    bind : (is : List Item) → fits 0 false (push_bind is) ≡ false
    bind [] = refl
    bind (Item.loose g ∷ is) = refl
    bind (Item.type (Ty.context G) ∷ is) = refl
    bind (Item.type (Ty.simple U) ∷ []) = refl
    bind (Item.type (Ty.simple U) ∷ Item.loose g ∷ is) = refl
    bind (Item.type (Ty.simple U) ∷ Item.type (Ty.simple T) ∷ is) = refl
    bind (Item.type (Ty.simple U) ∷ Item.type (Ty.context G) ∷ is) = refl

    go : (o : Option Sign) (rest : Option (List Sign)) → fits_signs 0 false (cons_sign o rest) ≡ false
    go none rest = refl
    go (some g) none = refl
    go (some (Sign.name a)) (some signs) = refl
    go (some Sign.arrow) (some signs) = arrow (items signs)
    go (some Sign.bind) (some signs) = bind (items signs)
    go (some Sign.empty) (some signs) = refl

-- a difference is 0 exactly where its sides are equal
same_test : (m n : ℕ) → m ≤ n → eqb 0 (n - m) ≡ eqb m n
same_test m n h = go (eqb m n) refl
  where
    go : (t : Bool) → eqb m n ≡ t → eqb 0 (n - m) ≡ eqb m n
    go true e = let same = eqb-true m n e in eq-eqb 0 (n - m) (omega arith) ∙ sym e
    go false e = let other = eqb-false m n e in ne_eqb 0 (n - m) (λ z. other (omega arith)) ∙ sym e

-- `1` ends a context
pub at-empty : (at : ℕ) (s : List ℕ) → at < length s → get_or s at 0 ≡ 49 → owes 0 true (drop at s) ≡ eqb (at + 1) (length s)
unfolding owes sign_of
at-empty at s h e =
    at_sign at s h ∙ ap (λ (b : ℕ). fits_signs 0 true (cons_sign (sign_of b) (signs_of (drop (at + 1) s)))) e ∙ go (signs_of (drop (at + 1) s)) ∙
    empty-owed (drop (at + 1) s) ∙ ap (eqb 0) (length-drop (at + 1) s) ∙ same_test (at + 1) (length s) (omega arith)
  where
    go : (rest : Option (List Sign)) → fits_signs 0 true (cons_sign (some Sign.empty) rest) ≡ fits_signs 0 false rest
    go none = refl
    go (some signs) = push-empty (items signs)

-- behind `*` the context goes on at the end of the simple type
pub at-bind :
    (at : ℕ) (s : List ℕ) → at < length s → get_or s at 0 ≡ 42 → owes 0 true (drop at s) ≡ owes 0 true (drop (simple_end s (at + 1)) s)
unfolding owes sign_of signs_of
at-bind at s h e =
    at_sign at s h ∙ ap (λ (b : ℕ). fits_signs 0 true (cons_sign (sign_of b) (signs_of (drop (at + 1) s)))) e ∙ go (signs_of (drop (at + 1) s)) ∙
    owed-end true s (at + 1) refl
  where
    go : (rest : Option (List Sign)) → fits_signs 0 true (cons_sign (some Sign.bind) rest) ≡ fits_signs 1 true rest
    go none = refl
    go (some signs) = push-bind (items signs)

-- no other byte begins a context
pub at_other : (at : ℕ) (s : List ℕ) → at < length s → (get_or s at 0 ≡ 49 → ⊥) → (get_or s at 0 ≡ 42 → ⊥) → owes 0 true (drop at s) ≡ false
unfolding sign_of
at_other at s h n m =
    at_sign at s h ∙
    rw (ne_eqb (get_or s at 0) 49 n, ne_eqb (get_or s at 0) 42 m)
    (go (eqb (get_or s at 0) 62) (dec_le 97 (get_or s at 0)) (dec_le (get_or s at 0) 122) (signs_of (drop (at + 1) s)))
  where
    go :
        (arrow : Bool) (low : Dec (97 ≤ get_or s at 0)) (high : Dec (get_or s at 0 ≤ 122)) (rest : Option (List Sign)) →
        fits_signs 0 true (cons_sign (chosen arrow Sign.arrow (atom_if (get_or s at 0) low high)) rest) ≡ false
    go true low high none = refl
    go true low high (some signs) = arrow-refused (items signs)
    go false (yes low) (yes high) none = refl
    go false (yes low) (yes high) (some signs) = refl
    go false (yes low) (no high) rest = refl
    go false (no low) high rest = refl

-- no byte is no context
pub at-end : (at : ℕ) (s : List ℕ) → length s ≤ at → owes 0 true (drop at s) ≡ false
unfolding owes signs_of
at-end at s h = ap (owes 0 true) (drop_of_length-le s h)

-- ---- the answers of `is_simple` and `is_type`

-- a difference is all exactly where nothing is taken away
all_test : (m n : ℕ) → m ≤ n → eqb (n - m) n ≡ eqb 0 m
all_test m n h = go (eqb 0 m) refl
  where
    go : (t : Bool) → eqb 0 m ≡ t → eqb (n - m) n ≡ eqb 0 m
    go true e = let same = eqb-true 0 m e in eq-eqb (n - m) n (omega arith) ∙ sym e
    go false e = let other = eqb-false 0 m e in ne_eqb (n - m) n (λ z. other (omega arith)) ∙ sym e

pub simple_test : (s : List ℕ) → eqb (simple_end s 0) (length s) ≡ is_simple (type_of s)
unfolding simple_end
simple_test s = go (behind_simple 1 s) refl ∙ sym (owed-rest 1 false s) ∙ sym (simple-owed s)
  where
    go : (o : Option (List ℕ)) → behind_simple 1 s ≡ o → eqb (index_of s o) (length s) ≡ from_rest false o
    go none e = ne_eqb (suc (length s)) (length s) (omega arith)
    go (some rest) e =
        let (m, q) = suffix 1 s rest e in
        let size : length rest ≡ length s - m = ap length q ∙ length-drop m s in
        all_test (length rest) (length s) (omega arith) ∙ sym (empty-owed rest)

pub type-simple : (s : List ℕ) → is_simple (type_of s) ≡ true → true ≡ is_some (type_of s)
type-simple s = go (type_of s)
  where
    go : (o : Option Ty) → is_simple o ≡ true → true ≡ is_some o
    go none e = sym e
    go (some (Ty.simple U)) e = refl
    go (some (Ty.context G)) e = refl

pub type-context : (s : List ℕ) → is_simple (type_of s) ≡ false → is_some (context_of s) ≡ is_some (type_of s)
unfolding context_of
type-context s = go (type_of s)
  where
    go : (o : Option Ty) → is_simple o ≡ false → is_some (only_context o) ≡ is_some o
    go none e = refl
    go (some (Ty.simple U)) e = sym e
    go (some (Ty.context G)) e = refl
