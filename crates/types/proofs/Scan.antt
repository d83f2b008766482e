-- What scanning does at one byte, as laws over plain variables: these carry the loop of `simple_end` and the tests of `parts_of`; and
-- the law that `simple_end` finds the end of a simple type's text. Assumes nothing.
use Prim.Native.Nat.{ℕ, zero, suc, ◌+◌, ◌-◌, ◌<◌, ◌≤◌}
use native.Mathlib.Numerals.{add-one}
use native.Mathlib.Decide.{dec_le}
use native.Mathlib.Omega.{arith}
use mathlib.Core.Path.{◌≡◌, refl, sym, ◌∙◌, ap}
use mathlib.Core.Bool.{Bool, true, false}
use mathlib.Core.List.{List, [], ◌∷◌, ◌++◌, append-nil, append_assoc}
use mathlib.Core.Option.{Option, none, some}
use borrow.Author.Tests.{eq-eqb, ne_eqb}
use lib.Dec.{eqb}
use lib.ListN.{length, get_or, drop, drop_of_length-le, length-drop, length-append}
use lib.Seq.{drop-cons, drop-append_seam}
use Rattle.std.specs.Prelude.{Some, None}
use Rattle.calculus.specs.Types.{Sign, Simple, sign_text, simple_signs, written, simple_text}
use Rattle.types.specs.Signs.{atom_if, chosen, sign_of}
use Rattle.types.specs.Scan.{parts_of_sign, parts_of, behind_sign, behind_simple, index_of, simple_end}
use Rattle.types.proofs.Parse.{sign_byte}

-- ---- the count of a byte

pub parts-arrow : (b : ℕ) → b ≡ 62 → Some 2 ≡ parts_of b
unfolding parts_of sign_of
parts-arrow b e = rw (eq-eqb b 62 e)

pub parts_low : (b : ℕ) → (b ≡ 62 → ⊥) → b < 97 → None ≡ parts_of b
unfolding parts_of sign_of
parts_low b n h = rw (ne_eqb b 62 n) (go (eqb b 42) (eqb b 49) (dec_le 97 b))
  where
    go :
        (bind empty : Bool) (low : Dec (97 ≤ b)) →
        None ≡ parts_of_sign (chosen bind Sign.bind (chosen empty Sign.empty (atom_if b low (dec_le b 122))))
    go true empty low = refl
    go false true low = refl
    go false false (yes low) = absurd (omega arith)
    go false false (no low) = refl

-- a byte from 97 on is an atom's or no sign's
from_97 : (b : ℕ) → 97 ≤ b → parts_of b ≡ parts_of_sign (atom_if b (dec_le 97 b) (dec_le b 122))
unfolding parts_of sign_of
from_97 b h = rw (ne_eqb b 62 (omega arith), ne_eqb b 42 (omega arith), ne_eqb b 49 (omega arith))

pub parts_high : (b : ℕ) → 122 < b → None ≡ parts_of b
parts_high b h = sym (from_97 b (omega arith) ∙ go (dec_le 97 b) (dec_le b 122))
  where
    go : (low : Dec (97 ≤ b)) (high : Dec (b ≤ 122)) → parts_of_sign (atom_if b low high) ≡ None
    go (yes low) (yes high) = absurd (omega arith)
    go (yes low) (no high) = refl
    go (no low) high = refl

pub parts-atom : (b : ℕ) → 97 ≤ b → b ≤ 122 → Some 0 ≡ parts_of b
parts-atom b h k = sym (from_97 b h ∙ go (dec_le 97 b) (dec_le b 122))
  where
    go : (low : Dec (97 ≤ b)) (high : Dec (b ≤ 122)) → parts_of_sign (atom_if b low high) ≡ Some 0
    go (yes low) (yes high) = refl
    go (yes low) (no high) = absurd (high k)
    go (no low) high = absurd (low h)

-- ---- one turn of the scan

-- the byte at a place, where a simple type is owed
at_byte :
    (k at : ℕ) (s : List ℕ) → at < length s →
    behind_simple (suc k) (drop at s) ≡ behind_sign (sign_of (get_or s at 0)) k (λ n. behind_simple n (drop (suc at) s))
at_byte k at s h = ap (behind_simple (suc k)) (drop-cons s at 0 h)

-- a byte that begins no simple type
pub no_sign :
    (owed at : ℕ) (s : List ℕ) → at < length s → 0 < owed → None ≡ parts_of (get_or s at 0) →
    behind_simple owed (drop at s) ≡ none
unfolding parts_of
no_sign zero at s h owes p = absurd (omega arith)
no_sign (suc k) at s h owes p = at_byte k at s h ∙ go (sign_of (get_or s at 0)) p
  where
    go : (o : Option Sign) → None ≡ parts_of_sign o → behind_sign o k (λ n. behind_simple n (drop (suc at) s)) ≡ none
    go none e = refl
    go (some (Sign.name a)) e = cc
    go (some Sign.arrow) e = cc
    go (some Sign.bind) e = refl
    go (some Sign.empty) e = refl

-- the scan goes on behind a sign, which takes no more than two simple types
pub sign :
    (owed at parts : ℕ) (s : List ℕ) → at < length s → 0 < owed → Some parts ≡ parts_of (get_or s at 0) →
    (parts < 3) × (behind_simple (owed - 1 + parts) (drop (at + 1) s) ≡ behind_simple owed (drop at s))
unfolding parts_of
sign zero at parts s h owes p = absurd (omega arith)
sign (suc k) at parts s h owes p =
    let both = go (sign_of (get_or s at 0)) p in
    (both.0, rw add-one (sym (at_byte k at s h ∙ both.1)))
  where
    go :
        (o : Option Sign) → Some parts ≡ parts_of_sign o →
        (parts < 3) × (behind_sign o k (λ n. behind_simple n (drop (suc at) s)) ≡ behind_simple (suc k - 1 + parts) (drop (suc at) s))
    go none e = cc
    go (some (Sign.name a)) e =
        let zero-parts : parts ≡ 0 = cc in
        (omega arith, ap (λ (n : ℕ). behind_simple n (drop (suc at) s)) {x = k} (omega arith))
    go (some Sign.arrow) e =
        let two-parts : parts ≡ 2 = cc in
        (omega arith, ap (λ (n : ℕ). behind_simple n (drop (suc at) s)) {x = suc (suc k)} (omega arith))
    go (some Sign.bind) e = cc
    go (some Sign.empty) e = cc

-- at the end a simple type is still owed
pub at-end : (owed at : ℕ) (s : List ℕ) → length s ≤ at → 0 < owed → behind_simple owed (drop at s) ≡ none
at-end zero at s h owes = absurd (omega arith)
at-end (suc k) at s h owes = rw (drop_of_length-le s h)

-- nothing is owed: the rest is all that is left
pub nothing-owed : (bytes : List ℕ) → behind_simple 0 bytes ≡ some bytes
nothing-owed [] = refl
nothing-owed (b ∷ bytes) = refl

-- ---- the index that the scan answers

-- one past the end, where no simple type begins
pub end_none : (s : List ℕ) (from : ℕ) → behind_simple 1 (drop from s) ≡ none → length s + 1 ≡ simple_end s from
unfolding simple_end
end_none s from e = add-one (length s) ∙ sym (ap (index_of s) e)

-- the place reached, where nothing is owed any more
pub end-some :
    (s : List ℕ) (from owed at : ℕ) → owed ≤ 0 → at ≤ length s → behind_simple owed (drop at s) ≡ behind_simple 1 (drop from s) →
    at ≡ simple_end s from
unfolding simple_end
end-some s from owed at z h e =
    let none-owed : owed ≡ 0 = omega arith in
    let found : behind_simple 1 (drop from s) ≡ some (drop at s) = sym e ∙ ap (λ (n : ℕ). behind_simple n (drop at s)) none-owed ∙ nothing-owed (drop at s) in
    let place : at ≡ length s - length (drop at s) = omega (arith, length-drop at s) in
    place ∙ sym (ap (index_of s) found)

-- ---- the end of a simple type's text

-- a sign in front of any bytes
behind_sign_lem :
    (g : Sign) (k : ℕ) (bytes : List ℕ) → behind_simple (suc k) (sign_text g ++ bytes) ≡ behind_sign (some g) k (λ n. behind_simple n bytes)
behind_sign_lem g k bytes =
    let (b, written-b, read-b) = sign_byte g in
    ap (λ (s : List ℕ). behind_simple (suc k) (s ++ bytes)) written-b ∙
    ap (λ (o : Option Sign). behind_sign o k (λ n. behind_simple n bytes)) read-b

-- in front of any signs those of a simple type are one of the simple types owed
behind_signs :
    (U : Simple) (k : ℕ) (rest : List Sign) (bytes : List ℕ) →
    behind_simple (suc k) (written (simple_signs U ++ rest) ++ bytes) ≡ behind_simple k (written rest ++ bytes)
behind_signs (Simple.atom a) k rest bytes = behind_sign_lem (Sign.name a) k (written rest ++ bytes)
behind_signs (Simple.arrow U T) k rest bytes =
    behind_sign_lem Sign.arrow k (written ((simple_signs U ++ simple_signs T) ++ rest) ++ bytes) ∙
    ap (λ (signs : List Sign). behind_simple (suc (suc k)) (written signs ++ bytes)) (append_assoc (simple_signs U) (simple_signs T) rest) ∙
    behind_signs U (suc k) (simple_signs T ++ rest) bytes ∙
    behind_signs T k rest bytes

-- a simple type's text is one of the simple types owed
pub behind-text : (U : Simple) (k : ℕ) (bytes : List ℕ) → behind_simple (suc k) (simple_text U ++ bytes) ≡ behind_simple k bytes
behind-text U k bytes =
    ap (λ (signs : List Sign). behind_simple (suc k) (written signs ++ bytes)) (sym (append-nil (simple_signs U))) ∙ behind_signs U k [] bytes

-- a simple type that stands behind `front` ends behind its text
pub simple_end-text :
    (front : List ℕ) (U : Simple) (rest : List ℕ) →
    simple_end (front ++ (simple_text U ++ rest)) (length front) ≡ length front + length (simple_text U)
unfolding simple_end
simple_end-text front U rest =
    let found : behind_simple 1 (drop (length front) (front ++ (simple_text U ++ rest))) ≡ some rest =
    ap (behind_simple 1) (drop-append_seam front (simple_text U ++ rest)) ∙ behind-text U 0 rest ∙ nothing-owed rest in
    let size : length (front ++ (simple_text U ++ rest)) - length rest ≡ length front + length (simple_text U) =
    omega (arith, length-append front (simple_text U ++ rest), length-append (simple_text U) rest) in
    ap (index_of (front ++ (simple_text U ++ rest))) found ∙ size
