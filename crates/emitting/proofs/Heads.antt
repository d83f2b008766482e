-- The text of a term, by its cell's letter and how many terms that letter takes. Assumes nothing.
use Prim.Native.Nat.{ℕ}
use native.Mathlib.Omega.{arith}
use mathlib.Core.Path.{◌≡◌, refl, sym, ◌∙◌, ap}
use mathlib.Core.List.{List, [], ◌∷◌, ◌++◌}
use lib.ListN.{get_or}
use mathlib.Core.Bool.{Bool, true, false}
use borrow.Author.Tests.{eqb-true, eqb-false}
use lib.Dec.{eqb}
use Rattle.std.specs.Option.{option_eq}
use Rattle.std.specs.Prelude.{Option, Some, None}
use Rattle.calculus.specs.Letter.{Letter, byte}
use Rattle.calculus.specs.Term.{Term, text}
use Rattle.reading.specs.Arity.{arity_of}
use Rattle.reading.proofs.Scan.{arity-byte}
use Rattle.cells.specs.Cell.{letter_in, first_in, second_in}
use Rattle.cells.specs.Stands.{Stands}
use Rattle.cells.proofs.Opening.{at_first, at_second, opened-R}

-- two counts are not the same
other : {m n : ℕ} → Some m ≡ Some n → ¬ (m ≡ n) → ⊥
other e differ = differ (cc)

-- what a test for a count says
pub count-is : {o : Option ℕ} {n : ℕ} {b : Bool} → b ≡ option_eq eqb o (Some n) → b ≡ true → o ≡ Some n
count-is {o = None} e t = cc
count-is {o = Some m} {n = n} e t = ap Some (eqb-true m n (sym e ∙ t))

pub count-not : {o : Option ℕ} {n : ℕ} {b : Bool} → b ≡ option_eq eqb o (Some n) → b ≡ false → ¬ (o ≡ Some n)
count-not {n = n} e f is = eqb-false n n (sym (e ∙ ap (λ (o : Option ℕ). option_eq eqb o (Some n)) is) ∙ f) refl

-- a text with another number for its first byte
lettered : (s : List ℕ) {b c : ℕ} → c ≡ b → b ∷ s ≡ c ∷ s
lettered s e = ap (λ (k : ℕ). k ∷ s) (sym e)

module _ {cells : List ℕ} {top : ℕ} where
  -- `R` and one term
  pub one-part :
      {i : ℕ} {t : Term} → Stands cells top i t → letter_in (get_or cells i 0) ≡ byte Letter.R →
      (u : Term) × (text t ≡ letter_in (get_or cells i 0) ∷ text u) × Stands cells top (first_in (get_or cells i 0)) u
  one-part s e = let (u, same, first) = opened-R s e in (u, ap text same ∙ lettered (text u) e, first)

  -- a letter that takes two terms, and both
  pub two-parts :
      {i : ℕ} {t : Term} → Stands cells top i t → arity_of (letter_in (get_or cells i 0)) ≡ Some 2 →
      (u : Term) × (v : Term) × (text t ≡ letter_in (get_or cells i 0) ∷ (text u ++ text v))
      × Stands cells top (first_in (get_or cells i 0)) u × Stands cells top (second_in (get_or cells i 0)) v
  two-parts {i} (Stands.J c) e = absurd (other (arity-byte Letter.J (letter_in (get_or cells i 0)) c.lettered ∙ e) (omega arith))
  two-parts {i} (Stands.R c x) e = absurd (other (arity-byte Letter.R (letter_in (get_or cells i 0)) c.lettered ∙ e) (omega arith))
  two-parts (Stands.H {r = u} {t = v} c x y) e = (u, v, lettered (text u ++ text v) c.lettered, at_first c x, at_second c y)
  two-parts (Stands.A {s = u} {t = v} c x y) e = (u, v, lettered (text u ++ text v) c.lettered, at_first c x, at_second c y)
  two-parts {i} (Stands.I c) e = absurd (other (arity-byte Letter.I (letter_in (get_or cells i 0)) c.lettered ∙ e) (omega arith))
  two-parts (Stands.B {u = u} {s = v} c x y) e = (u, v, lettered (text u ++ text v) c.lettered, at_first c x, at_second c y)
  two-parts (Stands.app {t = u} {u = v} c x y) e = (u, v, lettered (text u ++ text v) c.lettered, at_first c x, at_second c y)
  two-parts {i} (Stands.bell {k = k} c) e = absurd (other (arity-byte (Letter.bell k) (letter_in (get_or cells i 0)) c.lettered ∙ e) (omega arith))

  -- any other letter stands alone
  pub no_part :
      {i : ℕ} {t : Term} → Stands cells top i t → ¬ (letter_in (get_or cells i 0) ≡ byte Letter.R) →
      ¬ (arity_of (letter_in (get_or cells i 0)) ≡ Some 2) → text t ≡ letter_in (get_or cells i 0) ∷ []
  no_part (Stands.J c) r n = lettered [] c.lettered
  no_part (Stands.R c x) r n = absurd (r c.lettered)
  no_part {i} (Stands.H c x y) r n = absurd (n (sym (arity-byte Letter.H (letter_in (get_or cells i 0)) c.lettered)))
  no_part {i} (Stands.A c x y) r n = absurd (n (sym (arity-byte Letter.A (letter_in (get_or cells i 0)) c.lettered)))
  no_part (Stands.I c) r n = lettered [] c.lettered
  no_part {i} (Stands.B c x y) r n = absurd (n (sym (arity-byte Letter.B (letter_in (get_or cells i 0)) c.lettered)))
  no_part {i} (Stands.app c x y) r n = absurd (n (sym (arity-byte Letter.stop (letter_in (get_or cells i 0)) c.lettered)))
  no_part (Stands.bell c) r n = lettered [] c.lettered
