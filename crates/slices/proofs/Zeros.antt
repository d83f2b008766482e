-- Whether bytes are all 0, from an index on: the byte there decides, and then the rest. Assumes nothing.
use Prim.Native.Nat.{ℕ, suc, ◌+◌, ◌-◌, ◌<◌, ◌≤◌}
use native.Mathlib.Numerals.{add-one}
use native.Mathlib.Omega.{arith}
use mathlib.Core.Path.{◌≡◌, refl, sym, ◌∙◌, ap, ap₂}
use mathlib.Core.Bool.{Bool, true, false, ◌&&◌}
use mathlib.Core.List.{List}
use borrow.Author.Tests.{eq-eqb, ne_eqb}
use lib.Dec.{eqb}
use lib.ListN.{length, drop, replicate, get_or, drop_of_length-le}
use lib.Seq.{drop-cons}
use mathlib.Core.Logic.{inl, inr}
use Rattle.std.proofs.lemmas.Bool.Decides.{eqb_tells}
use Rattle.slices.specs.Same.{same}

-- whether those from index `at` on are
abbrev pub zeros_from : ℕ → List ℕ → Bool
zeros_from at s = same (drop at s) (replicate (length s - at) 0)

module _ (s : List ℕ) (at : ℕ) (h : at < length s) where
  zeros-at : zeros_from at s ≡ (eqb (get_or s at 0) 0 && zeros_from (at + 1) s)
  zeros-at =
      let more : length s - at ≡ suc (length s - (at + 1)) = omega arith in
      ap₂ (λ (l : List ℕ) (n : ℕ). same l (replicate n 0)) (drop-cons s at 0 h) more
      ∙ ap (λ (n : ℕ). eqb (get_or s at 0) 0 && same (drop n s) (replicate (length s - (at + 1)) 0)) (sym (add-one at))

  pub zeros-on : (clean : Bool) → get_or s at 0 ≡ 0 → (clean && zeros_from (at + 1) s) ≡ (clean && zeros_from at s)
  zeros-on clean e =
      ap (λ (b : Bool). clean && b) (sym (zeros-at ∙ ap (λ (b : Bool). b && zeros_from (at + 1) s) (eq-eqb (get_or s at 0) 0 e)))

  pub zeros-off : (clean : Bool) → ¬ (get_or s at 0 ≡ 0) → false ≡ (clean && zeros_from at s)
  zeros-off true n = sym (zeros-at ∙ ap (λ (b : Bool). b && zeros_from (at + 1) s) (ne_eqb (get_or s at 0) 0 n))
  zeros-off false n = refl

-- both in one, for what the flag has become
pub zeros_step :
    (clean next : Bool) (s : List ℕ) (at : ℕ) → at < length s →
    (get_or s at 0 ≡ 0 → next ≡ clean) → (¬ (get_or s at 0 ≡ 0) → next ≡ false) →
    (clean && zeros_from at s) ≡ same s (replicate (length s) 0) → (next && zeros_from (at + 1) s) ≡ same s (replicate (length s) 0)
zeros_step clean next s at h kept left e =
    elim (eqb_tells (get_or s at 0) 0) [
      | inl z ↦ ap (λ (b : Bool). b && zeros_from (at + 1) s) (kept z.1) ∙ zeros-on s at h clean z.1 ∙ e
      | inr z ↦ ap (λ (b : Bool). b && zeros_from (at + 1) s) (left z.1) ∙ zeros-off s at h clean z.1 ∙ e
    ]

-- at the end
pub zeros-end : (clean : Bool) (s : List ℕ) (at : ℕ) → length s ≤ at → clean ≡ (clean && zeros_from at s)
zeros-end clean s at h =
    let none : length s - at ≡ 0 = omega arith in
    sym (and-true clean)
    ∙ ap (λ (b : Bool). clean && b) (sym (ap₂ (λ (l : List ℕ) (n : ℕ). same l (replicate n 0)) (drop_of_length-le s h) none))
  where
    and-true : (b : Bool) → (b && true) ≡ b
    and-true true = refl
    and-true false = refl
