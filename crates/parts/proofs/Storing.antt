-- Ends are stored part by part, and that of a node behind those of its parts. Assumes nothing.
use Prim.Native.Nat.{ℕ, ◌+◌, ◌≤◌, ◌<◌}
use native.Mathlib.Omega.{arith}
use native.Mathlib.Decide.{dec_lt}
use mathlib.Core.Path.{◌≡◌, refl, sym, ◌∙◌, ap}
use mathlib.Core.List.{List}
use lib.ListN.{length, set, length-set}
use lib.Seq.{get_or-set_same, get_or-set_other}
use Rattle.parts.specs.Skip.{end_at}
use Rattle.parts.specs.Ends.{listed, Stored}

-- of no part nothing is stored
pub stored-none : (s : List ℕ) (at : ℕ) (ends : List ℕ) → Stored s at at ends ends
stored-none s at ends =
    record { long = refl; inside = λ i h k. absurd (omega arith); before = λ i h. refl; behind = λ i h. refl }

-- the ends from one index up to another, and then from there on
pub stored-then :
    {s : List ℕ} {from mid to : ℕ} {ends ends₁ ends₂ : List ℕ} →
    from ≤ mid → mid ≤ to → Stored s from mid ends ends₁ → Stored s mid to ends₁ ends₂ → Stored s from to ends ends₂
stored-then {s} {from} {mid} {to} {ends} {ends₁} {ends₂} h k first second =
    record {
      long = second.long ∙ first.long;
      inside = λ i l m. within i l m (dec_lt i mid);
      before = λ i l. second.before i (omega arith) ∙ first.before i l;
      behind = λ i l. second.behind i l ∙ first.behind i (omega arith);
    }
  where
    within : (i : ℕ) → from ≤ i → i < to → Dec (i < mid) → listed ends₂ i ≡ end_at s i
    within i l m (yes n) = second.before i n ∙ first.inside i l n
    within i l m (no n) = second.inside i (omega arith) m

-- and the end of the node in front of them
pub stored-node :
    {s : List ℕ} {at to : ℕ} {ends ends₁ ends₂ : List ℕ} →
    at < to → at < length ends₁ → to ≡ end_at s at → ends₂ ≡ set ends₁ at to → Stored s (at + 1) to ends ends₁ → Stored s at to ends ends₂
stored-node {s} {at} {to} {ends} {ends₁} {ends₂} h short e stores rest =
    record {
      long = ap length stores ∙ length-set ends₁ at to ∙ rest.long;
      inside = λ i l m. within i l m (dec_lt at i);
      before = λ i l. other i (omega arith) ∙ rest.before i (omega arith);
      behind = λ i l. other i (omega arith) ∙ rest.behind i l;
    }
  where
    other : (i : ℕ) → (i ≡ at → ⊥) → listed ends₂ i ≡ listed ends₁ i
    other i n = ap (λ (l : List ℕ). listed l i) stores ∙ get_or-set_other ends₁ at i to 0 n

    within : (i : ℕ) → at ≤ i → i < to → Dec (at < i) → listed ends₂ i ≡ end_at s i
    within i l m (yes n) = other i (omega arith) ∙ rest.inside i (omega arith) m
    within i l m (no n) =
        let same : i ≡ at = omega arith in
        ap (λ (x : List ℕ). listed x i) stores
        ∙ ap (listed (set ends₁ at to)) same
        ∙ get_or-set_same ends₁ at to 0 short
        ∙ e
        ∙ ap (end_at s) (sym same)
