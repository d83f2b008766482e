-- The rules' numbers are those of the list and no others, 1 to 13. Assumes nothing.
use Prim.Native.Nat.{ℕ, zero, suc, ◌≤◌, ◌<◌}
use native.Mathlib.Omega.{arith}
use mathlib.Core.Path.{◌≡◌, refl, sym, subst}
use mathlib.Core.List.Memᴰ
use mathlib.Core.List.{List, [], ◌∷◌, map, Memᴰ}
use lib.ListN.{length, get_or}
use Rattle.calculus.specs.Bell.{Row}
use Rattle.calculus.specs.Term.{Term}
use Rattle.calculus.specs.Rule.{Rule, rule_numbers}
use Rattle.calculus.specs.Change.{Place, Change}
use Rattle.calculus.specs.Order.{Next, next}

-- ---- numbers of a list

-- what holds of each number of a list, one by one
abbrev pub Each : (ℕ → Type 0) → List ℕ → Type 0
Each P [] = Unit
Each P (n ∷ numbers) = P n × Each P numbers

-- holds of whichever stands in it
pub each : (P : ℕ → Type 0) {n : ℕ} (numbers : List ℕ) → Each P numbers → Memᴰ n numbers → P n
each P [] all m = absurd (Memᴰ.not-nil m)
each P (k ∷ numbers) all (Memᴰ.head e) = subst P (sym e) all.0
each P (k ∷ numbers) all (Memᴰ.tail m) = each P numbers all.1 m

-- what stands at an index stands in the list
at_index : (i : ℕ) (numbers : List ℕ) → i < length numbers → Memᴰ (get_or numbers i 0) numbers
at_index i [] h = absurd (omega arith)
at_index zero (n ∷ numbers) h = Memᴰ.head refl
at_index (suc i) (n ∷ numbers) h = Memᴰ.tail (at_index i numbers (omega arith))

-- ---- numbers of rules

-- a rule's number is listed
pub rule-listed : {n : ℕ} {t u : Term} → Rule n t u → Memᴰ n rule_numbers
rule-listed Rule.rule_1 = at_index 0 rule_numbers (omega arith)
rule-listed Rule.rule_2 = at_index 1 rule_numbers (omega arith)
rule-listed Rule.rule_3 = at_index 2 rule_numbers (omega arith)
rule-listed Rule.rule_4 = at_index 3 rule_numbers (omega arith)
rule-listed Rule.rule_5 = at_index 4 rule_numbers (omega arith)
rule-listed Rule.rule_6 = at_index 5 rule_numbers (omega arith)
rule-listed Rule.rule_7 = at_index 6 rule_numbers (omega arith)
rule-listed Rule.rule_8 = at_index 7 rule_numbers (omega arith)
rule-listed Rule.rule_9 = at_index 8 rule_numbers (omega arith)
rule-listed Rule.rule_10 = at_index 9 rule_numbers (omega arith)
rule-listed Rule.rule_11 = at_index 10 rule_numbers (omega arith)
rule-listed Rule.rule_12 = at_index 11 rule_numbers (omega arith)
rule-listed Rule.rule_13 = at_index 12 rule_numbers (omega arith)

-- the rule of a term's next step, 0 where there is none
abbrev rule_of : Next → ℕ
rule_of Next.stop = 0
rule_of (Next.step n u) = n

-- a term whose next step is by rule 1, one by rule 2, and so on
abbrev pub samples : List Term
samples =
    Term.app Term.J Term.J
    ∷ Term.app (Term.R Term.J) Term.J
    ∷ Term.app (Term.H Term.J Term.J) Term.J
    ∷ Term.app (Term.A Term.J Term.J) Term.J
    ∷ Term.app Term.I Term.J
    ∷ Term.app (Term.B Term.J Term.J) Term.J
    ∷ Term.app (Term.B Term.J Term.J) (Term.R Term.J)
    ∷ Term.app (Term.B Term.J Term.J) (Term.H Term.J Term.J)
    ∷ Term.app (Term.B Term.J Term.J) (Term.A Term.J Term.J)
    ∷ Term.app (Term.B Term.J Term.J) Term.I
    ∷ Term.app (Term.B Term.J Term.J) (Term.B Term.J Term.J)
    ∷ Term.app (Term.bell Row.first) Term.J
    ∷ Term.app (Term.B Term.J Term.J) (Term.bell Row.first)
    ∷ []

-- so every listed number is a rule's
pub samples-listed : map (λ (t : Term). rule_of (next t)) samples ≡ rule_numbers
samples-listed = refl

-- the number of one change, wherever its part stands, is a rule's
pub change-listed : {n : ℕ} {p : Place} {t u : Term} → Change n p t u → Memᴰ n rule_numbers
change-listed (Change.here r) = rule-listed r
change-listed (Change.in_R c) = change-listed c
change-listed (Change.in_H₁ c) = change-listed c
change-listed (Change.in_H₂ c) = change-listed c
change-listed (Change.in_A₁ c) = change-listed c
change-listed (Change.in_A₂ c) = change-listed c
change-listed (Change.in_B₁ c) = change-listed c
change-listed (Change.in_B₂ c) = change-listed c
change-listed (Change.in_app₁ c) = change-listed c
change-listed (Change.in_app₂ c) = change-listed c

-- and from 1 to 13
pub listed_range : {n : ℕ} → Memᴰ n rule_numbers → (1 ≤ n) × (n ≤ 13)
listed_range = each (λ (n : ℕ). (1 ≤ n) × (n ≤ 13)) rule_numbers (omega arith)

pub change_range : {n : ℕ} {p : Place} {t u : Term} → Change n p t u → (1 ≤ n) × (n ≤ 13)
change_range c = listed_range (change-listed c)
