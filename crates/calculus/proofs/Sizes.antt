-- A step at most doubles the size of a term.
use Prim.Native.Nat.{ℕ, ◌*◌, ◌≤◌}
use mathlib.Core.Path.{◌≡◌}
use native.Mathlib.Omega.{arith}
use Rattle.calculus.specs.Term.{Term, size}
use Rattle.calculus.specs.Rule.{Rule}
use Rattle.calculus.specs.Change.{Place, Change}
use Rattle.calculus.specs.Order.{Next, next}
use Rattle.calculus.proofs.Order.{next-is-step}

rule-size : {n : ℕ} {t u : Term} → Rule n t u → size u ≤ 2 * size t
rule-size Rule.rule_1 = omega arith
rule-size Rule.rule_2 = omega arith
rule-size Rule.rule_3 = omega arith
rule-size Rule.rule_4 = omega arith
rule-size Rule.rule_5 = omega arith
rule-size Rule.rule_6 = omega arith
rule-size Rule.rule_7 = omega arith
rule-size Rule.rule_8 = omega arith
rule-size Rule.rule_9 = omega arith
rule-size Rule.rule_10 = omega arith
rule-size Rule.rule_11 = omega arith
rule-size Rule.rule_12 = omega arith
rule-size Rule.rule_13 = omega arith

-- one change at most doubles the size
pub change-size : {n : ℕ} {p : Place} {t u : Term} → Change n p t u → size u ≤ 2 * size t
change-size (Change.here r) = rule-size r
change-size (Change.in_R c) = omega (arith, change-size c)
change-size (Change.in_H₁ c) = omega (arith, change-size c)
change-size (Change.in_H₂ c) = omega (arith, change-size c)
change-size (Change.in_A₁ c) = omega (arith, change-size c)
change-size (Change.in_A₂ c) = omega (arith, change-size c)
change-size (Change.in_B₁ c) = omega (arith, change-size c)
change-size (Change.in_B₂ c) = omega (arith, change-size c)
change-size (Change.in_app₁ c) = omega (arith, change-size c)
change-size (Change.in_app₂ c) = omega (arith, change-size c)

-- the next term is at most twice as large
pub next-size : (t : Term) {n : ℕ} {u : Term} → next t ≡ Next.step n u → size u ≤ 2 * size t
next-size t {n} {u} e = change-size ((next-is-step n t u).0 e).change
