-- Subject reduction: a change of any part of a term, and so any reduction, keeps each type that the term has.
use Prim.Native.Nat.{ℕ}
use Rattle.calculus.specs.Term.{Term}
use Rattle.calculus.specs.Rule.{Rule}
use Rattle.calculus.specs.Change.{Place, Change}
use Rattle.calculus.specs.Turning.{Reduce}
use Rattle.calculus.specs.Types.{Context, Ty}
use Rattle.calculus.specs.Typing.{Has}

-- What has a type in the empty context has it in every context.
pub weaken_empty : {G : Context} {t : Term} {W : Ty} → Has Context.empty t W → Has G t W
weaken_empty (Has.has_H h k) = Has.has_H (weaken_empty h) (weaken_empty k)
weaken_empty (Has.has_f h k) = Has.has_f (weaken_empty h) (weaken_empty k)
weaken_empty (Has.has_A h k) = Has.has_A (weaken_empty h) k
weaken_empty Has.has_I = Has.has_I
weaken_empty (Has.has_B h k) = Has.has_B (weaken_empty h) (weaken_empty k)
weaken_empty (Has.has_s h k) = Has.has_s (weaken_empty h) k
weaken_empty Has.has_K = Has.has_K

-- A rule keeps each type of its left side.
pub rule-keeps : {n : ℕ} {t u : Term} {G : Context} {W : Ty} → Rule n t u → Has G t W → Has G u W
rule-keeps Rule.rule_1 (Has.has_f h k) = Has.has_H h k
rule-keeps Rule.rule_2 (Has.has_f h k) = Has.has_H h k
rule-keeps Rule.rule_3 (Has.has_f h k) = Has.has_H h k
rule-keeps Rule.rule_4 (Has.has_f (Has.has_A h k) l) = Has.has_s (Has.has_B l h) k
rule-keeps Rule.rule_5 (Has.has_s Has.has_I h) = weaken_empty h
rule-keeps Rule.rule_6 (Has.has_s (Has.has_B h k) Has.has_J) = h
rule-keeps Rule.rule_7 (Has.has_s (Has.has_B h k) (Has.has_R l)) = Has.has_s k l
rule-keeps Rule.rule_8 (Has.has_s h (Has.has_H k l)) = Has.has_f (Has.has_s h k) (Has.has_s h l)
rule-keeps Rule.rule_9 (Has.has_s h (Has.has_A k l)) = Has.has_A (Has.has_s h k) l
rule-keeps Rule.rule_10 (Has.has_s h Has.has_I) = Has.has_I
rule-keeps Rule.rule_11 (Has.has_s h (Has.has_B k l)) = Has.has_B (Has.has_s h k) (Has.has_s h l)
rule-keeps Rule.rule_12 (Has.has_f h k) = Has.has_H h k
rule-keeps Rule.rule_13 (Has.has_s h Has.has_K) = Has.has_K
rule-keeps Rule.rule_1 (Has.has_s x h) = elim x [ ]
rule-keeps Rule.rule_2 (Has.has_s x h) = elim x [ ]
rule-keeps Rule.rule_3 (Has.has_s x h) = elim x [ ]
rule-keeps Rule.rule_4 (Has.has_s x h) = elim x [ ]
rule-keeps Rule.rule_5 (Has.has_f h k) = elim h [ ]
rule-keeps Rule.rule_6 (Has.has_f h k) = elim h [ ]
rule-keeps Rule.rule_7 (Has.has_f h k) = elim h [ ]
rule-keeps Rule.rule_8 (Has.has_f h k) = elim h [ ]
rule-keeps Rule.rule_9 (Has.has_f h k) = elim h [ ]
rule-keeps Rule.rule_10 (Has.has_f h k) = elim h [ ]
rule-keeps Rule.rule_11 (Has.has_f h k) = elim h [ ]
rule-keeps Rule.rule_12 (Has.has_s x h) = elim x [ ]
rule-keeps Rule.rule_13 (Has.has_f h k) = elim h [ ]

-- A change of any part of a term keeps each type of the term.
pub change-keeps : {n : ℕ} {p : Place} {t u : Term} {G : Context} {W : Ty} → Change n p t u → Has G t W → Has G u W
change-keeps (Change.here r) h = rule-keeps r h
change-keeps (Change.in_R c) (Has.has_R h) = Has.has_R (change-keeps c h)
change-keeps (Change.in_H₁ c) (Has.has_H h k) = Has.has_H (change-keeps c h) k
change-keeps (Change.in_H₂ c) (Has.has_H h k) = Has.has_H h (change-keeps c k)
change-keeps (Change.in_A₁ c) (Has.has_A h k) = Has.has_A (change-keeps c h) k
change-keeps (Change.in_A₂ c) (Has.has_A h k) = Has.has_A h (change-keeps c k)
change-keeps (Change.in_B₁ c) (Has.has_B h k) = Has.has_B (change-keeps c h) k
change-keeps (Change.in_B₂ c) (Has.has_B h k) = Has.has_B h (change-keeps c k)
change-keeps (Change.in_app₁ c) (Has.has_f h k) = Has.has_f (change-keeps c h) k
change-keeps (Change.in_app₁ c) (Has.has_s h k) = Has.has_s (change-keeps c h) k
change-keeps (Change.in_app₂ c) (Has.has_f h k) = Has.has_f h (change-keeps c k)
change-keeps (Change.in_app₂ c) (Has.has_s h k) = Has.has_s h (change-keeps c k)

-- A reduction keeps each type of the term.
pub reduce_keeps : {t u : Term} {G : Context} {W : Ty} → Reduce t u → Has G t W → Has G u W
reduce_keeps Reduce.unchanged h = h
reduce_keeps (Reduce.forwards c k) h = reduce_keeps k (change-keeps c h)
