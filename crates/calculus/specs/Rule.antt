-- The thirteen rules: figure 1's eleven, with its numbers, and two for bells (REQUIREMENTS, Rules).
use Rattle.std.specs.Prelude.{ℕ, List, [], ◌∷◌}
use Rattle.calculus.specs.Bell.{Bell}
use Rattle.calculus.specs.Term.{Term}

-- `Rule n x y`: by rule n, x gives y
pub data Rule : ℕ → Term → Term → Type 0 where
  rule_1 : {t : Term} → Rule 1 (Term.app Term.J t) (Term.H Term.J t)
  rule_2 : {t u : Term} → Rule 2 (Term.app (Term.R t) u) (Term.H (Term.R t) u)
  rule_3 : {r t u : Term} → Rule 3 (Term.app (Term.H r t) u) (Term.H (Term.H r t) u)
  rule_4 : {s t u : Term} → Rule 4 (Term.app (Term.A s t) u) (Term.app (Term.B u s) t)
  rule_5 : {t : Term} → Rule 5 (Term.app Term.I t) t
  rule_6 : {u s : Term} → Rule 6 (Term.app (Term.B u s) Term.J) u
  rule_7 : {u s t : Term} → Rule 7 (Term.app (Term.B u s) (Term.R t)) (Term.app s t)
  rule_8 : {u s r t : Term} → Rule 8 (Term.app (Term.B u s) (Term.H r t)) (Term.app (Term.app (Term.B u s) r) (Term.app (Term.B u s) t))
  rule_9 : {u s r t : Term} → Rule 9 (Term.app (Term.B u s) (Term.A r t)) (Term.A (Term.app (Term.B u s) r) t)
  rule_10 : {u s : Term} → Rule 10 (Term.app (Term.B u s) Term.I) Term.I
  rule_11 : {u s r t : Term} → Rule 11 (Term.app (Term.B u s) (Term.B r t)) (Term.B (Term.app (Term.B u s) r) (Term.app (Term.B u s) t))
  rule_12 : {k : Bell} {t : Term} → Rule 12 (Term.app (Term.bell k) t) (Term.H (Term.bell k) t)
  rule_13 : {u s : Term} {k : Bell} → Rule 13 (Term.app (Term.B u s) (Term.bell k)) (Term.bell k)

-- the rules' numbers, in order; `proofs/Ranges.antt` shows that no rule has another, and that a step is made by each of them
abbrev pub rule_numbers : List ℕ
rule_numbers = 1 ∷ 2 ∷ 3 ∷ 4 ∷ 5 ∷ 6 ∷ 7 ∷ 8 ∷ 9 ∷ 10 ∷ 11 ∷ 12 ∷ 13 ∷ []
