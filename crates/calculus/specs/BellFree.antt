-- Terms without bells, and what can be said of them with figures 1 and 2 alone (REQUIREMENTS, Bells). `proofs/BellFree.antt` shows that the rules for bells
-- say no more of them.
use Rattle.std.specs.Prelude.{ℕ, ◌≤◌}
use mathlib.Core.List.{◌∷◌, Memᴰ}
use Rattle.calculus.specs.Term.{Term}
use Rattle.calculus.specs.Change.{Place, Change}
use Rattle.calculus.specs.Typing.{Judgement}
use Rattle.calculus.specs.Derivation.{Derivable}

-- written in the seven letters that are no bells
pub data BellFree : Term → Type 0 where
  free-J : BellFree Term.J
  free-R : {t : Term} → BellFree t → BellFree (Term.R t)
  free-H : {r t : Term} → BellFree r → BellFree t → BellFree (Term.H r t)
  free-A : {s t : Term} → BellFree s → BellFree t → BellFree (Term.A s t)
  free-I : BellFree Term.I
  free-B : {u s : Term} → BellFree u → BellFree s → BellFree (Term.B u s)
  free-app : {t u : Term} → BellFree t → BellFree u → BellFree (Term.app t u)

-- `FreeTurn t v`: t can be turned into v by figure 1's rules, through terms without bells
pub data FreeTurn : Term → Term → Type 0 where
  unchanged : {t : Term} → FreeTurn t t
  forwards : {n : ℕ} {p : Place} {t u v : Term} → n ≤ 11 → Change n p t u → BellFree u → FreeTurn u v → FreeTurn t v
  backwards : {n : ℕ} {p : Place} {t u v : Term} → n ≤ 11 → Change n p u t → BellFree u → FreeTurn u v → FreeTurn t v

-- a judgement on a term without bells
abbrev pub FreeJudgement : Judgement → Type 0
FreeJudgement (Judgement.judge G t W) = BellFree t

-- derivable by a list of judgements on terms without bells; none of them follows by K
pub record FreeDerivable (j : Judgement) : Type 0 where
  pub derivable : Derivable j
  pub free : (i : Judgement) → Memᴰ i (j ∷ derivable.earlier) → FreeJudgement i
