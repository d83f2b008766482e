-- The nine typing rules (REQUIREMENTS, Typing), figure 2's eight and K for bells, each as a judgement that follows from its premises, which stand in
-- the paper's order.
use Rattle.std.specs.Prelude.{ℕ, List, [], ◌∷◌}
use Rattle.calculus.specs.Bell.{Bell}
use Rattle.calculus.specs.Letter.{Letter, byte}
use Rattle.calculus.specs.Term.{Term}
use Rattle.calculus.specs.Types.{Simple, Context, Ty, bell_type}

-- `judge G t W`: the term t has the type W in the context G
pub data Judgement : Type 0 where
  judge : Context → Term → Ty → Judgement

-- the letters by which a line names its rule
pub data Name : Type 0 where
  J R H A f I B s K : Name

-- the name's ASCII code
abbrev pub name_byte : Name → ℕ
name_byte Name.J = byte Letter.J
name_byte Name.R = byte Letter.R
name_byte Name.H = byte Letter.H
name_byte Name.A = byte Letter.A
name_byte Name.f = 102
name_byte Name.I = byte Letter.I
name_byte Name.B = byte Letter.B
name_byte Name.s = 115
name_byte Name.K = 75

-- `Follows name premises j`: by the rule of that name, j follows from the premises
pub data Follows : Name → List Judgement → Judgement → Type 0 where
  by_J : {U : Simple} {D : Context} → Follows Name.J [] (Judgement.judge (Context.bind U D) Term.J (Ty.simple U))
  by_R :
      {T U : Simple} {D : Context} {u : Term} →
      Follows Name.R (Judgement.judge D u (Ty.simple U) ∷ []) (Judgement.judge (Context.bind T D) (Term.R u) (Ty.simple U))
  by_H :
      {G : Context} {U T : Simple} {t u : Term} →
      Follows Name.H
      (Judgement.judge G t (Ty.simple (Simple.arrow U T)) ∷ Judgement.judge G u (Ty.simple U) ∷ [])
      (Judgement.judge G (Term.H t u) (Ty.simple T))
  by_f :
      {G : Context} {U T : Simple} {t u : Term} →
      Follows Name.f
      (Judgement.judge G t (Ty.simple (Simple.arrow U T)) ∷ Judgement.judge G u (Ty.simple U) ∷ [])
      (Judgement.judge G (Term.app t u) (Ty.simple T))
  by_A :
      {G D : Context} {U T : Simple} {s t : Term} →
      Follows Name.A
      (Judgement.judge G s (Ty.context D) ∷ Judgement.judge (Context.bind U D) t (Ty.simple T) ∷ [])
      (Judgement.judge G (Term.A s t) (Ty.simple (Simple.arrow U T)))
  by_I : {G : Context} → Follows Name.I [] (Judgement.judge G Term.I (Ty.context Context.empty))
  by_B :
      {G D : Context} {U : Simple} {u s : Term} →
      Follows Name.B
      (Judgement.judge G u (Ty.simple U) ∷ Judgement.judge G s (Ty.context D) ∷ [])
      (Judgement.judge G (Term.B u s) (Ty.context (Context.bind U D)))
  by_s :
      {G D : Context} {W : Ty} {s t : Term} →
      Follows Name.s
      (Judgement.judge G s (Ty.context D) ∷ Judgement.judge D t W ∷ [])
      (Judgement.judge G (Term.app s t) W)
  by_K : {G : Context} {k : Bell} → Follows Name.K [] (Judgement.judge G (Term.bell k) (Ty.simple bell_type))

-- the rules as a tree: `Has G t W` is a derivation of `judge G t W`, each rule on the derivations of its premises
pub data Has : Context → Term → Ty → Type 0 where
  has_J : {U : Simple} {D : Context} → Has (Context.bind U D) Term.J (Ty.simple U)
  has_R : {T U : Simple} {D : Context} {u : Term} → Has D u (Ty.simple U) → Has (Context.bind T D) (Term.R u) (Ty.simple U)
  has_H : {G : Context} {U T : Simple} {t u : Term} → Has G t (Ty.simple (Simple.arrow U T)) → Has G u (Ty.simple U) → Has G (Term.H t u) (Ty.simple T)
  has_f : {G : Context} {U T : Simple} {t u : Term} → Has G t (Ty.simple (Simple.arrow U T)) → Has G u (Ty.simple U) → Has G (Term.app t u) (Ty.simple T)
  has_A : {G D : Context} {U T : Simple} {s t : Term} → Has G s (Ty.context D) → Has (Context.bind U D) t (Ty.simple T) → Has G (Term.A s t) (Ty.simple (Simple.arrow U T))
  has_I : {G : Context} → Has G Term.I (Ty.context Context.empty)
  has_B : {G D : Context} {U : Simple} {u s : Term} → Has G u (Ty.simple U) → Has G s (Ty.context D) → Has G (Term.B u s) (Ty.context (Context.bind U D))
  has_s : {G D : Context} {W : Ty} {s t : Term} → Has G s (Ty.context D) → Has D t W → Has G (Term.app s t) W
  has_K : {G : Context} {k : Bell} → Has G (Term.bell k) (Ty.simple bell_type)
