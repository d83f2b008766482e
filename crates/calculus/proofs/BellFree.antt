-- Bells change nothing for terms without them: such a term changes by figure 1's rules alone, into terms without bells; its runs, what it can be turned
-- into and what is derivable of it are what they are without the rules for bells. Assumes nothing.
use Prim.Native.Nat.{ℕ, ◌≤◌}
use native.Mathlib.Omega.{arith}
use mathlib.Core.Path.{subst, sym}
use mathlib.Core.Logic.{◌↔◌, ⊎_elim}
use mathlib.Core.List.Memᴰ
use mathlib.Core.List.{List, [], ◌∷◌, Memᴰ}
use Rattle.calculus.specs.Term.{Term}
use Rattle.calculus.specs.Rule.{Rule}
use Rattle.calculus.specs.Change.{Place, Change}
use Rattle.calculus.specs.Run.{Run, run, rules, terms, Runs}
use Rattle.calculus.specs.Turning.{Turn, Reduce}
use Rattle.calculus.specs.Types.{Context, Ty}
use Rattle.calculus.specs.Typing.{Judgement, Name, Follows, Has}
use Rattle.calculus.specs.Derivation.{Derivable}
use Rattle.calculus.specs.BellFree.{BellFree, FreeTurn, FreeJudgement, FreeDerivable}
use Rattle.calculus.proofs.Confluence.{turn-joins}
use Rattle.calculus.proofs.Derivations.{follows-none, follows-one, follows-two, derivable_has}
use Rattle.calculus.proofs.Runs.{run-runs, terms-all}

-- ---- changes and runs

-- a rule on a term without bells is one of figure 1's, and makes none
rule-free : {n : ℕ} {t u : Term} → Rule n t u → BellFree t → (n ≤ 11) × BellFree u
rule-free Rule.rule_1 (BellFree.free-app f a) = (omega arith, BellFree.free-H f a)
rule-free Rule.rule_2 (BellFree.free-app f a) = (omega arith, BellFree.free-H f a)
rule-free Rule.rule_3 (BellFree.free-app f a) = (omega arith, BellFree.free-H f a)
rule-free Rule.rule_4 (BellFree.free-app (BellFree.free-A s t) u) = (omega arith, BellFree.free-app (BellFree.free-B u s) t)
rule-free Rule.rule_5 (BellFree.free-app f a) = (omega arith, a)
rule-free Rule.rule_6 (BellFree.free-app (BellFree.free-B u s) a) = (omega arith, u)
rule-free Rule.rule_7 (BellFree.free-app (BellFree.free-B u s) (BellFree.free-R t)) = (omega arith, BellFree.free-app s t)
rule-free Rule.rule_8 (BellFree.free-app f (BellFree.free-H r t)) = (omega arith, BellFree.free-app (BellFree.free-app f r) (BellFree.free-app f t))
rule-free Rule.rule_9 (BellFree.free-app f (BellFree.free-A r t)) = (omega arith, BellFree.free-A (BellFree.free-app f r) t)
rule-free Rule.rule_10 (BellFree.free-app f a) = (omega arith, a)
rule-free Rule.rule_11 (BellFree.free-app f (BellFree.free-B r t)) = (omega arith, BellFree.free-B (BellFree.free-app f r) (BellFree.free-app f t))
rule-free Rule.rule_12 (BellFree.free-app f a) = elim f [ ]
rule-free Rule.rule_13 (BellFree.free-app f a) = elim a [ ]

-- and so is a change of any part
pub change-free : {n : ℕ} {p : Place} {t u : Term} → Change n p t u → BellFree t → (n ≤ 11) × BellFree u
change-free (Change.here r) h = rule-free r h
change-free (Change.in_R c) (BellFree.free-R h) = let (low, free) = change-free c h in (low, BellFree.free-R free)
change-free (Change.in_H₁ c) (BellFree.free-H h k) = let (low, free) = change-free c h in (low, BellFree.free-H free k)
change-free (Change.in_H₂ c) (BellFree.free-H h k) = let (low, free) = change-free c k in (low, BellFree.free-H h free)
change-free (Change.in_A₁ c) (BellFree.free-A h k) = let (low, free) = change-free c h in (low, BellFree.free-A free k)
change-free (Change.in_A₂ c) (BellFree.free-A h k) = let (low, free) = change-free c k in (low, BellFree.free-A h free)
change-free (Change.in_B₁ c) (BellFree.free-B h k) = let (low, free) = change-free c h in (low, BellFree.free-B free k)
change-free (Change.in_B₂ c) (BellFree.free-B h k) = let (low, free) = change-free c k in (low, BellFree.free-B h free)
change-free (Change.in_app₁ c) (BellFree.free-app h k) = let (low, free) = change-free c h in (low, BellFree.free-app free k)
change-free (Change.in_app₂ c) (BellFree.free-app h k) = let (low, free) = change-free c k in (low, BellFree.free-app h free)

-- each term of a run from a term without bells is without bells
pub terms-free : (fuel area : ℕ) (t : Term) → BellFree t → (u : Term) → Memᴰ u (terms t (run fuel area t)) → BellFree u
terms-free fuel area t = terms-all fuel area t BellFree (λ n v w h a fits. (change-free a.change h).1)

rules-from :
    {fuel area made : ℕ} {t : Term} (r : Run) → Runs fuel area made t r → BellFree t → (n : ℕ) → Memᴰ n (rules r) → n ≤ 11
rules-from (Run.end o) x h n m = absurd (Memᴰ.not-nil m)
rules-from (Run.then k u r) (Runs.one-step normal left a fits rest) h n (Memᴰ.head e) =
    subst (λ (i : ℕ). i ≤ 11) (sym e) (change-free a.change h).0
rules-from (Run.then k u r) (Runs.one-step normal left a fits rest) h n (Memᴰ.tail m) = rules-from r rest (change-free a.change h).1 n m

-- each step of a run from a term without bells is by one of figure 1's rules
pub rules-free : (fuel area : ℕ) (t : Term) → BellFree t → (n : ℕ) → Memᴰ n (rules (run fuel area t)) → n ≤ 11
rules-free fuel area t = rules-from (run fuel area t) (run-runs fuel area t)

-- ---- turning

-- turnings of this kind follow one another
free_trans : {t u v : Term} → FreeTurn t u → FreeTurn u v → FreeTurn t v
free_trans FreeTurn.unchanged k = k
free_trans (FreeTurn.forwards low c free h) k = FreeTurn.forwards low c free (free_trans h k)
free_trans (FreeTurn.backwards low c free h) k = FreeTurn.backwards low c free (free_trans h k)

-- a reduction of a term without bells is such a turning, there and back
reduce_free : {t v : Term} → BellFree t → Reduce t v → FreeTurn t v × FreeTurn v t
reduce_free h Reduce.unchanged = (FreeTurn.unchanged, FreeTurn.unchanged)
reduce_free h (Reduce.forwards c r) =
    let (low, free) = change-free c h in
    let (there, back) = reduce_free free r in
    (FreeTurn.forwards low c free there, free_trans back (FreeTurn.backwards low c h FreeTurn.unchanged))

free-turn : {t u : Term} → FreeTurn t u → Turn t u
free-turn FreeTurn.unchanged = Turn.unchanged
free-turn (FreeTurn.forwards low c free h) = Turn.forwards c (free-turn h)
free-turn (FreeTurn.backwards low c free h) = Turn.backwards c (free-turn h)

-- Terms without bells can be turned into each other exactly when they can by figure 1's rules, through terms without bells.
pub turn-free : (t u : Term) → BellFree t → BellFree u → Turn t u ↔ FreeTurn t u
turn-free t u h k = (meeting, free-turn)
  where
    meeting : Turn t u → FreeTurn t u
    meeting turned = let j = (turn-joins t u).0 turned in free_trans (reduce_free h j.left).0 (reduce_free k j.right).1

-- ---- typing

-- what follows by K is on a bell
pub K-not-free : {premises : List Judgement} {j : Judgement} → Follows Name.K premises j → ¬ FreeJudgement j
K-not-free Follows.by_K h = elim h [ ]

-- a judgement in front of others
in_front_lem :
    {j : Judgement} {js : List Judgement} → FreeJudgement j → ((i : Judgement) → Memᴰ i js → FreeJudgement i) →
    (i : Judgement) → Memᴰ i (j ∷ js) → FreeJudgement i
in_front_lem h others i (Memᴰ.head e) = subst FreeJudgement (sym e) h
in_front_lem h others i (Memᴰ.tail m) = others i m

free-none : {name : Name} {j : Judgement} → Follows name [] j → FreeJudgement j → FreeDerivable j
free-none f h = record { derivable = follows-none f; free = in_front_lem h (λ i m. absurd (Memᴰ.not-nil m)) }

free_one : {name : Name} {i j : Judgement} → Follows name (i ∷ []) j → FreeDerivable i → FreeJudgement j → FreeDerivable j
free_one f d h = record { derivable = follows-one f d.derivable; free = in_front_lem h d.free }

free-two :
    {name : Name} {i k j : Judgement} → Follows name (i ∷ k ∷ []) j → FreeDerivable i → FreeDerivable k → FreeJudgement j → FreeDerivable j
free-two {i} f d e h =
    record {
      derivable = follows-two f d.derivable e.derivable;
      free = in_front_lem h (λ l m. ⊎_elim (d.free l) (e.free l) (Memᴰ.append_cases (i ∷ d.derivable.earlier) m));
    }

has_free : {G : Context} {t : Term} {W : Ty} → Has G t W → BellFree t → FreeDerivable (Judgement.judge G t W)
has_free Has.has_J h = free-none Follows.by_J h
has_free (Has.has_R d) (BellFree.free-R h) = free_one Follows.by_R (has_free d h) (BellFree.free-R h)
has_free (Has.has_H d e) (BellFree.free-H h k) = free-two Follows.by_H (has_free d h) (has_free e k) (BellFree.free-H h k)
has_free (Has.has_f d e) (BellFree.free-app h k) = free-two Follows.by_f (has_free d h) (has_free e k) (BellFree.free-app h k)
has_free (Has.has_A d e) (BellFree.free-A h k) = free-two Follows.by_A (has_free d h) (has_free e k) (BellFree.free-A h k)
has_free Has.has_I h = free-none Follows.by_I h
has_free (Has.has_B d e) (BellFree.free-B h k) = free-two Follows.by_B (has_free d h) (has_free e k) (BellFree.free-B h k)
has_free (Has.has_s d e) (BellFree.free-app h k) = free-two Follows.by_s (has_free d h) (has_free e k) (BellFree.free-app h k)
has_free Has.has_K h = elim h [ ]

-- A judgement on a term without bells is derivable exactly when it is by figure 2's rules, on terms without bells.
pub derivable-free : (G : Context) (t : Term) (W : Ty) → BellFree t → Derivable (Judgement.judge G t W) ↔ FreeDerivable (Judgement.judge G t W)
derivable-free G t W h = (λ d. has_free ((derivable_has G t W).0 d) h, λ d. d.derivable)
