-- The two views of derivable agree: a finite list of judgements ends with one exactly when figure 2 has a tree for it.
use Prim.Native.Nat.{ℕ}
use mathlib.Core.Path.{refl, sym, subst}
use mathlib.Core.List.Memᴰ
use mathlib.Core.List.{List, [], ◌∷◌, ◌++◌, Memᴰ}
use mathlib.Core.Logic.{◌↔◌}
use Rattle.calculus.specs.Term.{Term}
use Rattle.calculus.specs.Change.{Place, Change}
use Rattle.calculus.specs.Turning.{Reduce}
use Rattle.calculus.specs.Types.{Simple, Context, Ty}
use Rattle.calculus.specs.Typing.{Judgement, Name, Follows, Has}
use Rattle.calculus.specs.Derivation.{Among, Derivation, Derivable}
use Rattle.calculus.proofs.SubjectReduction.{change-keeps, reduce_keeps}

-- the trees of a judgement
abbrev pub Tree : Judgement → Type 0
Tree (Judgement.judge G t W) = Has G t W

-- What follows from judgements that have trees has a tree.
pub follows_has :
    {name : Name} {premises earlier : List Judgement} {j : Judgement} →
    Follows name premises j → Among earlier premises → ((k : Judgement) → Memᴰ k earlier → Tree k) → Tree j
follows_has Follows.by_J Among.all tree = Has.has_J
follows_has Follows.by_R (Among.also m Among.all) tree = Has.has_R (tree _ m)
follows_has Follows.by_H (Among.also m (Among.also k Among.all)) tree = Has.has_H (tree _ m) (tree _ k)
follows_has Follows.by_f (Among.also m (Among.also k Among.all)) tree = Has.has_f (tree _ m) (tree _ k)
follows_has Follows.by_A (Among.also m (Among.also k Among.all)) tree = Has.has_A (tree _ m) (tree _ k)
follows_has Follows.by_I Among.all tree = Has.has_I
follows_has Follows.by_B (Among.also m (Among.also k Among.all)) tree = Has.has_B (tree _ m) (tree _ k)
follows_has Follows.by_s (Among.also m (Among.also k Among.all)) tree = Has.has_s (tree _ m) (tree _ k)
follows_has Follows.by_K Among.all tree = Has.has_K

-- Each judgement of a derivation has a tree.
pub members_have : {js : List Judgement} → Derivation js → (j : Judgement) → Memᴰ j js → Tree j
members_have Derivation.start j m = elim m [ ]
members_have (Derivation.line f a d) j (Memᴰ.head e) = subst Tree (sym e) (follows_has f a (members_have d))
members_have (Derivation.line f a d) j (Memᴰ.tail m) = members_have d j m

-- The last judgement of a derivation has a tree.
pub derivation_has : {j : Judgement} {earlier : List Judgement} → Derivation (j ∷ earlier) → Tree j
derivation_has d = members_have d _ (Memᴰ.head refl)

-- What stands in a list still stands in it with another list behind.
pub among-append : {earlier js : List Judgement} (more : List Judgement) → Among earlier js → Among (earlier ++ more) js
among-append more Among.all = Among.all
among-append more (Among.also m a) = Among.also (Memᴰ.append_left more m) (among-append more a)

-- One derivation behind another is a derivation.
pub derivation-append : {js more : List Judgement} → Derivation js → Derivation more → Derivation (js ++ more)
derivation-append Derivation.start e = e
derivation-append (Derivation.line f a d) e = Derivation.line f (among-append _ a) (derivation-append d e)

-- What follows from no premise is derivable.
abbrev pub follows-none : {name : Name} {j : Judgement} → Follows name [] j → Derivable j
follows-none f = record { earlier = _; derivation = Derivation.line f Among.all Derivation.start }

-- What follows from a derivable judgement is derivable.
abbrev pub follows-one : {name : Name} {i j : Judgement} → Follows name (i ∷ []) j → Derivable i → Derivable j
follows-one f d = record { earlier = _; derivation = Derivation.line f (Among.also (Memᴰ.head refl) Among.all) d.derivation }

-- What follows from two derivable judgements is derivable.
abbrev pub follows-two : {name : Name} {i k j : Judgement} → Follows name (i ∷ k ∷ []) j → Derivable i → Derivable k → Derivable j
follows-two {i} f d e =
    let both = derivation-append d.derivation e.derivation in
    let second = Memᴰ.append_right (i ∷ d.earlier) (Memᴰ.head refl) in
    record { earlier = _; derivation = Derivation.line f (Among.also (Memᴰ.head refl) (Among.also second Among.all)) both }

-- A judgement that has a tree is derivable.
pub has_derivation : {G : Context} {t : Term} {W : Ty} → Has G t W → Derivable (Judgement.judge G t W)
has_derivation Has.has_J = follows-none Follows.by_J
has_derivation (Has.has_R h) = follows-one Follows.by_R (has_derivation h)
has_derivation (Has.has_H h k) = follows-two Follows.by_H (has_derivation h) (has_derivation k)
has_derivation (Has.has_f h k) = follows-two Follows.by_f (has_derivation h) (has_derivation k)
has_derivation (Has.has_A h k) = follows-two Follows.by_A (has_derivation h) (has_derivation k)
has_derivation Has.has_I = follows-none Follows.by_I
has_derivation (Has.has_B h k) = follows-two Follows.by_B (has_derivation h) (has_derivation k)
has_derivation (Has.has_s h k) = follows-two Follows.by_s (has_derivation h) (has_derivation k)
has_derivation Has.has_K = follows-none Follows.by_K

-- A judgement is derivable exactly when it has a tree.
pub derivable_has : (G : Context) (t : Term) (W : Ty) → Derivable (Judgement.judge G t W) ↔ Has G t W
derivable_has G t W = (λ d. derivation_has d.derivation, has_derivation)

-- A change of any part of a term keeps derivable what is derivable of it.
pub change-keeps-derivable :
    {n : ℕ} {p : Place} {t u : Term} {G : Context} {W : Ty} →
    Change n p t u → Derivable (Judgement.judge G t W) → Derivable (Judgement.judge G u W)
change-keeps-derivable c d = has_derivation (change-keeps c (derivation_has d.derivation))

-- A reduction keeps derivable what is derivable of the term.
pub reduce_keeps-derivable :
    {t u : Term} {G : Context} {W : Ty} →
    Reduce t u → Derivable (Judgement.judge G t W) → Derivable (Judgement.judge G u W)
reduce_keeps-derivable r d = has_derivation (reduce_keeps r (derivation_has d.derivation))

-- `.IJ` has no type in the context `*` a `1`, though its result `J` has: `I` gives the empty context.
pub app-I-J_untyped : (a : Simple) (W : Ty) → Has (Context.bind a Context.empty) (Term.app Term.I Term.J) W → ⊥
app-I-J_untyped a W (Has.has_s Has.has_I h) = elim h [ ]
app-I-J_untyped a _ (Has.has_f x _) = elim x [ ]
