-- The test `is_instance` holds exactly when the judgement follows by the rule from its premises: equal texts are those of equal trees,
-- since the texts are prefix codes. Assumes nothing.
use mathlib.Core.Path.{◌≡◌, refl}
use mathlib.Core.Bool.{Bool, true, ◌&&◌, false≢true}
use mathlib.Core.List.{List, [], ◌∷◌}
use mathlib.Core.Logic.{◌↔◌}
use Rattle.slices.proofs.Decimal.{and_both}
use Rattle.slices.proofs.Same.{same_refl, same_equal}
use Rattle.calculus.specs.Term.{Term, text}
use Rattle.calculus.specs.Types.{Simple, Context, Ty, bell_type, simple_text, context_text, ty_text}
use Rattle.calculus.specs.Typing.{Judgement, Name, Follows}
use Rattle.calculus.proofs.PrefixCode.{text_injective}
use Rattle.types.proofs.Parse.{ty_injective, simple_injective, context_injective}
use Rattle.derivation_files.specs.Instance.{
  same_term,
  same_simple,
  same_context,
  same_ty,
  asks_J,
  asks_R,
  asks_H,
  asks_A,
  asks_I,
  asks_B,
  asks_S,
  asks_K,
  Premises,
  with_none,
  with_one,
  with_two,
  term_in,
  is_bell_term,
  is_instance,
}

-- the premises as a list
abbrev pub listed : Premises → List Judgement
listed Premises.none = []
listed (Premises.one i) = i ∷ []
listed (Premises.two i k) = i ∷ k ∷ []

-- terms that pass the test are equal
equal_terms : (t u : Term) → same_term t u ≡ true → t ≡ u
equal_terms t u e = text_injective t u (same_equal (text t) (text u) e)

-- simple types that pass the test are equal
equal_simple : (T U : Simple) → same_simple T U ≡ true → T ≡ U
equal_simple T U e = simple_injective T U (same_equal (simple_text T) (simple_text U) e)

-- contexts that pass the test are equal
equal_contexts : (G D : Context) → same_context G D ≡ true → G ≡ D
equal_contexts G D e = context_injective G D (same_equal (context_text G) (context_text D) e)

-- types that pass the test are equal
equal_types : (W X : Ty) → same_ty W X ≡ true → W ≡ X
equal_types W X e = ty_injective W X (same_equal (ty_text W) (ty_text X) e)

-- what follows from no premise where both tests hold, follows from all premises for which they do
from-none :
    {name : Name} {j : Judgement} {a b : Bool} → (a ≡ true → b ≡ true → Follows name [] j) →
    (premises : Premises) → (with_none a premises && with_none b premises) ≡ true → Follows name (listed premises) j
from-none {a} {b} follows Premises.none e = let (asked, built) = and_both a b e in follows asked built
from-none follows (Premises.one i) e = absurd (false≢true e)
from-none follows (Premises.two i k) e = absurd (false≢true e)

-- the same of one premise
from_one_lem :
    {name : Name} {j : Judgement} {a b : Judgement → Bool} → ((i : Judgement) → a i ≡ true → b i ≡ true → Follows name (i ∷ []) j) →
    (premises : Premises) → (with_one a premises && with_one b premises) ≡ true → Follows name (listed premises) j
from_one_lem follows Premises.none e = absurd (false≢true e)
from_one_lem {a} {b} follows (Premises.one i) e = let (asked, built) = and_both (a i) (b i) e in follows i asked built
from_one_lem follows (Premises.two i k) e = absurd (false≢true e)

-- the same of two premises
from-two :
    {name : Name} {j : Judgement} {a b : Judgement → Judgement → Bool} →
    ((i k : Judgement) → a i k ≡ true → b i k ≡ true → Follows name (i ∷ k ∷ []) j) →
    (premises : Premises) → (with_two a premises && with_two b premises) ≡ true → Follows name (listed premises) j
from-two follows Premises.none e = absurd (false≢true e)
from-two follows (Premises.one i) e = absurd (false≢true e)
from-two {a} {b} follows (Premises.two i k) e = let (asked, built) = and_both (a i k) (b i k) e in follows i k asked built

-- what passes J's tests follows by J
J-follows : (G : Context) (t : Term) (W : Ty) → asks_J G W ≡ true → same_term t Term.J ≡ true → Follows Name.J [] (Judgement.judge G t W)
J-follows Context.empty t W asked built = absurd (false≢true asked)
J-follows (Context.bind U D) t (Ty.context E) asked built = absurd (false≢true asked)
J-follows (Context.bind U D) t (Ty.simple T) asked built = rw (equal_terms t Term.J built, equal_simple T U asked) Follows.by_J

-- what passes R's tests follows by R
R-follows :
    (G : Context) (t : Term) (W : Ty) (i : Judgement) →
    asks_R i G W ≡ true → same_term t (Term.R (term_in i)) ≡ true → Follows Name.R (i ∷ []) (Judgement.judge G t W)
R-follows Context.empty t W (Judgement.judge D u X) asked built = absurd (false≢true asked)
R-follows (Context.bind T E) t (Ty.context F) (Judgement.judge D u X) asked built = absurd (false≢true asked)
R-follows (Context.bind T E) t (Ty.simple U) (Judgement.judge D u (Ty.context F)) asked built = absurd (false≢true asked)
R-follows (Context.bind T E) t (Ty.simple X) (Judgement.judge D u (Ty.simple U)) asked built =
    let (same-D, same-U) = and_both (same_context D E) (same_simple U X) asked in
    rw (equal_terms t (Term.R u) built, equal_contexts D E same-D, equal_simple U X same-U) Follows.by_R

-- what passes the tests that H and f share follows by the one whose node the term has
H-follows :
    (name : Name) (node : Term → Term → Term) →
    ((G : Context) (U T : Simple) (t u : Term) →
    Follows name
    (Judgement.judge G t (Ty.simple (Simple.arrow U T)) ∷ Judgement.judge G u (Ty.simple U) ∷ [])
    (Judgement.judge G (node t u) (Ty.simple T))) →
    (G : Context) (t : Term) (W : Ty) (i k : Judgement) →
    asks_H i k G W ≡ true → same_term t (node (term_in i) (term_in k)) ≡ true → Follows name (i ∷ k ∷ []) (Judgement.judge G t W)
H-follows name node rule G v W (Judgement.judge D t (Ty.context F)) (Judgement.judge E u X) asked built = absurd (false≢true asked)
H-follows name node rule G v W (Judgement.judge D t (Ty.simple (Simple.atom a))) (Judgement.judge E u X) asked built =
    absurd (false≢true asked)
H-follows name node rule G v W (Judgement.judge D t (Ty.simple (Simple.arrow U T))) (Judgement.judge E u X) asked built =
    let (rest, same-W) = and_both (same_context D G && same_context E G && same_ty X (Ty.simple U)) (same_ty W (Ty.simple T)) asked in
    let (contexts, same-X) = and_both (same_context D G && same_context E G) (same_ty X (Ty.simple U)) rest in
    let (same-D, same-E) = and_both (same_context D G) (same_context E G) contexts in
    rw (
      equal_terms v (node t u) built,
      equal_contexts D G same-D,
      equal_contexts E G same-E,
      equal_types X (Ty.simple U) same-X,
      equal_types W (Ty.simple T) same-W,
    )
    (rule G U T t u)

-- what passes A's tests follows by A
A-follows :
    (G : Context) (t : Term) (W : Ty) (i k : Judgement) →
    asks_A i k G W ≡ true → same_term t (Term.A (term_in i) (term_in k)) ≡ true → Follows Name.A (i ∷ k ∷ []) (Judgement.judge G t W)
A-follows G v W (Judgement.judge D s (Ty.simple U)) (Judgement.judge E t X) asked built = absurd (false≢true asked)
A-follows G v (Ty.context H) (Judgement.judge D s (Ty.context F)) (Judgement.judge E t X) asked built = absurd (false≢true asked)
A-follows G v (Ty.simple (Simple.atom a)) (Judgement.judge D s (Ty.context F)) (Judgement.judge E t X) asked built =
    absurd (false≢true asked)
A-follows G v (Ty.simple (Simple.arrow U T)) (Judgement.judge D s (Ty.context F)) (Judgement.judge E t X) asked built =
    let (contexts, same-X) = and_both (same_context D G && same_context E (Context.bind U F)) (same_ty X (Ty.simple T)) asked in
    let (same-D, same-E) = and_both (same_context D G) (same_context E (Context.bind U F)) contexts in
    rw (
      equal_terms v (Term.A s t) built,
      equal_contexts D G same-D,
      equal_contexts E (Context.bind U F) same-E,
      equal_types X (Ty.simple T) same-X,
    )
    Follows.by_A

-- what passes I's tests follows by I
I-follows : (G : Context) (t : Term) (W : Ty) → asks_I G W ≡ true → same_term t Term.I ≡ true → Follows Name.I [] (Judgement.judge G t W)
I-follows G t W asked built = rw (equal_terms t Term.I built, equal_types W (Ty.context Context.empty) asked) Follows.by_I

-- what passes B's tests follows by B
B-follows :
    (G : Context) (t : Term) (W : Ty) (i k : Judgement) →
    asks_B i k G W ≡ true → same_term t (Term.B (term_in i) (term_in k)) ≡ true → Follows Name.B (i ∷ k ∷ []) (Judgement.judge G t W)
B-follows G v W (Judgement.judge D u (Ty.context F)) (Judgement.judge E s X) asked built = absurd (false≢true asked)
B-follows G v W (Judgement.judge D u (Ty.simple U)) (Judgement.judge E s (Ty.simple T)) asked built = absurd (false≢true asked)
B-follows G v W (Judgement.judge D u (Ty.simple U)) (Judgement.judge E s (Ty.context F)) asked built =
    let (contexts, same-W) = and_both (same_context D G && same_context E G) (same_ty W (Ty.context (Context.bind U F))) asked in
    let (same-D, same-E) = and_both (same_context D G) (same_context E G) contexts in
    rw (
      equal_terms v (Term.B u s) built,
      equal_contexts D G same-D,
      equal_contexts E G same-E,
      equal_types W (Ty.context (Context.bind U F)) same-W,
    )
    Follows.by_B

-- what passes s's tests follows by s
s-follows :
    (G : Context) (t : Term) (W : Ty) (i k : Judgement) →
    asks_S i k G W ≡ true → same_term t (Term.app (term_in i) (term_in k)) ≡ true → Follows Name.s (i ∷ k ∷ []) (Judgement.judge G t W)
s-follows G v W (Judgement.judge D s (Ty.simple U)) (Judgement.judge E t X) asked built = absurd (false≢true asked)
s-follows G v W (Judgement.judge D s (Ty.context F)) (Judgement.judge E t X) asked built =
    let (contexts, same-X) = and_both (same_context D G && same_context E F) (same_ty X W) asked in
    let (same-D, same-E) = and_both (same_context D G) (same_context E F) contexts in
    rw (equal_terms v (Term.app s t) built, equal_contexts D G same-D, equal_contexts E F same-E, equal_types X W same-X) Follows.by_s

-- what passes K's tests follows by K
K-follows : (G : Context) (t : Term) (W : Ty) → asks_K G W ≡ true → is_bell_term t ≡ true → Follows Name.K [] (Judgement.judge G t W)
K-follows G Term.J W asked built = absurd (false≢true built)
K-follows G (Term.R t) W asked built = absurd (false≢true built)
K-follows G (Term.H r t) W asked built = absurd (false≢true built)
K-follows G (Term.A s t) W asked built = absurd (false≢true built)
K-follows G Term.I W asked built = absurd (false≢true built)
K-follows G (Term.B u s) W asked built = absurd (false≢true built)
K-follows G (Term.app t u) W asked built = absurd (false≢true built)
K-follows G (Term.bell k) W asked built = rw (equal_types W (Ty.simple bell_type) asked) Follows.by_K

-- a judgement that is an instance of the rule follows by it
instance_sound : (name : Name) (premises : Premises) (j : Judgement) → is_instance name premises j ≡ true → Follows name (listed premises) j
instance_sound Name.J premises (Judgement.judge G t W) = from-none (J-follows G t W) premises
instance_sound Name.R premises (Judgement.judge G t W) = from_one_lem (R-follows G t W) premises
instance_sound Name.H premises (Judgement.judge G t W) = from-two (H-follows Name.H Term.H (λ D U T s u. Follows.by_H) G t W) premises
instance_sound Name.A premises (Judgement.judge G t W) = from-two (A-follows G t W) premises
instance_sound Name.f premises (Judgement.judge G t W) = from-two (H-follows Name.f Term.app (λ D U T s u. Follows.by_f) G t W) premises
instance_sound Name.I premises (Judgement.judge G t W) = from-none (I-follows G t W) premises
instance_sound Name.B premises (Judgement.judge G t W) = from-two (B-follows G t W) premises
instance_sound Name.s premises (Judgement.judge G t W) = from-two (s-follows G t W) premises
instance_sound Name.K premises (Judgement.judge G t W) = from-none (K-follows G t W) premises

-- a judgement that follows by the rule is an instance of it
instance_complete :
    {name : Name} {j : Judgement} (premises : Premises) → Follows name (listed premises) j → is_instance name premises j ≡ true
instance_complete Premises.none Follows.by_J = simp same_refl
instance_complete Premises.none Follows.by_I = simp same_refl
instance_complete Premises.none Follows.by_K = refl
instance_complete (Premises.one i) Follows.by_R = simp same_refl
instance_complete (Premises.two i k) Follows.by_H = simp same_refl
instance_complete (Premises.two i k) Follows.by_f = simp same_refl
instance_complete (Premises.two i k) Follows.by_A = simp same_refl
instance_complete (Premises.two i k) Follows.by_B = simp same_refl
instance_complete (Premises.two i k) Follows.by_s = simp same_refl

-- a judgement is an instance of the rule exactly when it follows by it from the premises
pub instance_follows :
    (name : Name) (premises : Premises) (j : Judgement) → (is_instance name premises j ≡ true) ↔ Follows name (listed premises) j
instance_follows name premises j = (instance_sound name premises j, instance_complete premises)
