-- Whether a judgement is an instance of a rule, given its premises, as a test on trees: what the rule asks of contexts and types, and
-- that the term is one that the rule builds of the premises' terms. `proofs/Instance.antt` shows that the test holds exactly when
-- the judgement follows.
-- REQUIREMENTS, Typing.
use Rattle.std.specs.Prelude.{Bool, true, false, ◌&&◌}
use Rattle.slices.specs.Same.{same}
use Rattle.calculus.specs.Term.{Term, text}
use Rattle.calculus.specs.Types.{Simple, Context, Ty, bell_type, simple_text, context_text, ty_text}
use Rattle.calculus.specs.Typing.{Judgement, Name}

-- equal trees are those with equal texts
abbrev pub same_term : Term → Term → Bool
same_term t u = same (text t) (text u)

abbrev pub same_simple : Simple → Simple → Bool
same_simple T U = same (simple_text T) (simple_text U)

abbrev pub same_context : Context → Context → Bool
same_context G D = same (context_text G) (context_text D)

abbrev pub same_ty : Ty → Ty → Bool
same_ty W X = same (ty_text W) (ty_text X)

-- what each rule asks of contexts and types; H and f ask the same
abbrev pub asks_J : (G : Context) (W : Ty) → Bool
asks_J Context.empty W = false
asks_J (Context.bind U D) (Ty.context E) = false
asks_J (Context.bind U D) (Ty.simple T) = same_simple T U

abbrev pub asks_R : Judgement → (G : Context) (W : Ty) → Bool
asks_R (Judgement.judge D u W) Context.empty X = false
asks_R (Judgement.judge D u W) (Context.bind T E) (Ty.context F) = false
asks_R (Judgement.judge D u (Ty.context F)) (Context.bind T E) (Ty.simple U) = false
asks_R (Judgement.judge D u (Ty.simple U)) (Context.bind T E) (Ty.simple X) = same_context D E && same_simple U X

abbrev pub asks_H : Judgement → Judgement → (G : Context) (W : Ty) → Bool
asks_H (Judgement.judge D t (Ty.context F)) (Judgement.judge E u X) G W = false
asks_H (Judgement.judge D t (Ty.simple (Simple.atom a))) (Judgement.judge E u X) G W = false
asks_H (Judgement.judge D t (Ty.simple (Simple.arrow U T))) (Judgement.judge E u X) G W =
    same_context D G && same_context E G && same_ty X (Ty.simple U) && same_ty W (Ty.simple T)

abbrev pub asks_A : Judgement → Judgement → (G : Context) (W : Ty) → Bool
asks_A (Judgement.judge D s (Ty.simple U)) (Judgement.judge E t X) G W = false
asks_A (Judgement.judge D s (Ty.context F)) (Judgement.judge E t X) G (Ty.context H) = false
asks_A (Judgement.judge D s (Ty.context F)) (Judgement.judge E t X) G (Ty.simple (Simple.atom a)) = false
asks_A (Judgement.judge D s (Ty.context F)) (Judgement.judge E t X) G (Ty.simple (Simple.arrow U T)) =
    same_context D G && same_context E (Context.bind U F) && same_ty X (Ty.simple T)

abbrev pub asks_I : (G : Context) (W : Ty) → Bool
asks_I G W = same_ty W (Ty.context Context.empty)

abbrev pub asks_B : Judgement → Judgement → (G : Context) (W : Ty) → Bool
asks_B (Judgement.judge D u (Ty.context F)) (Judgement.judge E s X) G W = false
asks_B (Judgement.judge D u (Ty.simple U)) (Judgement.judge E s (Ty.simple T)) G W = false
asks_B (Judgement.judge D u (Ty.simple U)) (Judgement.judge E s (Ty.context F)) G W =
    same_context D G && same_context E G && same_ty W (Ty.context (Context.bind U F))

abbrev pub asks_S : Judgement → Judgement → (G : Context) (W : Ty) → Bool
asks_S (Judgement.judge D s (Ty.simple U)) (Judgement.judge E t X) G W = false
asks_S (Judgement.judge D s (Ty.context F)) (Judgement.judge E t X) G W = same_context D G && same_context E F && same_ty X W

abbrev pub asks_K : (G : Context) (W : Ty) → Bool
asks_K G W = same_ty W (Ty.simple bell_type)

-- the premises that a rule has: none, one or two judgements
pub data Premises : Type 0 where
  none : Premises
  one : Judgement → Premises
  two : Judgement → Judgement → Premises

abbrev pub with_none : Bool → Premises → Bool
with_none test Premises.none = test
with_none test (Premises.one i) = false
with_none test (Premises.two i k) = false

abbrev pub with_one : (Judgement → Bool) → Premises → Bool
with_one test Premises.none = false
with_one test (Premises.one i) = test i
with_one test (Premises.two i k) = false

abbrev pub with_two : (Judgement → Judgement → Bool) → Premises → Bool
with_two test Premises.none = false
with_two test (Premises.one i) = false
with_two test (Premises.two i k) = test i k

-- what the rule asks of the premises' contexts and types and of its own
abbrev pub asks : Name → Premises → (G : Context) (W : Ty) → Bool
asks Name.J premises G W = with_none (asks_J G W) premises
asks Name.R premises G W = with_one (λ i. asks_R i G W) premises
asks Name.H premises G W = with_two (λ i k. asks_H i k G W) premises
asks Name.A premises G W = with_two (λ i k. asks_A i k G W) premises
asks Name.f premises G W = with_two (λ i k. asks_H i k G W) premises
asks Name.I premises G W = with_none (asks_I G W) premises
asks Name.B premises G W = with_two (λ i k. asks_B i k G W) premises
asks Name.s premises G W = with_two (λ i k. asks_S i k G W) premises
asks Name.K premises G W = with_none (asks_K G W) premises

abbrev pub term_in : Judgement → Term
term_in (Judgement.judge G t W) = t

-- the term is a bell
abbrev pub is_bell_term : Term → Bool
is_bell_term Term.J = false
is_bell_term (Term.R t) = false
is_bell_term (Term.H r t) = false
is_bell_term (Term.A s t) = false
is_bell_term Term.I = false
is_bell_term (Term.B u s) = false
is_bell_term (Term.app t u) = false
is_bell_term (Term.bell k) = true

-- the term is the one that the rule builds of the premises' terms; for K, any bell
abbrev pub builds : Name → Premises → Term → Bool
builds Name.J premises t = with_none (same_term t Term.J) premises
builds Name.R premises t = with_one (λ i. same_term t (Term.R (term_in i))) premises
builds Name.H premises t = with_two (λ i k. same_term t (Term.H (term_in i) (term_in k))) premises
builds Name.A premises t = with_two (λ i k. same_term t (Term.A (term_in i) (term_in k))) premises
builds Name.f premises t = with_two (λ i k. same_term t (Term.app (term_in i) (term_in k))) premises
builds Name.I premises t = with_none (same_term t Term.I) premises
builds Name.B premises t = with_two (λ i k. same_term t (Term.B (term_in i) (term_in k))) premises
builds Name.s premises t = with_two (λ i k. same_term t (Term.app (term_in i) (term_in k))) premises
builds Name.K premises t = with_none (is_bell_term t) premises

abbrev pub is_instance : Name → Premises → Judgement → Bool
is_instance name premises (Judgement.judge G t W) = asks name premises G W && builds name premises t
