-- On the texts of judgements the tests on texts are the tests on trees: a text that is a sign and two texts is read in one way only.
-- Assumes nothing.
use Prim.Native.Nat.{ℕ}
use native.Mathlib.Omega.{arith}
use mathlib.Core.Path.{◌≡◌, refl, sym, ◌∙◌, ap, ap₂}
use mathlib.Core.Bool.{Bool, true, false, ◌&&◌}
use mathlib.Core.List.{List, [], ◌∷◌, ◌++◌}
use borrow.Author.Tests.{eq-eqb, ne_eqb}
use Rattle.slices.specs.Same.{same}
use Rattle.slices.proofs.Same.{equal_same, same_equal, same_unique}
use Rattle.calculus.specs.Bell.{is_bell}
use Rattle.calculus.specs.Letter.{Letter, byte}
use Rattle.calculus.specs.Term.{Term, text}
use Rattle.calculus.specs.Types.{Atom, Simple, Context, Ty, bell_type, Sign, sign_text, simple_text, context_text, ty_text}
use Rattle.calculus.specs.Typing.{Judgement, Name}
use Rattle.calculus.proofs.Bells.{bell-letter}
use Rattle.types.specs.Parse.{type_of}
use Rattle.types.specs.Tests.{is_simple}
use Rattle.types.specs.Scan.{simple_end}
use Rattle.types.proofs.Parse.{type_of-text, types_readable, ty_injective, simple-not-context}
use Rattle.types.proofs.Made.{arrow-text, bind-text}
use Rattle.derivation_files.specs.Instance.{Premises, same_context, same_ty, asks_J, asks_R, asks_H, asks_A, asks_B, asks_S}
use Rattle.derivation_files.specs.Instance.{is_bell_term, is_instance}
use Rattle.derivation_files.specs.Checking.{premise_count}
use Rattle.rules.specs.Rules.{named_rule, is_bell_text}
use Rattle.instances.specs.Behind.{simple_behind}
use Rattle.fields.specs.Fields.{Texts}
use Rattle.instances.specs.TextInstance.{type_text, asks_text_J, asks_text_R, asks_text_H, asks_text_A, asks_text_B}
use Rattle.instances.specs.TextInstance.{asks_text_S, instance_text}
use Rattle.slices.proofs.Decimal.{and_both}
use Rattle.fields.proofs.Joined.{differ}
use Rattle.instances.proofs.Behind.{behind-text}

-- the texts of a judgement
abbrev pub texts_of : Judgement → Texts
texts_of (Judgement.judge G t W) = record { context = context_text G; term = text t; type = ty_text W }

-- ---- `same` and `&&`

same-sym : (s t : List ℕ) → same s t ≡ same t s
same-sym s t = same_unique (same s t) t s (λ e. sym (same_equal s t e)) (λ e. equal_same s t (sym e))

-- what stands in front of both plays no part
same-front : (front s t : List ℕ) → same (front ++ s) (front ++ t) ≡ same s t
same-front [] s t = refl
same-front (b ∷ front) s t = ap (λ (x : Bool). x && same (front ++ s) (front ++ t)) (eq-eqb b b refl) ∙ same-front front s t

and-false : (a : Bool) → (a && false) ≡ false
and-false true = refl
and-false false = refl

and-true : (a : Bool) → (a && true) ≡ a
and-true true = refl
and-true false = refl

and_assoc : (a b c d : Bool) → ((a && b) && (c && d)) ≡ (((a && b) && c) && d)
and_assoc true true c d = refl
and_assoc true false c d = refl
and_assoc false b c d = refl

and_swap : (a b c : Bool) → ((a && b) && c) ≡ ((a && c) && b)
and_swap true true c = sym (and-true c)
and_swap true false true = refl
and_swap true false false = refl
and_swap false b c = refl

-- a test that fails in the second or the third place
second_fails : (a b c : Bool) → b ≡ false → ((a && b) && c) ≡ false
second_fails a b c e = ap (λ (x : Bool). (a && x) && c) e ∙ ap (λ (x : Bool). x && c) (and-false a)

third_fails : (a b c : Bool) → c ≡ false → ((a && b) && c) ≡ false
third_fails a b c e = ap (λ (x : Bool). (a && b) && x) e ∙ and-false (a && b)

-- ---- texts of types

-- two types that stand together are the same as two others where each is
same-both : (W X Y Z : Ty) → same (ty_text W ++ ty_text X) (ty_text Y ++ ty_text Z) ≡ (same (ty_text Y) (ty_text W) && same (ty_text Z) (ty_text X))
same-both W X Y Z =
    sym (same_unique (same (ty_text Y) (ty_text W) && same (ty_text Z) (ty_text X)) (ty_text W ++ ty_text X) (ty_text Y ++ ty_text Z) apart
    together)
  where
    apart : (same (ty_text Y) (ty_text W) && same (ty_text Z) (ty_text X)) ≡ true → ty_text W ++ ty_text X ≡ ty_text Y ++ ty_text Z
    apart e =
        let (first, second) = and_both (same (ty_text Y) (ty_text W)) (same (ty_text Z) (ty_text X)) e in
        sym (ap₂ ◌++◌ (same_equal (ty_text Y) (ty_text W) first) (same_equal (ty_text Z) (ty_text X) second))

    together : ty_text W ++ ty_text X ≡ ty_text Y ++ ty_text Z → (same (ty_text Y) (ty_text W) && same (ty_text Z) (ty_text X)) ≡ true
    together e =
        let (first, second) = types_readable W Y (ty_text X) (ty_text Z) e in
        ap₂ ◌&&◌ (equal_same (ty_text Y) (ty_text W) (ap ty_text (sym first))) (equal_same (ty_text Z) (ty_text X) (sym second))

-- no type's text is empty
some_byte : (W : Ty) → same [] (ty_text W) ≡ false
some_byte (Ty.simple (Simple.atom a)) = refl
some_byte (Ty.simple (Simple.arrow U T)) = refl
some_byte (Ty.context Context.empty) = refl
some_byte (Ty.context (Context.bind U G)) = refl

simple_no_context : (U : Simple) (G : Context) → same (simple_text U) (context_text G) ≡ false
simple_no_context U G = sym (differ (simple_text U) (context_text G) (simple-not-context U G))

context_no_simple : (G : Context) (U : Simple) → same (context_text G) (simple_text U) ≡ false
context_no_simple G U = same-sym (context_text G) (simple_text U) ∙ simple_no_context U G

-- only an arrow begins with `>`
no_arrow-context : (G : Context) (s : List ℕ) → same (context_text G) (sign_text Sign.arrow ++ s) ≡ false
no_arrow-context Context.empty s = refl
no_arrow-context (Context.bind U G) s = refl

no_arrow-atom : (a : Atom) (s : List ℕ) → same (simple_text (Simple.atom a)) (sign_text Sign.arrow ++ s) ≡ false
no_arrow-atom a s = let low = a.from_a in ap (λ (x : Bool). x && same [] s) (ne_eqb a.letter 62 (omega arith))

-- a simple type does not begin with `*`
no_bind-simple : (U : Simple) (s : List ℕ) → same (simple_text U) (sign_text Sign.bind ++ s) ≡ false
no_bind-simple (Simple.atom a) s = let low = a.from_a in ap (λ (x : Bool). x && same [] s) (ne_eqb a.letter 42 (omega arith))
no_bind-simple (Simple.arrow U T) s = refl

-- a context that is `*` and two types is `*` with a simple type and a context
no_bind :
    (G : Context) (X Y : Ty) → ((U : Simple) (D : Context) → X ≡ Ty.simple U → Y ≡ Ty.context D → ⊥) →
    same (context_text G) (type_text Sign.bind (ty_text X) (ty_text Y)) ≡ false
no_bind Context.empty X Y never = refl
no_bind (Context.bind U D) X Y never =
    ap (λ (s : List ℕ). same s (type_text Sign.bind (ty_text X) (ty_text Y))) (bind-text U D) ∙
    sym (differ (simple_text U ++ context_text D) (ty_text X ++ ty_text Y) readable)
  where
    readable : simple_text U ++ context_text D ≡ ty_text X ++ ty_text Y → ⊥
    readable e =
        let (first, second) = types_readable (Ty.simple U) X (context_text D) (ty_text Y) e in
        never U D (sym first) (sym (ty_injective (Ty.context D) Y second))

-- the simple type behind `*` and behind `>`
behind-bind : (U : Simple) (D : Context) → simple_behind (context_text (Context.bind U D)) ≡ simple_text U
behind-bind U D = ap simple_behind (bind-text U D) ∙ behind-text 42 U (context_text D)

behind-arrow : (U T : Simple) → simple_behind (simple_text (Simple.arrow U T)) ≡ simple_text U
behind-arrow U T = ap simple_behind (arrow-text U T) ∙ behind-text 62 U (simple_text T)

-- ---- the rules, one by one

asks-J : (G : Context) (t : Term) (W : Ty) → asks_text_J (texts_of (Judgement.judge G t W)) ≡ asks_J G W
unfolding simple_behind simple_end
asks-J Context.empty t W = some_byte W
asks-J (Context.bind U D) t (Ty.context E) = ap (λ (s : List ℕ). same s (context_text E)) (behind-bind U D) ∙ simple_no_context U E
asks-J (Context.bind U D) t (Ty.simple T) =
    ap (λ (s : List ℕ). same s (simple_text T)) (behind-bind U D) ∙ same-sym (simple_text U) (simple_text T)

-- the rest of a context that is `*` T E is the premise's D
rest-context :
    (T : Simple) (E D : Context) →
    same (context_text (Context.bind T E)) (type_text Sign.bind (simple_behind (context_text (Context.bind T E))) (context_text D)) ≡ same_context
    D E
rest-context T E D =
    ap₂ (λ (s u : List ℕ). same s (type_text Sign.bind u (context_text D))) (bind-text T E) (behind-bind T E) ∙
    same-front (simple_text T) (context_text E) (context_text D) ∙ same-sym (context_text E) (context_text D)

asks-R : (i : Judgement) (G : Context) (t : Term) (W : Ty) → asks_text_R (texts_of (Judgement.judge G t W)) (texts_of i) ≡ asks_R i G W
asks-R (Judgement.judge D u X) Context.empty t W = refl
asks-R (Judgement.judge D u X) (Context.bind T E) t (Ty.context F) =
    second_fails
    (same (context_text (Context.bind T E)) (type_text Sign.bind (simple_behind (context_text (Context.bind T E))) (context_text D)))
    (is_simple (type_of (context_text F))) (same (ty_text X) (context_text F)) (ap is_simple (type_of-text (Ty.context F)))
asks-R (Judgement.judge D u (Ty.context F)) (Context.bind T E) t (Ty.simple U) =
    third_fails (same (context_text (Context.bind T E)) (type_text Sign.bind (simple_behind (context_text (Context.bind T E))) (context_text D)))
    (is_simple (type_of (simple_text U))) (same (context_text F) (simple_text U)) (context_no_simple F U)
asks-R (Judgement.judge D u (Ty.simple U)) (Context.bind T E) t (Ty.simple X) =
    ap₂ (λ (a b : Bool). (a && b) && same (simple_text U) (simple_text X)) (rest-context T E D) (ap is_simple (type_of-text (Ty.simple X))) ∙
    ap (λ (a : Bool). a && same (simple_text U) (simple_text X)) (and-true (same_context D E))

asks-H :
    (i k : Judgement) (G : Context) (t : Term) (W : Ty) →
    asks_text_H (texts_of (Judgement.judge G t W)) (texts_of i) (texts_of k) ≡ asks_H i k G W
asks-H (Judgement.judge D s (Ty.context F)) (Judgement.judge E u X) G t W =
    third_fails (same_context D G) (same_context E G) (same (context_text F) (type_text Sign.arrow (ty_text X) (ty_text W)))
    (no_arrow-context F (ty_text X ++ ty_text W))
asks-H (Judgement.judge D s (Ty.simple (Simple.atom a))) (Judgement.judge E u X) G t W =
    third_fails (same_context D G) (same_context E G) (same (simple_text (Simple.atom a)) (type_text Sign.arrow (ty_text X) (ty_text W)))
    (no_arrow-atom a (ty_text X ++ ty_text W))
asks-H (Judgement.judge D s (Ty.simple (Simple.arrow U T))) (Judgement.judge E u X) G t W =
    ap (λ (b : Bool). (same_context D G && same_context E G) && b)
    (ap (λ (s : List ℕ). same s (type_text Sign.arrow (ty_text X) (ty_text W))) (arrow-text U T) ∙ same-both (Ty.simple U) (Ty.simple T) X W) ∙
    and_assoc (same_context D G) (same_context E G) (same_ty X (Ty.simple U)) (same_ty W (Ty.simple T))

-- a type that is no arrow
context_fails : (H : Context) (s : List ℕ) (a c : Bool) → ((a && same (context_text H) (sign_text Sign.arrow ++ s)) && c) ≡ false
context_fails H s a c = second_fails a (same (context_text H) (sign_text Sign.arrow ++ s)) c (no_arrow-context H s)

atom_fails : (x : Atom) (s : List ℕ) (a c : Bool) → ((a && same (simple_text (Simple.atom x)) (sign_text Sign.arrow ++ s)) && c) ≡ false
atom_fails x s a c = second_fails a (same (simple_text (Simple.atom x)) (sign_text Sign.arrow ++ s)) c (no_arrow-atom x s)

-- the second premise's type is what the arrow leads to
result-type :
    (U T : Simple) (X : Ty) →
    same (simple_text (Simple.arrow U T)) (type_text Sign.arrow (simple_behind (simple_text (Simple.arrow U T))) (ty_text X)) ≡ same_ty X
    (Ty.simple T)
result-type U T X =
    ap₂ (λ (s u : List ℕ). same s (type_text Sign.arrow u (ty_text X))) (arrow-text U T) (behind-arrow U T) ∙
    same-front (simple_text U) (simple_text T) (ty_text X) ∙ same-sym (simple_text T) (ty_text X)

asks-A :
    (i k : Judgement) (G : Context) (t : Term) (W : Ty) →
    asks_text_A (texts_of (Judgement.judge G t W)) (texts_of i) (texts_of k) ≡ asks_A i k G W
asks-A (Judgement.judge D s (Ty.simple Y)) (Judgement.judge E u X) G t (Ty.context H) =
    context_fails H (simple_behind (context_text H) ++ ty_text X) (same_context D G)
    (same (context_text E) (type_text Sign.bind (simple_behind (context_text H)) (simple_text Y)))
asks-A (Judgement.judge D s (Ty.simple Y)) (Judgement.judge E u X) G t (Ty.simple (Simple.atom a)) =
    atom_fails a (simple_behind (simple_text (Simple.atom a)) ++ ty_text X) (same_context D G)
    (same (context_text E) (type_text Sign.bind (simple_behind (simple_text (Simple.atom a))) (simple_text Y)))
asks-A (Judgement.judge D s (Ty.simple Y)) (Judgement.judge E u X) G t (Ty.simple (Simple.arrow U T)) =
    third_fails (same_context D G)
    (same (simple_text (Simple.arrow U T)) (type_text Sign.arrow (simple_behind (simple_text (Simple.arrow U T))) (ty_text X)))
    (same (context_text E) (type_text Sign.bind (simple_behind (simple_text (Simple.arrow U T))) (simple_text Y)))
    (ap (λ (v : List ℕ). same (context_text E) (type_text Sign.bind v (simple_text Y))) (behind-arrow U T)
    ∙ no_bind E (Ty.simple U) (Ty.simple Y) never)
  where
    never : (Z : Simple) (C : Context) → Ty.simple U ≡ Ty.simple Z → Ty.simple Y ≡ Ty.context C → ⊥
    never Z C p q = let z : ◌≡◌ {A = ℕ} 0 1 = cc in omega arith
asks-A (Judgement.judge D s (Ty.context F)) (Judgement.judge E u X) G t (Ty.context H) =
    context_fails H (simple_behind (context_text H) ++ ty_text X) (same_context D G)
    (same (context_text E) (type_text Sign.bind (simple_behind (context_text H)) (context_text F)))
asks-A (Judgement.judge D s (Ty.context F)) (Judgement.judge E u X) G t (Ty.simple (Simple.atom a)) =
    atom_fails a (simple_behind (simple_text (Simple.atom a)) ++ ty_text X) (same_context D G)
    (same (context_text E) (type_text Sign.bind (simple_behind (simple_text (Simple.atom a))) (context_text F)))
asks-A (Judgement.judge D s (Ty.context F)) (Judgement.judge E u X) G t (Ty.simple (Simple.arrow U T)) =
    ap₂ (λ (b c : Bool). (same_context D G && b) && c) (result-type U T X)
    (ap (λ (v : List ℕ). same (context_text E) (type_text Sign.bind v (context_text F))) (behind-arrow U T)
    ∙ ap (same (context_text E)) (sym (bind-text U F))) ∙
    and_swap (same_context D G) (same_ty X (Ty.simple T)) (same_context E (Context.bind U F))

-- a type that is `*` and two types is `*` with a simple type and a context
no_bind-type :
    (W X Y : Ty) → ((U : Simple) (D : Context) → X ≡ Ty.simple U → Y ≡ Ty.context D → ⊥) →
    same (ty_text W) (type_text Sign.bind (ty_text X) (ty_text Y)) ≡ false
no_bind-type (Ty.simple U) X Y never = no_bind-simple U (ty_text X ++ ty_text Y)
no_bind-type (Ty.context G) X Y never = no_bind G X Y never

asks-B :
    (i k : Judgement) (G : Context) (t : Term) (W : Ty) →
    asks_text_B (texts_of (Judgement.judge G t W)) (texts_of i) (texts_of k) ≡ asks_B i k G W
asks-B (Judgement.judge D u (Ty.context F)) (Judgement.judge E s X) G t W =
    third_fails (same_context D G) (same_context E G) (same (ty_text W) (type_text Sign.bind (context_text F) (ty_text X)))
    (no_bind-type W (Ty.context F) X never)
  where
    never : (Z : Simple) (C : Context) → Ty.context F ≡ Ty.simple Z → X ≡ Ty.context C → ⊥
    never Z C p q = let z : ◌≡◌ {A = ℕ} 0 1 = cc in omega arith
asks-B (Judgement.judge D u (Ty.simple U)) (Judgement.judge E s (Ty.simple T)) G t W =
    third_fails (same_context D G) (same_context E G) (same (ty_text W) (type_text Sign.bind (simple_text U) (simple_text T)))
    (no_bind-type W (Ty.simple U) (Ty.simple T) never)
  where
    never : (Z : Simple) (C : Context) → Ty.simple U ≡ Ty.simple Z → Ty.simple T ≡ Ty.context C → ⊥
    never Z C p q = let z : ◌≡◌ {A = ℕ} 0 1 = cc in omega arith
asks-B (Judgement.judge D u (Ty.simple U)) (Judgement.judge E s (Ty.context F)) G t W =
    ap (λ (w : List ℕ). (same_context D G && same_context E G) && same (ty_text W) w) (sym (bind-text U F))

asks-S :
    (i k : Judgement) (G : Context) (t : Term) (W : Ty) →
    asks_text_S (texts_of (Judgement.judge G t W)) (texts_of i) (texts_of k) ≡ asks_S i k G W
asks-S (Judgement.judge D s (Ty.simple U)) (Judgement.judge E u X) G t W =
    second_fails (same_context D G) (same (context_text E) (simple_text U)) (same (ty_text X) (ty_text W)) (context_no_simple E U)
asks-S (Judgement.judge D s (Ty.context F)) (Judgement.judge E u X) G t W = refl

-- a text whose first byte is no bell's letter is no bell's
no_bell : (b : ℕ) (s : List ℕ) → is_bell b ≡ false → is_bell_text (b ∷ s) ≡ false
no_bell b [] e = e
no_bell b (c ∷ s) e = refl

-- the text of a term is a bell's where the term is a bell
bell-text : (t : Term) → is_bell_text (text t) ≡ is_bell_term t
unfolding is_bell
bell-text Term.J = refl
bell-text (Term.R t) = no_bell (byte Letter.R) (text t) refl
bell-text (Term.H r t) = no_bell (byte Letter.H) (text r ++ text t) refl
bell-text (Term.A s t) = no_bell (byte Letter.A) (text s ++ text t) refl
bell-text Term.I = refl
bell-text (Term.B u s) = no_bell (byte Letter.B) (text u ++ text s) refl
bell-text (Term.app t u) = no_bell (byte Letter.stop) (text t ++ text u) refl
bell-text (Term.bell k) = bell-letter k

-- ---- all rules

-- a line by a rule without premises
pub instance_none :
    (name : Name) (j : Judgement) (x y : Texts) → premise_count name ≡ 0 →
    instance_text (named_rule name) (texts_of j) x y ≡ is_instance name Premises.none j
instance_none Name.J (Judgement.judge G t W) x y e = ap (λ (b : Bool). b && same (text t) (text Term.J)) (asks-J G t W)
instance_none Name.R j x y e = absurd (omega arith)
instance_none Name.H j x y e = absurd (omega arith)
instance_none Name.A j x y e = absurd (omega arith)
instance_none Name.f j x y e = absurd (omega arith)
instance_none Name.I (Judgement.judge G t W) x y e = refl
instance_none Name.B j x y e = absurd (omega arith)
instance_none Name.s j x y e = absurd (omega arith)
instance_none Name.K (Judgement.judge G t W) x y e = ap (λ (b : Bool). same_ty W (Ty.simple bell_type) && b) (bell-text t)

-- a line by a rule with one premise
pub instance_one :
    (name : Name) (j i : Judgement) (y : Texts) → premise_count name ≡ 1 →
    instance_text (named_rule name) (texts_of j) (texts_of i) y ≡ is_instance name (Premises.one i) j
instance_one Name.J j i y e = absurd (omega arith)
instance_one Name.R (Judgement.judge G t W) (Judgement.judge D u X) y e =
    ap (λ (b : Bool). b && same (text t) (text (Term.R u))) (asks-R (Judgement.judge D u X) G t W)
instance_one Name.H j i y e = absurd (omega arith)
instance_one Name.A j i y e = absurd (omega arith)
instance_one Name.f j i y e = absurd (omega arith)
instance_one Name.I j i y e = absurd (omega arith)
instance_one Name.B j i y e = absurd (omega arith)
instance_one Name.s j i y e = absurd (omega arith)
instance_one Name.K j i y e = absurd (omega arith)

-- a line by a rule with two premises
pub instance_two :
    (name : Name) (j i k : Judgement) → premise_count name ≡ 2 →
    instance_text (named_rule name) (texts_of j) (texts_of i) (texts_of k) ≡ is_instance name (Premises.two i k) j
instance_two Name.J j i k e = absurd (omega arith)
instance_two Name.R j i k e = absurd (omega arith)
instance_two Name.H (Judgement.judge G t W) (Judgement.judge D u X) (Judgement.judge E v Y) e =
    ap (λ (b : Bool). b && same (text t) (text (Term.H u v))) (asks-H (Judgement.judge D u X) (Judgement.judge E v Y) G t W)
instance_two Name.A (Judgement.judge G t W) (Judgement.judge D u X) (Judgement.judge E v Y) e =
    ap (λ (b : Bool). b && same (text t) (text (Term.A u v))) (asks-A (Judgement.judge D u X) (Judgement.judge E v Y) G t W)
instance_two Name.f (Judgement.judge G t W) (Judgement.judge D u X) (Judgement.judge E v Y) e =
    ap (λ (b : Bool). b && same (text t) (text (Term.app u v))) (asks-H (Judgement.judge D u X) (Judgement.judge E v Y) G t W)
instance_two Name.I j i k e = absurd (omega arith)
instance_two Name.B (Judgement.judge G t W) (Judgement.judge D u X) (Judgement.judge E v Y) e =
    ap (λ (b : Bool). b && same (text t) (text (Term.B u v))) (asks-B (Judgement.judge D u X) (Judgement.judge E v Y) G t W)
instance_two Name.s (Judgement.judge G t W) (Judgement.judge D u X) (Judgement.judge E v Y) e =
    ap (λ (b : Bool). b && same (text t) (text (Term.app u v))) (asks-S (Judgement.judge D u X) (Judgement.judge E v Y) G t W)
instance_two Name.K j i k e = absurd (omega arith)
