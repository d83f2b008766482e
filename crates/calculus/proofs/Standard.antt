-- Standardisation: whatever changes lead from a term to a normal one, the steps that the order names lead there too.
-- Carried by standard reductions: steps of the order as long as the term itself is an application, and then one standard
-- reduction for each part. Such a reduction takes up one more change at its end (`absorb`), and one that leads to a normal term
-- is made of the order's steps. Assumes nothing.
use Prim.Native.Nat.{ℕ, suc, ◌+◌}
use mathlib.Core.Path.{◌≡◌, refl, ◌∙◌, ap}
use mathlib.Core.List.{List, []}
use native.Mathlib.Omega.{arith}
use Rattle.calculus.specs.Bell.{Bell}
use Rattle.calculus.specs.Term.{Term, size, Normal}
use Rattle.calculus.specs.Rule.{Rule}
use Rattle.calculus.specs.Change.{Place, Change}
use Rattle.calculus.specs.Turning.{Reduce}
use Rattle.calculus.specs.Order.{Next, within, leftmost, next}
use Rattle.calculus.specs.Steps.{Steps}
use Rattle.calculus.proofs.Order.{next-first, next-second}
use Rattle.calculus.proofs.Steps.{steps-append, steps_wider}

-- `Standard t v`: a standard reduction from t to v
pub data Standard : Term → Term → Type 0 where
  step-first : {n : ℕ} {f a u v : Term} → next (Term.app f a) ≡ Next.step n u → Standard u v → Standard (Term.app f a) v
  in_J : Standard Term.J Term.J
  in_R : {t t' : Term} → Standard t t' → Standard (Term.R t) (Term.R t')
  in_H : {r r' t t' : Term} → Standard r r' → Standard t t' → Standard (Term.H r t) (Term.H r' t')
  in_A : {s s' t t' : Term} → Standard s s' → Standard t t' → Standard (Term.A s t) (Term.A s' t')
  in_I : Standard Term.I Term.I
  in_B : {u u' s s' : Term} → Standard u u' → Standard s s' → Standard (Term.B u s) (Term.B u' s')
  in_app : {t t' u u' : Term} → Standard t t' → Standard u u' → Standard (Term.app t u) (Term.app t' u')
  in_bell : {k : Bell} → Standard (Term.bell k) (Term.bell k)

-- every term reduces to itself, with no step
pub standard_refl : (t : Term) → Standard t t
standard_refl Term.J = Standard.in_J
standard_refl (Term.R t) = Standard.in_R (standard_refl t)
standard_refl (Term.H r t) = Standard.in_H (standard_refl r) (standard_refl t)
standard_refl (Term.A s t) = Standard.in_A (standard_refl s) (standard_refl t)
standard_refl Term.I = Standard.in_I
standard_refl (Term.B u s) = Standard.in_B (standard_refl u) (standard_refl s)
standard_refl (Term.app t u) = Standard.in_app (standard_refl t) (standard_refl u)
standard_refl (Term.bell k) = Standard.in_bell

-- where the parts of an application reduce to those of a rule's left side, it reduces to the right side
fire : {n : ℕ} {t f u a v : Term} → Rule n (Term.app f a) v → Standard t f → Standard u a → Standard (Term.app t u) v
fire {u = u} rule (Standard.step-first e s) q = Standard.step-first (ap (within (λ f. Term.app f u)) e) (fire rule s q)
fire Rule.rule_1 Standard.in_J q = Standard.step-first refl (Standard.in_H Standard.in_J q)
fire Rule.rule_2 (Standard.in_R p) q = Standard.step-first refl (Standard.in_H (Standard.in_R p) q)
fire Rule.rule_3 (Standard.in_H p p') q = Standard.step-first refl (Standard.in_H (Standard.in_H p p') q)
fire Rule.rule_4 (Standard.in_A p p') q = Standard.step-first refl (Standard.in_app (Standard.in_B q p) p')
fire Rule.rule_5 Standard.in_I q = Standard.step-first refl q
fire Rule.rule_12 Standard.in_bell q = Standard.step-first refl (Standard.in_H Standard.in_bell q)
fire rule (Standard.in_B {u = u} {s = s} p p') (Standard.step-first e q) =
    Standard.step-first (ap (within (Term.app (Term.B u s))) e) (fire rule (Standard.in_B p p') q)
fire Rule.rule_6 (Standard.in_B p p') Standard.in_J = Standard.step-first refl p
fire Rule.rule_7 (Standard.in_B p p') (Standard.in_R q) = Standard.step-first refl (Standard.in_app p' q)
fire Rule.rule_8 (Standard.in_B p p') (Standard.in_H q q') =
    Standard.step-first refl (Standard.in_app (Standard.in_app (Standard.in_B p p') q) (Standard.in_app (Standard.in_B p p') q'))
fire Rule.rule_9 (Standard.in_B p p') (Standard.in_A q q') =
    Standard.step-first refl (Standard.in_A (Standard.in_app (Standard.in_B p p') q) q')
fire Rule.rule_10 (Standard.in_B p p') Standard.in_I = Standard.step-first refl Standard.in_I
fire Rule.rule_11 (Standard.in_B p p') (Standard.in_B q q') =
    Standard.step-first refl (Standard.in_B (Standard.in_app (Standard.in_B p p') q) (Standard.in_app (Standard.in_B p p') q'))
fire Rule.rule_13 (Standard.in_B p p') Standard.in_bell = Standard.step-first refl Standard.in_bell
fire rule (Standard.in_B p p') (Standard.in_app _ _) = elim rule [ ]
fire rule (Standard.in_app _ _) q = elim rule [ ]

-- a standard reduction and one more change are a standard reduction
pub absorb : {n : ℕ} {p : Place} {t u v : Term} → Standard t u → Change n p u v → Standard t v
absorb (Standard.step-first e s) c = Standard.step-first e (absorb s c)
absorb Standard.in_J (Change.here rule) = elim rule [ ]
absorb Standard.in_I (Change.here rule) = elim rule [ ]
absorb Standard.in_bell (Change.here rule) = elim rule [ ]
absorb (Standard.in_R s) (Change.in_R c) = Standard.in_R (absorb s c)
absorb (Standard.in_H s q) (Change.in_H₁ c) = Standard.in_H (absorb s c) q
absorb (Standard.in_H s q) (Change.in_H₂ c) = Standard.in_H s (absorb q c)
absorb (Standard.in_A s q) (Change.in_A₁ c) = Standard.in_A (absorb s c) q
absorb (Standard.in_A s q) (Change.in_A₂ c) = Standard.in_A s (absorb q c)
absorb (Standard.in_B s q) (Change.in_B₁ c) = Standard.in_B (absorb s c) q
absorb (Standard.in_B s q) (Change.in_B₂ c) = Standard.in_B s (absorb q c)
absorb (Standard.in_app s q) (Change.in_app₁ c) = Standard.in_app (absorb s c) q
absorb (Standard.in_app s q) (Change.in_app₂ c) = Standard.in_app s (absorb q c)
absorb (Standard.in_app s q) (Change.here rule) = fire rule s q
absorb (Standard.in_R s) (Change.here rule) = elim rule [ ]
absorb (Standard.in_H s q) (Change.here rule) = elim rule [ ]
absorb (Standard.in_A s q) (Change.here rule) = elim rule [ ]
absorb (Standard.in_B s q) (Change.here rule) = elim rule [ ]

-- and so are a standard reduction and any changes
absorb_all : {t u v : Term} → Standard t u → Reduce u v → Standard t v
absorb_all s Reduce.unchanged = s
absorb_all s (Reduce.forwards c h) = absorb_all (absorb s c) h

-- whatever changes lead from t to v, a standard reduction does
pub reduce_standard : {t v : Term} → Reduce t v → Standard t v
reduce_standard {t} h = absorb_all (standard_refl t) h

-- the order's steps from t to v, whatever area they take
record Leads (t v : Term) : Type 0 where
  area : ℕ
  rules : List ℕ
  steps : Steps area t rules v

-- what puts each step of a part into the whole, so many letters larger, puts steps there
steps_in :
    {area : ℕ} {t u : Term} {rules : List ℕ} (around : Term → Term) (more : ℕ) →
    ((n : ℕ) (x y : Term) → next x ≡ Next.step n y → next (around x) ≡ Next.step n (around y)) →
    ((x : Term) → size (around x) ≡ more + size x) →
    Steps area t rules u → Steps (more + area) (around t) rules (around u)
steps_in around more steps-around grows Steps.none = Steps.none
steps_in around more steps-around grows (Steps.more {t = t} {u = u} e fits rest) =
    Steps.more (steps-around _ t u e) (omega (arith, grows u, fits)) (steps_in around more steps-around grows rest)

-- the steps of the left part to a normal term, and then those of the right part
leads-both :
    {t t' u u' : Term} (node : Term → Term → Term) →
    ((x y : Term) → next (node x y) ≡ leftmost node x y (next x) (next y)) →
    ((x y : Term) → size (node x y) ≡ suc (size x + size y)) →
    Normal t' → Leads t t' → Leads u u' → Leads (node t u) (node t' u')
leads-both {t} {t'} {u} {u'} node goes sized m first second =
    let left =
    steps_in (λ x. node x u) (suc (size u)) (λ n x y e. goes x u ∙ next-first node x u e) (λ x. sized x u ∙ omega arith) first.steps in
    let right =
    steps_in (node t') (suc (size t')) (λ n x y e. goes t' x ∙ next-second node t' x m e) (λ x. sized t' x ∙ omega arith) second.steps in
    record {
      area = (suc (size u) + first.area) + (suc (size t') + second.area);
      rules = _;
      steps = steps-append (steps_wider (omega arith) left) (steps_wider (omega arith) right);
    }

-- a standard reduction to a normal term is made of the order's steps
standard_leads : {t v : Term} → Standard t v → Normal v → Leads t v
standard_leads (Standard.step-first {u = u} e s) m =
    let rest = standard_leads s m in
    record {
      area = size u + rest.area;
      rules = _;
      steps = Steps.more e (omega arith) (steps_wider (omega arith) rest.steps);
    }
standard_leads Standard.in_J m = record { area = 0; rules = []; steps = Steps.none }
standard_leads (Standard.in_R s) (Normal.normal-R m) =
    let rest = standard_leads s m in
    record {
      area = 1 + rest.area;
      rules = _;
      steps = steps_in Term.R 1 (λ n x y e. ap (within Term.R) e) (λ x. omega arith) rest.steps;
    }
standard_leads (Standard.in_H s q) (Normal.normal-H m k) =
    leads-both Term.H (λ x y. refl) (λ x y. refl) m (standard_leads s m) (standard_leads q k)
standard_leads (Standard.in_A s q) (Normal.normal-A m k) =
    leads-both Term.A (λ x y. refl) (λ x y. refl) m (standard_leads s m) (standard_leads q k)
standard_leads Standard.in_I m = record { area = 0; rules = []; steps = Steps.none }
standard_leads (Standard.in_B s q) (Normal.normal-B m k) =
    leads-both Term.B (λ x y. refl) (λ x y. refl) m (standard_leads s m) (standard_leads q k)
standard_leads Standard.in_bell m = record { area = 0; rules = []; steps = Steps.none }
standard_leads (Standard.in_app _ _) m = elim m [ ]

-- whatever changes lead from t to v, and v is normal, the order's steps do
pub reduce_leads : {t v : Term} → Reduce t v → Normal v → (area : ℕ) × (rules : List ℕ) × Steps area t rules v
reduce_leads h m = let way = standard_leads (reduce_standard h) m in (way.area, way.rules, way.steps)
