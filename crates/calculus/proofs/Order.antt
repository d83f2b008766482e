-- The order as a function is the order as a relation: `next` stops at the normal terms and makes the step that the order names.
-- Carried by two inductions: what `next` says of a term holds, and what holds is what `next` says. Assumes nothing.
use Prim.Native.Nat.{ℕ}
use mathlib.Core.Path.{◌≡◌, refl, ◌∙◌, ap, subst}
use mathlib.Core.Logic.{◌↔◌, ◌⊎◌, inl, inr, ⊎_elim}
use mathlib.Core.List.{[], ◌∷◌}
use Rattle.calculus.specs.Term.{Term, Normal}
use Rattle.calculus.specs.Rule.{Rule}
use Rattle.calculus.specs.Change.{Side, Place, Change}
use Rattle.calculus.specs.Order.{Application, Pair, Ordered, Step, Next, within, leftmost, next}

-- a term whose next step the order puts somewhere is not normal
pub ordered-not-normal : {t : Term} {p : Place} → Ordered t p → ¬ Normal t
ordered-not-normal (Ordered.in_R n o) (Normal.normal-R m) = n m
ordered-not-normal (Ordered.in_H₁ n o) (Normal.normal-H m k) = n m
ordered-not-normal (Ordered.in_H₂ m n o) (Normal.normal-H k l) = n l
ordered-not-normal (Ordered.in_A₁ n o) (Normal.normal-A m k) = n m
ordered-not-normal (Ordered.in_A₂ m n o) (Normal.normal-A k l) = n l
ordered-not-normal (Ordered.in_B₁ n o) (Normal.normal-B m k) = n m
ordered-not-normal (Ordered.in_B₂ m n o) (Normal.normal-B k l) = n l
ordered-not-normal (Ordered.in_function _ _) x = elim x [ ]
ordered-not-normal (Ordered.in_argument _ _ _) x = elim x [ ]
ordered-not-normal (Ordered.itself _ _) x = elim x [ ]

-- a term that has a next step is not normal
pub step-not-normal : {n : ℕ} {t u : Term} → Step n t u → ¬ Normal t
step-not-normal s = ordered-not-normal s.ordered

-- what an answer says of t: that it is normal, or that its next step is by rule n and gives u
abbrev pub Says : Term → Next → Type 0
Says t Next.stop = Normal t
Says t (Next.step n u) = Step n t u

-- the step at the place that the order names
step-at : {n : ℕ} {p : Place} {t u : Term} → Ordered t p → Change n p t u → Step n t u
step-at {p = p} o c = record { place = p; ordered = o; change = c }

-- a letter that takes two terms and is no full stop
record Node (node : Term → Term → Term) : Type 0 where
  normal : {t u : Term} → Normal t → Normal u → Normal (node t u)
  ordered₁ : {t u : Term} {p : Place} → ¬ Normal t → Ordered t p → Ordered (node t u) (Side.first ∷ p)
  ordered₂ : {t u : Term} {p : Place} → Normal t → ¬ Normal u → Ordered u p → Ordered (node t u) (Side.second ∷ p)
  change₁ : {n : ℕ} {p : Place} {t t' u : Term} → Change n p t t' → Change n (Side.first ∷ p) (node t u) (node t' u)
  change₂ : {n : ℕ} {p : Place} {t u u' : Term} → Change n p u u' → Change n (Side.second ∷ p) (node t u) (node t u')

node-H : Node Term.H
node-H = record { normal = Normal.normal-H; ordered₁ = Ordered.in_H₁; ordered₂ = Ordered.in_H₂; change₁ = Change.in_H₁; change₂ = Change.in_H₂ }

node-A : Node Term.A
node-A = record { normal = Normal.normal-A; ordered₁ = Ordered.in_A₁; ordered₂ = Ordered.in_A₂; change₁ = Change.in_A₁; change₂ = Change.in_A₂ }

node-B : Node Term.B
node-B = record { normal = Normal.normal-B; ordered₁ = Ordered.in_B₁; ordered₂ = Ordered.in_B₂; change₁ = Change.in_B₁; change₂ = Change.in_B₂ }

-- where what is said of two terms holds, what `leftmost` says of a letter that takes them holds
says-leftmost :
    {node : Term → Term → Term} → Node node → (t u : Term) (x y : Next) →
    Says t x → Says u y → Says (node t u) (leftmost node t u x y)
says-leftmost N t u Next.stop Next.stop a b = N.normal a b
says-leftmost N t u Next.stop (Next.step n u') a b = step-at (N.ordered₂ a (step-not-normal b) b.ordered) (N.change₂ b.change)
says-leftmost N t u (Next.step n t') y a b = step-at (N.ordered₁ (step-not-normal a) a.ordered) (N.change₁ a.change)

-- where what is said of t holds, it holds within `R`
says-R : (t : Term) (x : Next) → Says t x → Says (Term.R t) (within Term.R x)
says-R t Next.stop a = Normal.normal-R a
says-R t (Next.step n t') a = step-at (Ordered.in_R (step-not-normal a) a.ordered) (Change.in_R a.change)

-- the step of a function that is an application is that of the whole
says-function : (f a u : Term) (x : Next) → Says (Term.app f a) x → Says (Term.app (Term.app f a) u) (within (λ f'. Term.app f' u) x)
says-function f a u Next.stop b = elim b [ ]
says-function f a u (Next.step n f') b = step-at (Ordered.in_function Application.application b.ordered) (Change.in_app₁ b.change)

-- the step of an application that a pair takes is that of the whole
says-argument :
    (u s f a : Term) (x : Next) → Says (Term.app f a) x → Says (Term.app (Term.B u s) (Term.app f a)) (within (Term.app (Term.B u s)) x)
says-argument u s f a Next.stop b = elim b [ ]
says-argument u s f a (Next.step n f') b = step-at (Ordered.in_argument Pair.pair Application.application b.ordered) (Change.in_app₂ b.change)

-- no rule applies to an application whose function is one
not_in_function : {n : ℕ} {f a v : Term} → Rule n (Term.app f a) v → ¬ Application f
not_in_function r Application.application = elim r [ ]

-- no rule applies to a pair on an application
not_in_argument : {n : ℕ} {f a v : Term} → Rule n (Term.app f a) v → Pair f → ¬ Application a
not_in_argument r Pair.pair Application.application = elim r [ ]

-- where a rule applies to the term itself, that is its next step
says-rule : {n : ℕ} {f a v : Term} → Rule n (Term.app f a) v → Step n (Term.app f a) v
says-rule r = step-at (Ordered.itself (not_in_function r) (λ b. not_in_argument r b.0 b.1)) (Change.here r)

-- what `next` says of a term holds
pub says : (t : Term) → Says t (next t)
says Term.J = Normal.normal-J
says (Term.R t) = says-R t (next t) (says t)
says (Term.H r t) = says-leftmost node-H r t (next r) (next t) (says r) (says t)
says (Term.A s t) = says-leftmost node-A s t (next s) (next t) (says s) (says t)
says Term.I = Normal.normal-I
says (Term.B u s) = says-leftmost node-B u s (next u) (next s) (says u) (says s)
says (Term.bell k) = Normal.normal-bell
says (Term.app Term.J t) = says-rule Rule.rule_1
says (Term.app (Term.R t) u) = says-rule Rule.rule_2
says (Term.app (Term.H r t) u) = says-rule Rule.rule_3
says (Term.app (Term.A s t) u) = says-rule Rule.rule_4
says (Term.app Term.I t) = says-rule Rule.rule_5
says (Term.app (Term.bell k) t) = says-rule Rule.rule_12
says (Term.app (Term.B u s) Term.J) = says-rule Rule.rule_6
says (Term.app (Term.B u s) (Term.R t)) = says-rule Rule.rule_7
says (Term.app (Term.B u s) (Term.H r t)) = says-rule Rule.rule_8
says (Term.app (Term.B u s) (Term.A r t)) = says-rule Rule.rule_9
says (Term.app (Term.B u s) Term.I) = says-rule Rule.rule_10
says (Term.app (Term.B u s) (Term.B r t)) = says-rule Rule.rule_11
says (Term.app (Term.B u s) (Term.bell k)) = says-rule Rule.rule_13
says (Term.app (Term.B u s) (Term.app f a)) = says-argument u s f a (next (Term.app f a)) (says (Term.app f a))
says (Term.app (Term.app f a) u) = says-function f a u (next (Term.app f a)) (says (Term.app f a))

-- a normal term has no next step
pub normal-stop : {t : Term} → Normal t → next t ≡ Next.stop
normal-stop {t} m = go (next t) (says t)
  where
    go : (x : Next) → Says t x → x ≡ Next.stop
    go Next.stop a = refl
    go (Next.step n u) a = absurd (step-not-normal a m)

-- a rule that applies to the term itself is the next step
pub next-rule : {n : ℕ} {t u : Term} → Rule n t u → next t ≡ Next.step n u
next-rule Rule.rule_1 = refl
next-rule Rule.rule_2 = refl
next-rule Rule.rule_3 = refl
next-rule Rule.rule_4 = refl
next-rule Rule.rule_5 = refl
next-rule Rule.rule_6 = refl
next-rule Rule.rule_7 = refl
next-rule Rule.rule_8 = refl
next-rule Rule.rule_9 = refl
next-rule Rule.rule_10 = refl
next-rule Rule.rule_11 = refl
next-rule Rule.rule_12 = refl
next-rule Rule.rule_13 = refl

-- the step of the left part is that of the whole
pub next-first :
    {n : ℕ} {t' : Term} (node : Term → Term → Term) (t u : Term) →
    next t ≡ Next.step n t' → leftmost node t u (next t) (next u) ≡ Next.step n (node t' u)
next-first node t u e = ap (λ (x : Next). leftmost node t u x (next u)) e

-- where the left part is normal, the step of the right part is that of the whole
pub next-second :
    {n : ℕ} {u' : Term} (node : Term → Term → Term) (t u : Term) →
    Normal t → next u ≡ Next.step n u' → leftmost node t u (next t) (next u) ≡ Next.step n (node t u')
next-second node t u m e = ap (λ (x : Next). leftmost node t u x (next u)) (normal-stop m) ∙ ap (within (node t)) e

-- the change at the place that the order names is what `next` makes
next-at : {n : ℕ} {p : Place} {t u : Term} → Ordered t p → Change n p t u → next t ≡ Next.step n u
next-at (Ordered.in_R m o) (Change.in_R c) = ap (within Term.R) (next-at o c)
next-at (Ordered.in_H₁ {r = r} {t = t} m o) (Change.in_H₁ c) = next-first Term.H r t (next-at o c)
next-at (Ordered.in_H₂ {r = r} {t = t} k m o) (Change.in_H₂ c) = next-second Term.H r t k (next-at o c)
next-at (Ordered.in_A₁ {s = s} {t = t} m o) (Change.in_A₁ c) = next-first Term.A s t (next-at o c)
next-at (Ordered.in_A₂ {s = s} {t = t} k m o) (Change.in_A₂ c) = next-second Term.A s t k (next-at o c)
next-at (Ordered.in_B₁ {u = u} {s = s} m o) (Change.in_B₁ c) = next-first Term.B u s (next-at o c)
next-at (Ordered.in_B₂ {u = u} {s = s} k m o) (Change.in_B₂ c) = next-second Term.B u s k (next-at o c)
next-at (Ordered.in_function {a = a} Application.application o) (Change.in_app₁ c) = ap (within (λ f. Term.app f a)) (next-at o c)
next-at (Ordered.in_argument (Pair.pair {u = u} {s = s}) Application.application o) (Change.in_app₂ c) = ap (within (Term.app (Term.B u s))) (next-at o c)
next-at (Ordered.itself m k) (Change.here r) = next-rule r

-- the step that the order names is the one that `next` makes
pub step-next : {n : ℕ} {t u : Term} → Step n t u → next t ≡ Next.step n u
step-next s = next-at s.ordered s.change

-- `next` stops at the normal terms and at no other
pub next-is-stop : (t : Term) → (next t ≡ Next.stop) ↔ Normal t
next-is-stop t = (λ e. subst (Says t) e (says t), normal-stop)

-- `next` makes the step that the order names and no other
pub next-is-step : (n : ℕ) (t u : Term) → (next t ≡ Next.step n u) ↔ Step n t u
next-is-step n t u = (λ e. subst (Says t) e (says t), step-next)

-- the order puts the next step of no term in both parts
one_side : {t : Term} {p q : Place} → Ordered t (Side.first ∷ p) → ¬ Ordered t (Side.second ∷ q)
one_side (Ordered.in_H₁ n o) (Ordered.in_H₂ m k o') = n m
one_side (Ordered.in_A₁ n o) (Ordered.in_A₂ m k o') = n m
one_side (Ordered.in_B₁ n o) (Ordered.in_B₂ m k o') = n m
one_side (Ordered.in_function Application.application o) (Ordered.in_argument f a o') = elim f [ ]
one_side (Ordered.in_R _ _) x = elim x [ ]

-- the order puts the next step of no term both at the term itself and in a part
itself_or_part : {t : Term} {side : Side} {q : Place} → Ordered t [] → ¬ Ordered t (side ∷ q)
itself_or_part (Ordered.itself n m) (Ordered.in_function f o) = n f
itself_or_part (Ordered.itself n m) (Ordered.in_argument f a o) = m (f, a)

-- two steps on one side are steps of one part
one-part :
    {t : Term} {side : Side} {p q : Place} →
    Ordered t (side ∷ p) → Ordered t (side ∷ q) → (part : Term) × Ordered part p × Ordered part q
one-part (Ordered.in_R n o) (Ordered.in_R m o') = (_, o, o')
one-part (Ordered.in_H₁ n o) (Ordered.in_H₁ m o') = (_, o, o')
one-part (Ordered.in_H₂ k n o) (Ordered.in_H₂ l m o') = (_, o, o')
one-part (Ordered.in_A₁ n o) (Ordered.in_A₁ m o') = (_, o, o')
one-part (Ordered.in_A₂ k n o) (Ordered.in_A₂ l m o') = (_, o, o')
one-part (Ordered.in_B₁ n o) (Ordered.in_B₁ m o') = (_, o, o')
one-part (Ordered.in_B₂ k n o) (Ordered.in_B₂ l m o') = (_, o, o')
one-part (Ordered.in_function f o) (Ordered.in_function g o') = (_, o, o')
one-part (Ordered.in_argument f a o) (Ordered.in_argument g b o') = (_, o, o')

-- the order puts the next step at one place
pub ordered_unique : {t : Term} {p q : Place} → Ordered t p → Ordered t q → p ≡ q
ordered_unique {p = []} {q = []} o o' = refl
ordered_unique {p = []} {q = side ∷ q} o o' = absurd (itself_or_part o o')
ordered_unique {p = side ∷ p} {q = []} o o' = absurd (itself_or_part o' o)
ordered_unique {p = Side.first ∷ p} {q = Side.first ∷ q} o o' = let (part, a, b) = one-part o o' in ap (◌∷◌ Side.first) (ordered_unique {t = part} {p = p} a b)
ordered_unique {p = Side.first ∷ p} {q = Side.second ∷ q} o o' = absurd (one_side o o')
ordered_unique {p = Side.second ∷ p} {q = Side.first ∷ q} o o' = absurd (one_side o' o)
ordered_unique {p = Side.second ∷ p} {q = Side.second ∷ q} o o' = let (part, a, b) = one-part o o' in ap (◌∷◌ Side.second) (ordered_unique {t = part} {p = p} a b)

-- a term is normal or has a next step
pub progress : (t : Term) → Normal t ⊎ ((n : ℕ) × (u : Term) × Step n t u)
progress t = go (next t) (says t)
  where
    go : (x : Next) → Says t x → Normal t ⊎ ((n : ℕ) × (u : Term) × Step n t u)
    go Next.stop a = inl a
    go (Next.step n u) a = inr (n, u, a)

-- a term that is not normal has a next step
pub not-normal-step : {t : Term} → ¬ Normal t → (n : ℕ) × (u : Term) × Step n t u
not-normal-step {t} m = ⊎_elim (λ a. absurd (m a)) (λ s. s) (progress t)

-- whether a term is normal can be told
pub normal? : (t : Term) → Dec (Normal t)
normal? t = ⊎_elim yes (λ s. no (step-not-normal s.2)) (progress t)
