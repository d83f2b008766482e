-- Which step is next (REQUIREMENTS, Order), as a relation and as a function. `proofs/Order.antt` shows that they agree.
-- Outside an application the leftmost part that is not normal is stepped, bodies of closures too; in one, first a function that is itself an
-- application, then an application that a pair is applied to, else the rule fires where the application stands.
use Rattle.std.specs.Prelude.{ℕ, [], ◌∷◌}
use Rattle.calculus.specs.Term.{Term, Normal}
use Rattle.calculus.specs.Change.{Place, Change, Side}

pub data Application : Term → Type 0 where
  application : {t u : Term} → Application (Term.app t u)

pub data Pair : Term → Type 0 where
  pair : {u s : Term} → Pair (Term.B u s)

-- `Ordered t p`: the order puts the next step of t at p
pub data Ordered : Term → Place → Type 0 where
  in_R : {t : Term} {p : Place} → ¬ Normal t → Ordered t p → Ordered (Term.R t) (Side.first ∷ p)
  in_H₁ : {r t : Term} {p : Place} → ¬ Normal r → Ordered r p → Ordered (Term.H r t) (Side.first ∷ p)
  in_H₂ : {r t : Term} {p : Place} → Normal r → ¬ Normal t → Ordered t p → Ordered (Term.H r t) (Side.second ∷ p)
  in_A₁ : {s t : Term} {p : Place} → ¬ Normal s → Ordered s p → Ordered (Term.A s t) (Side.first ∷ p)
  in_A₂ : {s t : Term} {p : Place} → Normal s → ¬ Normal t → Ordered t p → Ordered (Term.A s t) (Side.second ∷ p)
  in_B₁ : {u s : Term} {p : Place} → ¬ Normal u → Ordered u p → Ordered (Term.B u s) (Side.first ∷ p)
  in_B₂ : {u s : Term} {p : Place} → Normal u → ¬ Normal s → Ordered s p → Ordered (Term.B u s) (Side.second ∷ p)
  in_function : {f a : Term} {p : Place} → Application f → Ordered f p → Ordered (Term.app f a) (Side.first ∷ p)
  in_argument : {f a : Term} {p : Place} → Pair f → Application a → Ordered a p → Ordered (Term.app f a) (Side.second ∷ p)
  itself : {f a : Term} → ¬ Application f → ¬ (Pair f × Application a) → Ordered (Term.app f a) []

-- `Step n t u`: the next step of t is by rule n, at the place that the order names, and gives u
pub record Step (n : ℕ) (t u : Term) : Type 0 where
  pub place : Place
  pub ordered : Ordered t place
  pub change : Change n place t u

-- what comes next: nothing, or a step by the rule of that number to that term
pub data Next : Type 0 where
  stop : Next
  step : ℕ → Term → Next

-- the step of a part, with the rest of the term around it
abbrev pub within : (Term → Term) → Next → Next
within around Next.stop = Next.stop
within around (Next.step n t) = Next.step n (around t)

-- the step of the left part if it has one, else that of the right part
abbrev pub leftmost : (Term → Term → Term) → Term → Term → Next → Next → Next
leftmost node t u (Next.step n t') right = Next.step n (node t' u)
leftmost node t u Next.stop right = within (node t) right

abbrev pub next : Term → Next
next Term.J = Next.stop
next (Term.R t) = within Term.R (next t)
next (Term.H r t) = leftmost Term.H r t (next r) (next t)
next (Term.A s t) = leftmost Term.A s t (next s) (next t)
next Term.I = Next.stop
next (Term.B u s) = leftmost Term.B u s (next u) (next s)
next (Term.bell k) = Next.stop
next (Term.app Term.J t) = Next.step 1 (Term.H Term.J t)
next (Term.app (Term.R t) u) = Next.step 2 (Term.H (Term.R t) u)
next (Term.app (Term.H r t) u) = Next.step 3 (Term.H (Term.H r t) u)
next (Term.app (Term.A s t) u) = Next.step 4 (Term.app (Term.B u s) t)
next (Term.app Term.I t) = Next.step 5 t
next (Term.app (Term.bell k) t) = Next.step 12 (Term.H (Term.bell k) t)
next (Term.app (Term.B u s) Term.J) = Next.step 6 u
next (Term.app (Term.B u s) (Term.R t)) = Next.step 7 (Term.app s t)
next (Term.app (Term.B u s) (Term.H r t)) = Next.step 8 (Term.app (Term.app (Term.B u s) r) (Term.app (Term.B u s) t))
next (Term.app (Term.B u s) (Term.A r t)) = Next.step 9 (Term.A (Term.app (Term.B u s) r) t)
next (Term.app (Term.B u s) Term.I) = Next.step 10 Term.I
next (Term.app (Term.B u s) (Term.B r t)) = Next.step 11 (Term.B (Term.app (Term.B u s) r) (Term.app (Term.B u s) t))
next (Term.app (Term.B u s) (Term.bell k)) = Next.step 13 (Term.bell k)
next (Term.app (Term.B u s) (Term.app f a)) = within (Term.app (Term.B u s)) (next (Term.app f a))
next (Term.app (Term.app f a) u) = within (λ f'. Term.app f' u) (next (Term.app f a))
