-- Terms, their text, their size, and which are normal (REQUIREMENTS, Terms, Bells): J and R are indices, H is frozen application, A a closure of an
-- environment and a body, I the empty substitution, B a pair, app an application, bell a bell.
use Rattle.std.specs.Prelude.{ℕ, suc, ◌+◌, List, [], ◌∷◌, ◌++◌}
use Rattle.calculus.specs.Bell.{Bell}
use Rattle.calculus.specs.Letter.{Letter, byte}

pub data Term : Type 0 where
  J : Term
  R : (t : Term) → Term
  H : (r t : Term) → Term
  A : (s t : Term) → Term
  I : Term
  B : (u s : Term) → Term
  app : (t u : Term) → Term
  bell : (k : Bell) → Term

-- the bytes of a term in prefix form
abbrev pub text : Term → List ℕ
text Term.J = byte Letter.J ∷ []
text (Term.R t) = byte Letter.R ∷ text t
text (Term.H r t) = byte Letter.H ∷ (text r ++ text t)
text (Term.A s t) = byte Letter.A ∷ (text s ++ text t)
text Term.I = byte Letter.I ∷ []
text (Term.B u s) = byte Letter.B ∷ (text u ++ text s)
text (Term.app t u) = byte Letter.stop ∷ (text t ++ text u)
text (Term.bell k) = byte (Letter.bell k) ∷ []

-- the number of letters
abbrev pub size : Term → ℕ
size Term.J = 1
size (Term.R t) = suc (size t)
size (Term.H r t) = suc (size r + size t)
size (Term.A s t) = suc (size s + size t)
size Term.I = 1
size (Term.B u s) = suc (size u + size s)
size (Term.app t u) = suc (size t + size u)
size (Term.bell k) = 1

-- no full stop: every form but the application, of normal terms
pub data Normal : Term → Type 0 where
  normal-J : Normal Term.J
  normal-R : {t : Term} → Normal t → Normal (Term.R t)
  normal-H : {r t : Term} → Normal r → Normal t → Normal (Term.H r t)
  normal-A : {s t : Term} → Normal s → Normal t → Normal (Term.A s t)
  normal-I : Normal Term.I
  normal-B : {u s : Term} → Normal u → Normal s → Normal (Term.B u s)
  normal-bell : {k : Bell} → Normal (Term.bell k)
