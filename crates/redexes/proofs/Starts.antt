-- Where the search for the redex starts: a text without a full stop has no next step, and in any other the application that the first
-- full stop begins makes the term's next step. One induction over the term. Assumes nothing.
use Prim.Native.Nat.{ℕ, suc, ◌+◌}
use native.Mathlib.Omega.{arith}
use mathlib.Core.Path.{◌≡◌, refl, sym, ◌∙◌, ap}
use mathlib.Core.Bool.{false}
use mathlib.Core.List.{List, [], ◌∷◌, ◌++◌, append_assoc, append-nil}
use borrow.Author.Tests.{ne_eqb}
use lib.Dec.{eqb}
use lib.ListN.{length-append}
use Rattle.calculus.specs.Letter.{Letter, byte}
use Rattle.calculus.specs.Term.{Term, text, size}
use Rattle.calculus.specs.Order.{Next, next, within, leftmost}
use Rattle.calculus.proofs.PrefixCode.{length-text, bell_no_stop}
use Rattle.slices.proofs.Finding.{Lacks, lacks_append}
use Rattle.redexes.specs.Spot.{Spot}

-- a term has no full stop and no next step, or its first full stop begins an application that makes its next step
pub data Start (t : Term) : Type 0 where
  nowhere : Lacks (byte Letter.stop) (text t) → next t ≡ Next.stop → Start t
  at : {p : ℕ} (spot : Spot t p) → Lacks (byte Letter.stop) spot.front → Start t

-- in an application, the application itself
start-app : (f a : Term) → Start (Term.app f a)
start-app f a =
    Start.at {p = 0}
    (record {
      front = [];
      function = f;
      argument = a;
      back = [];
      place = refl;
      spelt = sym (append-nil (text (Term.app f a)));
      steps = λ n v e. record { reduct = v; step = e; spelt = sym (append-nil (text v)) };
    })
    tt

-- behind `R`, in its term
start-R : (t : Term) → Start t → Start (Term.R t)
start-R t (Start.nowhere n e) = Start.nowhere (refl, n) (ap (within Term.R) e)
start-R t (Start.at {p = p} spot n) =
    Start.at {p = suc p}
    (record {
      front = byte Letter.R ∷ spot.front;
      function = spot.function;
      argument = spot.argument;
      back = spot.back;
      place = ap suc spot.place;
      spelt = ap (λ (l : List ℕ). byte Letter.R ∷ l) spot.spelt;
      steps =
          λ m v e.
          let inner = spot.steps m v e in
          record {
            reduct = Term.R inner.reduct;
            step = ap (within Term.R) inner.step;
            spelt = ap (λ (l : List ℕ). byte Letter.R ∷ l) inner.spelt;
          };
    })
    (refl, n)

-- a letter that takes two terms and is no full stop
record Node (b : ℕ) (node : Term → Term → Term) : Type 0 where
  other : eqb b (byte Letter.stop) ≡ false
  spelt : (t u : Term) → text (node t u) ≡ b ∷ (text t ++ text u)
  ordered : (t u : Term) → next (node t u) ≡ leftmost node t u (next t) (next u)

node-H : Node (byte Letter.H) Term.H
node-H = record { other = refl; spelt = λ t u. refl; ordered = λ t u. refl }

node-A : Node (byte Letter.A) Term.A
node-A = record { other = refl; spelt = λ t u. refl; ordered = λ t u. refl }

node-B : Node (byte Letter.B) Term.B
node-B = record { other = refl; spelt = λ t u. refl; ordered = λ t u. refl }

-- behind such a letter, in the first of its terms that has a full stop
start-two : {b : ℕ} {node : Term → Term → Term} → Node b node → (t u : Term) → Start t → Start u → Start (node t u)
start-two {b} {node} N t u (Start.at {p = p} spot n) later =
    Start.at {p = suc p}
    (record {
      front = b ∷ spot.front;
      function = spot.function;
      argument = spot.argument;
      back = spot.back ++ text u;
      place = ap suc spot.place;
      spelt = N.spelt t u ∙ ap (λ (l : List ℕ). b ∷ (l ++ text u)) spot.spelt ∙ simp append_assoc;
      steps =
          λ m v e.
          let inner = spot.steps m v e in
          record {
            reduct = node inner.reduct u;
            step = N.ordered t u ∙ ap (λ (x : Next). leftmost node t u x (next u)) inner.step;
            spelt = N.spelt inner.reduct u ∙ ap (λ (l : List ℕ). b ∷ (l ++ text u)) inner.spelt ∙ simp append_assoc;
          };
    })
    (N.other, n)
start-two {b} {node} N t u (Start.nowhere n e) (Start.at {p = p} spot m) =
    Start.at {p = suc (size t + p)}
    (record {
      front = b ∷ (text t ++ spot.front);
      function = spot.function;
      argument = spot.argument;
      back = spot.back;
      place = omega (arith, spot.place, length-append (text t) spot.front, length-text t);
      spelt = N.spelt t u ∙ ap (λ (l : List ℕ). b ∷ (text t ++ l)) spot.spelt ∙ simp append_assoc;
      steps =
          λ k v q.
          let inner = spot.steps k v q in
          record {
            reduct = node t inner.reduct;
            step = N.ordered t u ∙ ap (λ (x : Next). leftmost node t u x (next u)) e ∙ ap (within (node t)) inner.step;
            spelt = N.spelt t inner.reduct ∙ ap (λ (l : List ℕ). b ∷ (text t ++ l)) inner.spelt ∙ simp append_assoc;
          };
    })
    (N.other, lacks_append (byte Letter.stop) (text t) spot.front n m)
start-two {b} {node} N t u (Start.nowhere n e) (Start.nowhere m q) =
    Start.nowhere
    (rw (N.spelt t u) (N.other, lacks_append (byte Letter.stop) (text t) (text u) n m))
    (N.ordered t u ∙ ap (λ (x : Next). leftmost node t u x (next u)) e ∙ ap (within (node t)) q)

pub start : (t : Term) → Start t
start Term.J = Start.nowhere (refl, tt) refl
start (Term.R t) = start-R t (start t)
start (Term.H r t) = start-two node-H r t (start r) (start t)
start (Term.A s t) = start-two node-A s t (start s) (start t)
start Term.I = Start.nowhere (refl, tt) refl
start (Term.B u s) = start-two node-B u s (start u) (start s)
start (Term.app t u) = start-app t u
start (Term.bell k) = Start.nowhere (ne_eqb (byte (Letter.bell k)) (byte Letter.stop) (λ e. bell_no_stop k (sym e)), tt) refl
