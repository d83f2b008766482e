-- The search from one application to the next. Where the search goes on, the application that it goes to makes the next step of the
-- term, since it makes the next step of the application that it comes from; it goes on to a byte that stands in the list, so it ends.
-- Assumes nothing.
use Prim.Native.Nat.{ℕ, ◌+◌, ◌≤◌, ◌<◌}
use native.Mathlib.Omega.{arith}
use native.Mathlib.Decide.{dec_lt}
use mathlib.Core.Path.{◌≡◌, refl, sym, ◌∙◌, ap, ap₂, subst}
use mathlib.Core.List.{List, [], ◌∷◌, ◌++◌, append_assoc, append-nil}
use lib.ListN.{length, get_or, length-append, get_or-eq_default}
use Rattle.calculus.specs.Letter.{Letter, byte}
use Rattle.calculus.specs.Term.{Term, text, size}
use Rattle.calculus.specs.Order.{Next, next, within}
use Rattle.calculus.proofs.PrefixCode.{length-text, size_positive}
use Rattle.parts.specs.Skip.{end_at}
use Rattle.parts.specs.Ends.{Ends}
use Rattle.parts.proofs.Skip.{end-text, end_nested}
use Rattle.calculus.proofs.Heads.{is-app, is-pair}
use Rattle.parts.proofs.Laid.{Laid, function-head, function-end, argument-head}
use Rattle.redexes.specs.Moves.{Move, Leads}
use Rattle.redexes.specs.Spot.{Spot, Redex}

-- ---- one move of the search

-- a spot goes on to its function, where that is an application
in_function : {t : Term} {p : ℕ} (spot : Spot t p) (f a : Term) → spot.function ≡ Term.app f a → Spot t (p + 1)
in_function {t} {p} spot f a q =
    let arg = spot.argument in
    record {
      front = spot.front ++ (byte Letter.stop ∷ []);
      function = f;
      argument = a;
      back = text arg ++ spot.back;
      place = omega (arith, spot.place, length-append spot.front (byte Letter.stop ∷ []));
      spelt = spot.spelt ∙ ap (λ (x : Term). spot.front ++ (text (Term.app x arg) ++ spot.back)) q ∙ simp append_assoc;
      steps =
          λ n v e.
          let inner = ap (λ (x : Term). next (Term.app x arg)) q ∙ ap (within (λ (x : Term). Term.app x arg)) e in
          let outer = spot.steps n (Term.app v arg) inner in
          record { reduct = outer.reduct; step = outer.step; spelt = outer.spelt ∙ simp append_assoc };
    }

-- a spot goes on to its argument, where that is an application and its function a pair
in_argument :
    {t : Term} {p : ℕ} (spot : Spot t p) (u s f a : Term) →
    spot.function ≡ Term.B u s → spot.argument ≡ Term.app f a → Spot t (p + 1 + size spot.function)
in_argument {t} {p} spot u s f a q r =
    let fn = spot.function in
    record {
      front = spot.front ++ (byte Letter.stop ∷ text fn);
      function = f;
      argument = a;
      back = spot.back;
      place = omega (arith, spot.place, length-append spot.front (byte Letter.stop ∷ text fn), length-text fn);
      spelt = spot.spelt ∙ ap (λ (x : Term). spot.front ++ (text (Term.app fn x) ++ spot.back)) r ∙ simp append_assoc;
      steps =
          λ n v e.
          let outer =
          spot.steps n (Term.app fn v)
          (ap₂ (λ (x y : Term). next (Term.app x y)) q r
          ∙ ap (within (Term.app (Term.B u s))) e
          ∙ ap (λ (x : Term). Next.step n (Term.app x v)) (sym q)) in
          record { reduct = outer.reduct; step = outer.step; spelt = outer.spelt ∙ simp append_assoc };
    }

-- the text of a term in which there is a spot
pub spot-laid : {t : Term} {p : ℕ} (spot : Spot t p) → Laid (text t) spot.front spot.function spot.argument spot.back p
spot-laid spot = record { whole = spot.spelt ∙ simp (append_assoc, append-nil); place = spot.place }

-- the application of a spot ends behind its text
pub spot-end : {t : Term} {p : ℕ} (spot : Spot t p) → end_at (text t) p ≡ p + size (Term.app spot.function spot.argument)
spot-end {t} {p} spot =
    end-text (text t) spot.front (Term.app spot.function spot.argument) spot.back p spot.spelt spot.place

-- a byte that is not 0 stands in the list
byte-within : (s : List ℕ) (at : ℕ) → get_or s at 0 ≡ byte Letter.stop → at < length s
byte-within s at e = go (dec_lt at (length s))
  where
    go : Dec (at < length s) → at < length s
    go (yes k) = k
    go (no k) = absurd (omega (arith, get_or-eq_default s 0 {n = at} (omega arith)))

module _ {end_of : ℕ → ℕ} where
  -- where the search goes on, it stays within the list
  pub move-within : {s : List ℕ} {p q : ℕ} → Move end_of s p q → p < q → q < length s
  move-within {s} {p} (Move.function e) n = byte-within s (p + 1) e
  move-within {s} (Move.argument {end = end} m e k) n = byte-within s end k
  move-within (Move.here m k) n = absurd (omega arith)

  -- past the end it goes nowhere
  pub move-past : (s : List ℕ) (p : ℕ) → length s ≤ p → Move end_of s p p
  move-past s p h =
      let none : get_or s (p + 1) 0 ≡ 0 = get_or-eq_default s 0 {n = p + 1} (omega arith) in
      Move.here (λ e. omega (arith, none)) (λ e. absurd (omega (arith, none)))

  -- one move is all that there is from a place, and so is where the moves from it end
  pub move-unique : {s : List ℕ} {p q r : ℕ} → Move end_of s p q → Move end_of s p r → q ≡ r
  move-unique (Move.function e) (Move.function k) = refl
  move-unique (Move.function e) (Move.argument m k l) = absurd (omega arith)
  move-unique (Move.function e) (Move.here n k) = absurd (n e)
  move-unique (Move.argument m e l) (Move.function k) = absurd (omega arith)
  move-unique (Move.argument m e l) (Move.argument n k j) = m ∙ sym n
  move-unique {s} (Move.argument m e l) (Move.here n k) = absurd (k e (ap (λ (i : ℕ). get_or s i 0) (sym m) ∙ l))
  move-unique (Move.here n k) (Move.function e) = absurd (n e)
  move-unique {s} (Move.here n k) (Move.argument m e l) = absurd (k e (ap (λ (i : ℕ). get_or s i 0) (sym m) ∙ l))
  move-unique (Move.here n k) (Move.here m j) = refl

  pub leads-unique : {s : List ℕ} {p q r : ℕ} → Leads end_of s p q → Leads end_of s p r → q ≡ r
  leads-unique (Leads.ends m h) (Leads.ends n k) = refl
  leads-unique (Leads.ends m h) (Leads.goes n k l) = absurd (omega (arith, move-unique n m))
  leads-unique (Leads.goes n k l) (Leads.ends m h) = absurd (omega (arith, move-unique n m))
  leads-unique {s} {r = r} (Leads.goes m h l) (Leads.goes n k j) =
      leads-unique l (subst (λ (i : ℕ). Leads end_of s i r) (move-unique n m) j)

  -- ---- moves from a spot, where end_of has the end of its function

  -- where the search goes on, it goes to a spot, and that begins in the application that it comes from
  move-spot :
      {t : Term} {p q : ℕ} (spot : Spot t p) → end_of (p + 1) ≡ end_at (text t) (p + 1) → Move end_of (text t) p q → p < q →
      Spot t q × (q < p + size (Term.app spot.function spot.argument))
  move-spot spot right (Move.function e) h =
      let app = is-app spot.function (sym (function-head (spot-laid spot)) ∙ e) in
      (in_function spot app.0 app.1 app.2, omega (arith, size_positive spot.argument))
  move-spot {t} spot right (Move.argument {end = end} m e k) h =
      let laid = spot-laid spot in
      let there : end ≡ end_at (text t) _ = m ∙ right in
      let pair = is-pair spot.function (sym (function-head laid) ∙ e) in
      let app = is-app spot.argument (sym (argument-head laid end there) ∙ k) in
      let next = in_argument spot pair.0 pair.1 app.0 app.1 pair.2 app.2 in (
        rw (there ∙ function-end laid) next,
        omega (arith, there, function-end laid, size_positive spot.argument),
      )
  move-spot spot right (Move.here m k) h = absurd (omega arith)

  -- where it goes no further, neither its function nor the argument of its pair is an application
  move-stays :
      {s : List ℕ} {p q : ℕ} → end_of (p + 1) ≡ end_at s (p + 1) → Move end_of s p q → q ≤ p →
      ¬ (get_or s (p + 1) 0 ≡ byte Letter.stop) × (get_or s (p + 1) 0 ≡ byte Letter.B → ¬ (get_or s (end_at s (p + 1)) 0 ≡ byte Letter.stop))
  move-stays right (Move.function e) h = absurd (omega arith)
  move-stays right (Move.argument m e k) h = absurd (omega arith)
  move-stays {s} right (Move.here m k) h = (m, λ b e. k b (ap (λ (i : ℕ). get_or s i 0) right ∙ e))

  -- from a spot in the part at `from`, whose ends end_of has, they end at the redex
  pub leads-redex :
      {t : Term} {from p r : ℕ} → Ends end_of (text t) from (end_at (text t) from) → (spot : Spot t p) → from ≤ p →
      p + size (Term.app spot.function spot.argument) ≤ end_at (text t) from → Leads end_of (text t) p r → Redex t from r
  leads-redex {p = p} right spot h k (Leads.ends m l) =
      let (no_function, no_argument) = move-stays (right (p + 1) (omega arith) (omega (arith, size_positive spot.argument))) m l in
      record { spot = spot; begins = h; ends = k; no_function = no_function; no_argument = no_argument }
  leads-redex {t} {from} {p} right spot h k (Leads.goes {q = q} m l later) =
      let (there, before) = move-spot spot (right (p + 1) (omega arith) (omega (arith, size_positive spot.argument))) m l in
      leads-redex right there (omega arith)
      (omega (arith, spot-end there, end_nested (text t) from q (omega arith) (omega arith)))
      later
