-- What is not so, shown on its terms. Of `.AIHJJAIHJJ` a run goes round: `Round` says what its terms look like, and the order and
-- the leftmost change alike lead from one of them to another, also inside example 8. Assumes nothing.
use Prim.Native.Nat.{ℕ}
use mathlib.Core.Path.{◌≡◌, refl, sym, ◌∙◌, ap, subst}
use mathlib.Core.Logic.{◌⊎◌, inl, inr}
use mathlib.Core.List.{[], ◌∷◌}
use Rattle.calculus.specs.Term.{Term, Normal}
use Rattle.calculus.specs.Rule.{Rule}
use Rattle.calculus.specs.Change.{Side, Place, Change}
use Rattle.calculus.specs.Turning.{Reduce}
use Rattle.calculus.specs.Order.{Step, Next, next}
use Rattle.calculus.specs.Run.{Outcome, run, outcome}
use Rattle.promises.specs.OtherWays.{Before, Leftmost, ByLeftmost, OtherWays, twice, shared, example_8_with, example_8}
use Rattle.calculus.proofs.Order.{next-rule, step-next}
use Rattle.calculus.proofs.Runs.{terms-all, reached-term, finished-normal}
use Rattle.calculus.proofs.Found.{finished-finds, finishes_exactly}

-- two answers on one term give one term
one-next : {n m : ℕ} {u v : Term} (t : Term) → next t ≡ Next.step n u → next t ≡ Next.step m v → u ≡ v
one-next {u = u} t e f = ap to (sym e ∙ f)
  where
    to : Next → Term
    to Next.stop = u
    to (Next.step n w) = w

-- two changes at one place are one
one-change : {n m : ℕ} {p : Place} {t u v : Term} → Change n p t u → Change m p t v → u ≡ v
one-change {t = t} (Change.here r) (Change.here s) = one-next t (next-rule r) (next-rule s)
one-change (Change.in_R c) (Change.in_R d) = ap Term.R (one-change c d)
one-change (Change.in_H₁ {t = t} c) (Change.in_H₁ d) = ap (λ (r : Term). Term.H r t) (one-change c d)
one-change (Change.in_H₂ {r = r} c) (Change.in_H₂ d) = ap (Term.H r) (one-change c d)
one-change (Change.in_A₁ {t = t} c) (Change.in_A₁ d) = ap (λ (s : Term). Term.A s t) (one-change c d)
one-change (Change.in_A₂ {s = s} c) (Change.in_A₂ d) = ap (Term.A s) (one-change c d)
one-change (Change.in_B₁ {s = s} c) (Change.in_B₁ d) = ap (λ (u : Term). Term.B u s) (one-change c d)
one-change (Change.in_B₂ {u = u} c) (Change.in_B₂ d) = ap (Term.B u) (one-change c d)
one-change (Change.in_app₁ {u = a} c) (Change.in_app₁ d) = ap (λ (f : Term). Term.app f a) (one-change c d)
one-change (Change.in_app₂ {t = f} c) (Change.in_app₂ d) = ap (Term.app f) (one-change c d)

-- what holds of two places holds of them on one side
on_one_side :
    {p q : Place} (side : Side) → Before p q ⊎ ((p ≡ q) ⊎ Before q p) →
    Before (side ∷ p) (side ∷ q) ⊎ ((side ∷ p ≡ side ∷ q) ⊎ Before (side ∷ q) (side ∷ p))
on_one_side side (inl b) = inl (Before.inside b)
on_one_side side (inr (inl e)) = inr (inl (ap (◌∷◌ side) e))
on_one_side side (inr (inr b)) = inr (inr (Before.inside b))

-- of two places one is before the other, or they are one
before_or_after : (p q : Place) → Before p q ⊎ ((p ≡ q) ⊎ Before q p)
before_or_after [] [] = inr (inl refl)
before_or_after [] (side ∷ q) = inl Before.above
before_or_after (side ∷ p) [] = inr (inr Before.above)
before_or_after (Side.first ∷ p) (Side.second ∷ q) = inl Before.beside
before_or_after (Side.second ∷ p) (Side.first ∷ q) = inr (inr Before.beside)
before_or_after (Side.first ∷ p) (Side.first ∷ q) = on_one_side Side.first (before_or_after p q)
before_or_after (Side.second ∷ p) (Side.second ∷ q) = on_one_side Side.second (before_or_after p q)

-- the leftmost change is one
leftmost-once : {t u v : Term} → Leftmost t u → Leftmost t v → u ≡ v
leftmost-once {t} {u} {v} l k = go (before_or_after l.place k.place)
  where
    go : Before l.place k.place ⊎ ((l.place ≡ k.place) ⊎ Before k.place l.place) → u ≡ v
    go (inl b) = absurd (k.none_before _ _ _ l.change b)
    go (inr (inl e)) = one-change (subst (λ (p : Place). Change l.rule p t u) e l.change) k.change
    go (inr (inr b)) = absurd (l.none_before _ _ _ k.change b)

-- `Yields t`: t becomes `twice` in some steps, each at its own root
data Yields : Term → Type 0 where
  itself : Yields twice
  looked_up : {t : Term} → Yields t → Yields (Term.app (Term.B t Term.I) Term.J)

-- `Round t`: t is on the way of `.AIHJJAIHJJ`
data Round : Term → Type 0 where
  applied : {t u : Term} → Yields t → Yields u → Round (Term.app t u)
  entered : {t : Term} → Yields t → Round (Term.app (Term.B t Term.I) (Term.H Term.J Term.J))

-- no term of the way is normal
round-not-normal : {t : Term} → Round t → ¬ Normal t
round-not-normal (Round.applied x y) m = elim m [ ]
round-not-normal (Round.entered x) m = elim m [ ]

-- what comes next on the way is on it
record Goes (t : Term) : Type 0 where
  rule : ℕ
  to : Term
  is-next : next t ≡ Next.step rule to
  leftmost : Leftmost t to
  round : Round to

-- nothing stands before the first letter
nothing-before : {p : Place} → ¬ Before p []
nothing-before {p = []} b = elim b [ ]
nothing-before {p = side ∷ p} b = elim b [ ]

-- a change of the term itself is the leftmost
at_root : {n : ℕ} {t u : Term} → Rule n t u → Leftmost t u
at_root {n} r = record { rule = n; place = []; change = Change.here r; none_before = λ m p v c. nothing-before }

-- where no rule fits the term itself, a change of its function is the leftmost
at-function :
    {n : ℕ} {f g a : Term} →
    ((m : ℕ) (v : Term) → ¬ Rule m (Term.app f a) v) → Rule n f g → Leftmost (Term.app f a) (Term.app g a)
at-function {n} {f} {g} {a} none r =
    record { rule = n; place = Side.first ∷ []; change = Change.in_app₁ (Change.here r); none_before = before }
  where
    before : (m : ℕ) (p : Place) (v : Term) → Change m p (Term.app f a) v → ¬ Before p (Side.first ∷ [])
    before m p v (Change.here rule) Before.above = none m v rule
    before m p v (Change.in_app₁ c) (Before.inside b) = nothing-before b
    before m _ _ (Change.in_app₂ _) x = elim x [ ]

-- no rule fits an application whose function is itself an application of a pair
no-rule : {m : ℕ} {t a v : Term} → ¬ Rule m (Term.app (Term.app (Term.B t Term.I) Term.J) a) v
no-rule r = elim r [ ]

-- the way goes on, by the order and by leftmost changes alike
goes : {t : Term} → Round t → Goes t
goes (Round.applied Yields.itself y) =
    record { rule = 4; to = _; is-next = refl; leftmost = at_root Rule.rule_4; round = Round.entered y }
goes (Round.applied (Yields.looked_up x) y) =
    record {
      rule = 6;
      to = _;
      is-next = refl;
      leftmost = at-function (λ m v r. no-rule r) Rule.rule_6;
      round = Round.applied x y;
    }
goes (Round.entered x) =
    record {
      rule = 8;
      to = _;
      is-next = refl;
      leftmost = at_root Rule.rule_8;
      round = Round.applied (Yields.looked_up x) (Yields.looked_up x);
    }

-- the steps of the order stay on the way
round-step : (n : ℕ) (t u : Term) → Round t → Step n t u → Round u
round-step n t u x s = let g = goes x in subst Round (one-next t g.is-next (step-next s)) g.round

-- the leftmost change of the first part of the pair is that of the whole
leftmost-inside : {t u : Term} → Leftmost t u → Leftmost (example_8_with t) (example_8_with u)
leftmost-inside {t} {u} l =
    record {
      rule = l.rule;
      place = Side.first ∷ Side.first ∷ l.place;
      change = Change.in_app₁ (Change.in_B₁ l.change);
      none_before = λ m p v. before;
    }
  where
    before : {m : ℕ} {p : Place} {v : Term} → Change m p (example_8_with t) v → ¬ Before p (Side.first ∷ Side.first ∷ l.place)
    before (Change.here rule) b = elim rule [ ]
    before (Change.in_app₁ (Change.here rule)) b = elim rule [ ]
    before (Change.in_app₁ (Change.in_B₁ c)) (Before.inside (Before.inside b)) = l.none_before _ _ _ c b
    before (Change.in_app₁ (Change.in_B₂ c)) (Before.inside b) = elim b [ ]
    before (Change.in_app₂ c) b = elim b [ ]

-- leftmost changes stay in the first part of the pair, and on the way
stays : {t w v : Term} → Round t → w ≡ example_8_with t → ByLeftmost w v → (u : Term) × Round u × (v ≡ example_8_with u)
stays x e ByLeftmost.unchanged = (_, x, e)
stays {t = t} x e (ByLeftmost.onwards {u = u} l rest) =
    let g = goes x in
    stays {t = g.to} g.round (leftmost-once (subst (λ (w : Term). Leftmost w u) e l) (leftmost-inside g.leftmost)) rest

overlooks : (v : Term) → ByLeftmost example_8 v → (¬ Normal v) × ((w : Term) × Leftmost v w)
overlooks v h =
    let (t, x, e) = stays (Round.applied Yields.itself Yields.itself) refl h in
    subst (λ (v : Term). (¬ Normal v) × ((w : Term) × Leftmost v w)) (sym e)
    (λ m. elim m [ ], (example_8_with (goes x).to, leftmost-inside (goes x).leftmost))

-- no run of a term on the way is finished
never_finished : (t : Term) (fuel area : ℕ) → Round t → ¬ (outcome (run fuel area t) ≡ Outcome.finished)
never_finished t fuel area x done =
    round-not-normal
    (terms-all fuel area t Round (λ n v w y s fits. round-step n v w y s) x _ (reached-term t (run fuel area t)))
    (finished-normal fuel area t done)

-- five changes: the shared part first
abbrev five : Reduce shared Term.I
five =
    Reduce.forwards (Change.in_app₁ (Change.in_B₁ (Change.here Rule.rule_5)))
    (Reduce.forwards (Change.here Rule.rule_8)
    (Reduce.forwards (Change.in_app₁ (Change.here Rule.rule_6))
    (Reduce.forwards (Change.here Rule.rule_5) (Reduce.forwards (Change.here Rule.rule_6) Reduce.unchanged))))

pub other-ways : OtherWays
other-ways =
    record {
      texts = (refl, refl, refl);
      fewer = (five, refl, refl);
      ordered = (finished-finds shared 6 15 refl, refl, refl);
      eighth = (finished-finds example_8 2 15 refl, refl);
      leftmost_overlooks = overlooks;
      endless =
          λ v m turned.
          let (fuel, area, done) = (finishes_exactly (Term.app twice twice)).0 (v, m, turned) in
          never_finished (Term.app twice twice) fuel area (Round.applied Yields.itself Yields.itself) done;
    }
