-- What is not so beside specs/Results.antt, each with the term that shows it (REQUIREMENTS, Results). `other-ways` of
-- proofs/OtherWays.antt is the proof.
use Rattle.std.specs.Prelude.{ℕ, suc, max, ◌≡◌, [], ◌∷◌}
use Rattle.calculus.specs.Ascii.{ascii}
use Rattle.calculus.specs.Term.{Term, text, size, Normal}
use Rattle.calculus.specs.Change.{Side, Place, Change}
use Rattle.calculus.specs.Turning.{Turn, Reduce}
use Rattle.calculus.specs.Run.{count, largest}
use Rattle.calculus.specs.Found.{Finds}

-- the number of changes
abbrev pub changes : {t v : Term} → Reduce t v → ℕ
changes Reduce.unchanged = 0
changes (Reduce.forwards c h) = suc (changes h)

-- the size of the largest term that they lead to
abbrev pub widest : {t v : Term} → Reduce t v → ℕ
widest Reduce.unchanged = 0
widest (Reduce.forwards {u = u} c h) = max (size u) (widest h)

-- `Before p q`: the letter at p stands before the one at q
pub data Before : Place → Place → Type 0 where
  above : {side : Side} {q : Place} → Before [] (side ∷ q)
  beside : {p q : Place} → Before (Side.first ∷ p) (Side.second ∷ q)
  inside : {side : Side} {p q : Place} → Before p q → Before (side ∷ p) (side ∷ q)

-- `Leftmost t u`: the change of t at the leftmost full stop that a rule fits gives u
pub record Leftmost (t u : Term) : Type 0 where
  pub rule : ℕ
  pub place : Place
  pub change : Change rule place t u
  pub none_before : (n : ℕ) (p : Place) (v : Term) → Change n p t v → ¬ Before p place

-- `ByLeftmost t v`: such changes, one after another, lead from t to v
pub data ByLeftmost : Term → Term → Type 0 where
  unchanged : {t : Term} → ByLeftmost t t
  onwards : {t u v : Term} → Leftmost t u → ByLeftmost u v → ByLeftmost t v

-- what is applied to itself in `.AIHJJAIHJJ`
abbrev pub twice : Term
twice = Term.A Term.I (Term.H Term.J Term.J)

-- `.B.IIIHJJ`: what stands first in the pair is used twice
abbrev pub shared : Term
shared = Term.app (Term.B (Term.app Term.I Term.I) Term.I) (Term.H Term.J Term.J)

-- example 8, and the same with another term first in its pair
abbrev pub example_8_with : Term → Term
example_8_with t = Term.app (Term.B t Term.I) (Term.app Term.I Term.I)

abbrev pub example_8 : Term
example_8 = example_8_with (Term.app twice twice)

pub record OtherWays : Type 0 where
  -- the terms are those of the texts
  pub texts :
      (text shared ≡ ascii ".B.IIIHJJ") ×
      (text (Term.app twice twice) ≡ ascii ".AIHJJAIHJJ") ×
      (text example_8 ≡ ascii ".B.AIHJJAIHJJI.II")
  -- the order does not take the fewest steps, nor the least room: five changes, none to a term of more than 11 letters, do where
  -- it makes six steps and needs room for 15
  pub fewer : (h : Reduce shared Term.I) × (changes h ≡ 5) × (widest h ≡ 11)
  pub ordered : (f : Finds shared Term.I) × (count f.way ≡ 6) × (largest f.way ≡ 15)
  -- another order overlooks: of example 8 the order finds the result in two steps, and changes at the leftmost full stop that a
  -- rule fits never make a normal term, although there is always one more
  pub eighth : (f : Finds example_8 Term.I) × (count f.way ≡ 2)
  pub leftmost_overlooks : (v : Term) → ByLeftmost example_8 v → (¬ Normal v) × ((w : Term) × Leftmost v w)
  -- not every term has a result
  pub endless : (v : Term) → Normal v → ¬ Turn (Term.app twice twice) v
