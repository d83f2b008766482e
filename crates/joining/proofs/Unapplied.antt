-- Joins of normal terms are normal, so that unapplied only equal ones turn into each other; and no grouping is equal to the other.
-- Assumes nothing.
use native.Mathlib.Omega.{arith}
use mathlib.Core.Path.{◌≡◌, ap}
use Rattle.calculus.specs.Term.{Term, size, Normal}
use Rattle.calculus.specs.Turning.{Turn}
use Rattle.calculus.proofs.Confluence.{normal-turn}
use Rattle.joining.specs.Join.{join}
use Rattle.joining.proofs.Text.{size-join}

pub join-normal : {f g : Term} → Normal f → Normal g → Normal (join f g)
join-normal n m =
    Normal.normal-A (Normal.normal-B n (Normal.normal-B m Normal.normal-I))
    (Normal.normal-H
    (Normal.normal-R Normal.normal-J)
    (Normal.normal-H (Normal.normal-R (Normal.normal-R Normal.normal-J)) Normal.normal-J))

-- the two groupings: the one begins with the join of f and g where the other has f
pub groupings_differ : (f g h : Term) → Normal f → Normal g → Normal h → ¬ Turn (join (join f g) h) (join f (join g h))
groupings_differ f g h n m k turned =
    let same : join (join f g) h ≡ join f (join g h) =
    (normal-turn (join-normal (join-normal n m) k) (join-normal n (join-normal m k))).0 turned in
    let first : join f g ≡ f = cc in
    omega (arith, ap size first, size-join f g)

-- f, and its joins with I
pub joins_differ : (f : Term) → Normal f → (¬ Turn (join f Term.I) f) × (¬ Turn (join Term.I f) f)
joins_differ f n = (
  λ turned. omega (arith, ap size ((normal-turn (join-normal n Normal.normal-I) n).0 turned), size-join f Term.I),
  λ turned. omega (arith, ap size ((normal-turn (join-normal Normal.normal-I n) n).0 turned), size-join Term.I f),
)
