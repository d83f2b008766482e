-- What a full stop among the bytes says of a term. Assumes nothing.
use native.Mathlib.Omega.{arith}
use mathlib.Core.Path.{◌≡◌}
use mathlib.Core.Bool.{true, false}
use borrow.Author.Tests.{ltb-true, ltb-false}
use lib.ListN.{length}
use Rattle.calculus.specs.Letter.{Letter, byte}
use Rattle.calculus.specs.Term.{Term, text, Normal}
use Rattle.calculus.proofs.PrefixCode.{normal-text}
use Rattle.slices.specs.Find.{index_of}
use Rattle.slices.proofs.Finding.{index_member, member_index}
use Rattle.reading.specs.Stop.{has_stop}

-- a term without one is normal
pub no_stop-normal : (t : Term) → has_stop (text t) ≡ false → Normal t
no_stop-normal t e =
    let past = ltb-false (index_of (byte Letter.stop) (text t)) (length (text t)) e in
    (normal-text t).1 (λ m. omega (arith, member_index (byte Letter.stop) (text t) m))

-- a term with one is not
pub stop-not-normal : (t : Term) → has_stop (text t) ≡ true → Normal t → ⊥
stop-not-normal t e n =
    let before = ltb-true (index_of (byte Letter.stop) (text t)) (length (text t)) e in
    (normal-text t).0 n (index_member (byte Letter.stop) (text t) before)
