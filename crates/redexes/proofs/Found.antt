-- What the search ends at in the text of a term: its redex, where the text has a full stop. Assumes nothing.
use Prim.Native.Nat.{ℕ, ◌<◌}
use native.Mathlib.Omega.{arith}
use mathlib.Core.Path.{◌≡◌, ◌∙◌, ap, subst}
use mathlib.Core.List.{[], ◌++◌, append-nil}
use lib.ListN.{length, length-append}
use Rattle.calculus.specs.Letter.{Letter, byte}
use Rattle.calculus.specs.Term.{Term, text, size}
use Rattle.calculus.proofs.PrefixCode.{length-text}
use Rattle.calculus.specs.Order.{Next, next}
use Rattle.parts.specs.Skip.{end_at}
use Rattle.parts.specs.Ends.{Ends}
use Rattle.slices.specs.Find.{index_of}
use Rattle.slices.proofs.Finding.{Lacks, index_behind}
use Rattle.redexes.specs.Moves.{Leads}
use Rattle.redexes.specs.Spot.{Spot, Redex}
use Rattle.redexes.proofs.Starts.{Start, start}
use Rattle.redexes.proofs.Moves.{spot-end, leads-redex}

-- a spot lies within the text
pub spot-within : {t : Term} {p : ℕ} → Spot t p → p < size t
spot-within {t} {p} spot =
    omega (
      arith,
      length-text t,
      ap length spot.spelt,
      length-append spot.front (text (Term.app spot.function spot.argument) ++ spot.back),
      spot.place,
    )

-- a text without a full stop: the search begins at its end
nowhere-end : (t : Term) → Lacks (byte Letter.stop) (text t) → index_of (byte Letter.stop) (text t) ≡ size t
nowhere-end t n =
    omega (
      arith,
      ap (index_of (byte Letter.stop)) (append-nil (text t)),
      index_behind (byte Letter.stop) (text t) [] n,
      length-text t,
    )

-- a spot with no full stop in front of it: the search begins there
spot-first : {t : Term} {p : ℕ} (spot : Spot t p) → Lacks (byte Letter.stop) spot.front → index_of (byte Letter.stop) (text t) ≡ p
spot-first spot n =
    let behind = text (Term.app spot.function spot.argument) ++ spot.back in
    omega (
      arith,
      ap (index_of (byte Letter.stop)) spot.spelt,
      index_behind (byte Letter.stop) spot.front behind n,
      spot.place,
    )

-- where no full stop is found, nothing comes next
pub first-none : (t : Term) → index_of (byte Letter.stop) (text t) ≡ size t → next t ≡ Next.stop
first-none t h = go (start t)
  where
    go : Start t → next t ≡ Next.stop
    go (Start.nowhere n e) = e
    go (Start.at spot n) = absurd (omega (arith, spot-first spot n, spot-within spot))

-- else the search from the first one, by the ends of the part that it begins, ends at the redex
pub search_found :
    (t : Term) (first : ℕ) {end_of : ℕ → ℕ} {r : ℕ} → first ≡ index_of (byte Letter.stop) (text t) → ¬ (first ≡ size t) →
    Ends end_of (text t) first (end_at (text t) first) → Leads end_of (text t) first r → Redex t first r
search_found t first {end_of} {r} e some right leads = go (start t)
  where
    go : Start t → Redex t first r
    go (Start.nowhere n q) = absurd (some (e ∙ nowhere-end t n))
    go (Start.at {p = p} spot n) =
        let same : first ≡ p = e ∙ spot-first spot n in
        let from : Leads end_of (text t) p r = subst (λ (i : ℕ). Leads end_of (text t) i r) same leads in
        leads-redex right spot (omega arith) (omega (arith, spot-end spot, ap (end_at (text t)) same)) from
