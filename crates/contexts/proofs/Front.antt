-- The first full stop of a text: the application that it begins, with whatever frames, makes the next step of the term. Assumes nothing.
use Prim.Native.Nat.{ℕ, ◌+◌, ◌*◌, ◌≤◌}
use native.Mathlib.Omega.{arith}
use mathlib.Core.Path.{◌≡◌, refl, sym, ◌∙◌, ap, ap₂}
use mathlib.Core.List.{List, [], ◌∷◌, ◌++◌, append-nil}
use lib.ListN.{length, take, drop, length-append}
use lib.Seq.{take_at, drop_at}
use Rattle.calculus.specs.Letter.{Letter, byte}
use Rattle.calculus.specs.Term.{Term, text, size}
use Rattle.calculus.specs.Order.{Next, next}
use Rattle.calculus.proofs.PrefixCode.{uniquely_readable, length-text}
use Rattle.slices.specs.Find.{index_of}
use Rattle.slices.proofs.Finding.{Lacks, index_behind}
use Rattle.redexes.specs.Spot.{StepsTo}
use Rattle.redexes.proofs.Starts.{Start, start}
use Rattle.contexts.specs.Frames.{Frame, plugged}
use Rattle.contexts.proofs.Plugging.{plugged-next, plugged-app, plugged-size, plugged-within}

-- ---- the first full stop

-- where two texts are the same, so is what stands in front of the first full stop, and what stands behind
same-front :
    (x y w z : List ℕ) → x ++ (byte Letter.stop ∷ w) ≡ y ++ (byte Letter.stop ∷ z) →
    Lacks (byte Letter.stop) x → Lacks (byte Letter.stop) y → (x ≡ y) × (byte Letter.stop ∷ w ≡ byte Letter.stop ∷ z)
same-front x y w z e n m =
    let b = byte Letter.stop in
    let long : length x ≡ length y =
    omega (arith, index_behind b x (b ∷ w) n, index_behind b y (b ∷ z) m, ap (index_of b) e) in (
      sym (take_at x (b ∷ w) (length y) long) ∙ ap (take (length y)) e ∙ take_at y (b ∷ z) (length y) refl,
      sym (drop_at x (b ∷ w) (length y) long) ∙ ap (drop (length y)) e ∙ drop_at y (b ∷ z) (length y) refl,
    )

-- a text with a full stop does not lack it
has_stop_lem : (s x w : List ℕ) → s ≡ x ++ (byte Letter.stop ∷ w) → Lacks (byte Letter.stop) x → Lacks (byte Letter.stop) s → ⊥
has_stop_lem s x w e n m =
    let b = byte Letter.stop in
    let whole = ap (index_of b) (append-nil s ∙ e) in
    omega (arith, index_behind b s [] m, index_behind b x (b ∷ w) n, whole, ap length e, length-append x (b ∷ w))

-- the application that the first full stop begins makes the next step of the term
first_step :
    (t : Term) (front : List ℕ) (f a : Term) (behind : List ℕ) (n : ℕ) (r : Term) → Start t →
    text t ≡ front ++ (text (Term.app f a) ++ behind) → Lacks (byte Letter.stop) front →
    next (Term.app f a) ≡ Next.step n r → StepsTo t n front r behind
first_step t front f a behind n r (Start.nowhere m k) e lacks s =
    absurd (has_stop_lem (text t) front ((text f ++ text a) ++ behind) e lacks m)
first_step t front f a behind n r (Start.at spot m) e lacks s =
    let g = spot.function in
    let b = spot.argument in
    let same =
    same-front spot.front front ((text g ++ text b) ++ spot.back) ((text f ++ text a) ++ behind) (sym spot.spelt ∙ e) m lacks in
    let read = uniquely_readable (Term.app g b) (Term.app f a) spot.back behind same.1 in
    let step = spot.steps n r (ap next read.0 ∙ s) in
    record {
      reduct = step.reduct;
      step = step.step;
      spelt = step.spelt ∙ ap₂ (λ (x y : List ℕ). x ++ (text r ++ y)) same.0 read.1;
    }

-- so does an application whose frames begin at the first full stop, and its reduct stands in the same frames
pub front-step :
    (t : Term) (front : List ℕ) (f a : Term) (frames : List Frame) (behind : List ℕ) {n : ℕ} {r : Term} →
    text t ≡ front ++ (text (plugged (Term.app f a) frames) ++ behind) → Lacks (byte Letter.stop) front →
    next (Term.app f a) ≡ Next.step n r →
    (u : Term) × (next t ≡ Next.step n u) × (text u ≡ front ++ (text (plugged r frames) ++ behind))
front-step t front f a frames behind {n} {r} e lacks s =
    let (g, b, same) = plugged-app frames f a in
    let step =
    first_step t front g b behind n (plugged r frames) (start t)
    (e ∙ ap (λ (x : Term). front ++ (text x ++ behind)) same)
    lacks
    (ap next (sym same) ∙ plugged-next frames f a s) in
    (step.reduct, step.step, step.spelt)

-- ---- sizes

-- a term is as large as what stands in front of a part, the part, and what stands behind it
parted-size :
    (t : Term) (front : List ℕ) (c : Term) (behind : List ℕ) → text t ≡ front ++ (text c ++ behind) →
    size t ≡ length front + size c + length behind
parted-size t front c behind e =
    omega (
      arith,
      length-text t,
      length-text c,
      ap length e,
      length-append front (text c ++ behind),
      length-append (text c) behind,
    )

-- letters in front of a part are fewer than the term has
pub front-before :
    (t : Term) (front : List ℕ) (c : Term) (frames : List Frame) (behind : List ℕ) →
    text t ≡ front ++ (text (plugged c frames) ++ behind) → length front + size c + 2 * length frames ≤ size t
front-before t front c frames behind e = omega (arith, parted-size t front (plugged c frames) behind e, plugged-within frames c)

-- the size of the term when a part is replaced by another in the same frames
pub front-size :
    (t u : Term) (front : List ℕ) (c d : Term) (frames : List Frame) (behind : List ℕ) →
    text t ≡ front ++ (text (plugged c frames) ++ behind) → text u ≡ front ++ (text (plugged d frames) ++ behind) →
    size t + size d ≡ size u + size c
front-size t u front c d frames behind e k =
    omega (
      arith,
      parted-size t front (plugged c frames) behind e,
      parted-size u front (plugged d frames) behind k,
      plugged-size frames c d,
    )
