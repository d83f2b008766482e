-- Steps one after another: two pieces make one, and each rule is one of the thirteen. Assumes nothing.
use Prim.Native.Nat.{ℕ, ◌≤◌}
use native.Mathlib.Omega.{arith}
use mathlib.Core.Path.{◌≡◌, sym, subst}
use mathlib.Core.List.Memᴰ
use mathlib.Core.List.{List, [], ◌∷◌, ◌++◌, Memᴰ}
use Rattle.calculus.specs.Term.{Term, size}
use Rattle.calculus.specs.Rule.{rule_numbers}
use Rattle.calculus.specs.Order.{Next, next}
use Rattle.calculus.specs.Steps.{Steps}
use Rattle.calculus.proofs.Order.{Says, says}
use Rattle.calculus.proofs.Ranges.{change-listed}

-- a next step is one step
pub steps-one : {area rule : ℕ} {t u : Term} → next t ≡ Next.step rule u → size u ≤ area → Steps area t (rule ∷ []) u
steps-one e fits = Steps.more e fits Steps.none

-- steps, and then more of them
pub steps-append :
    {area : ℕ} {t u v : Term} {first second : List ℕ} → Steps area t first u → Steps area u second v → Steps area t (first ++ second) v
steps-append Steps.none later = later
steps-append (Steps.more e fits rest) later = Steps.more e fits (steps-append rest later)

-- what has room in an area has room in a larger one
pub steps_wider : {area area' : ℕ} {t u : Term} {rules : List ℕ} → area ≤ area' → Steps area t rules u → Steps area' t rules u
steps_wider h Steps.none = Steps.none
steps_wider h (Steps.more e fits rest) = Steps.more e (omega (arith, h, fits)) (steps_wider h rest)

-- the term reached has room where the first had
pub steps_fit : {area : ℕ} {t u : Term} {rules : List ℕ} → size t ≤ area → Steps area t rules u → size u ≤ area
steps_fit h Steps.none = h
steps_fit h (Steps.more e fits rest) = steps_fit fits rest

-- the rule of a next step is listed
pub next-listed : (t : Term) {u : Term} {rule : ℕ} → next t ≡ Next.step rule u → Memᴰ rule rule_numbers
next-listed t e = change-listed (subst (Says t) e (says t)).change

-- and so is each rule of steps
pub steps-listed : {area : ℕ} {t u : Term} {rules : List ℕ} → Steps area t rules u → (n : ℕ) → Memᴰ n rules → Memᴰ n rule_numbers
steps-listed Steps.none n i = absurd (Memᴰ.not-nil i)
steps-listed (Steps.more {t = t} e fits rest) n (Memᴰ.head same) =
    subst (λ (k : ℕ). Memᴰ k rule_numbers) (sym same) (next-listed t e)
steps-listed (Steps.more e fits rest) n (Memᴰ.tail i) = steps-listed rest n i
