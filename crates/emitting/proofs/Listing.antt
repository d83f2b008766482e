-- What the first cell of the list says: whether a frame is there, and which, or else the next of the terms behind. Assumes nothing.
use Prim.Native.Nat.{ℕ, ◌<◌}
use native.Mathlib.Omega.{arith}
use mathlib.Core.Path.{◌≡◌, refl, sym, subst}
use mathlib.Core.List.{List, [], ◌∷◌}
use lib.ListN.{get_or}
use Rattle.calculus.specs.Term.{Term}
use Rattle.contexts.specs.Frames.{Frame}
use Rattle.cells.specs.Cell.{letter_in, first_in, second_in, Cell}
use Rattle.cells.specs.Stands.{Stands}
use Rattle.cells.specs.Chain.{pending_kind, argument_kind, Pending, Chain}
use Rattle.cells.proofs.Opening.{at_first}

module _ {cells : List ℕ} {top : ℕ} where
  -- ---- the terms behind

  -- their first cell has their kind
  pub pending-kind : {i : ℕ} {terms : List Term} → Pending cells top i terms → letter_in (get_or cells i 0) ≡ pending_kind
  pending-kind (Pending.end h k) = k
  pending-kind (Pending.more c before s rest) = c.lettered

  -- at the cell 0 there are none
  pub none-behind : {i : ℕ} {terms : List Term} → Pending cells top i terms → i ≡ 0 → terms ≡ []
  none-behind (Pending.end h k) e = refl
  none-behind (Pending.more c before s rest) e = absurd (omega (arith, before, e))

  -- at another cell there is one, and the rest
  pub next-behind :
      {i : ℕ} {terms : List Term} → Pending cells top i terms → ¬ (i ≡ 0) →
      (p : Term) × (rest : List Term) × (terms ≡ p ∷ rest) × Stands cells top (first_in (get_or cells i 0)) p
      × Pending cells top (second_in (get_or cells i 0)) rest
  next-behind (Pending.end h k) n = absurd (n refl)
  next-behind (Pending.more {terms = terms} c before s rest) n =
      (_, terms, refl, at_first c s, subst (λ (k : ℕ). Pending cells top k terms) (sym c.second_is) rest)

  -- ---- the frames

  module _ {terms : List Term} where
    -- where the list's first cell has the kind of the terms behind, there is no frame
    pub no-frame :
        {i : ℕ} {frames : List Frame} → Chain cells top terms i frames → letter_in (get_or cells i 0) ≡ pending_kind →
        (frames ≡ []) × Pending cells top i terms
    no-frame (Chain.none p) e = (refl, p)
    no-frame (Chain.argument c before s rest) e = absurd (omega (arith, c.lettered))
    no-frame (Chain.function c before s rest) e = absurd (omega (arith, c.lettered))

    -- the rest of the list, by what is read from its first cell
    at_rest :
        {i letter x y n : ℕ} {frames : List Frame} → Cell cells top i letter x y n → Chain cells top terms y frames →
        Chain cells top terms (second_in (get_or cells i 0)) frames
    at_rest {frames = frames} c rest = subst (λ (k : ℕ). Chain cells top terms k frames) (sym c.second_is) rest

    -- an argument, and the rest, which begins before it
    pub argument-frame :
        {i : ℕ} {frames : List Frame} → Chain cells top terms i frames → letter_in (get_or cells i 0) ≡ argument_kind →
        (a : Term) × (rest : List Frame) × (frames ≡ Frame.argument a ∷ rest) × Stands cells top (first_in (get_or cells i 0)) a
        × Chain cells top terms (second_in (get_or cells i 0)) rest × (second_in (get_or cells i 0) < i)
    argument-frame (Chain.none p) e = absurd (omega (arith, pending-kind p))
    argument-frame (Chain.argument c before s rest) e = (_, _, refl, at_first c s, at_rest c rest, omega (arith, c.second_is, before))
    argument-frame (Chain.function c before s rest) e = absurd (omega (arith, c.lettered))

    -- or a pair, and the rest
    pub function-frame :
        {i : ℕ} {frames : List Frame} → Chain cells top terms i frames → ¬ (letter_in (get_or cells i 0) ≡ pending_kind) →
        ¬ (letter_in (get_or cells i 0) ≡ argument_kind) →
        (u : Term) × (s : Term) × (rest : List Frame) × (frames ≡ Frame.function u s ∷ rest)
        × Stands cells top (first_in (get_or cells i 0)) (Term.B u s)
        × Chain cells top terms (second_in (get_or cells i 0)) rest × (second_in (get_or cells i 0) < i)
    function-frame (Chain.none p) n m = absurd (n (pending-kind p))
    function-frame (Chain.argument c before s rest) n m = absurd (m c.lettered)
    function-frame (Chain.function c before s rest) n m =
        (_, _, _, refl, at_first c s, at_rest c rest, omega (arith, c.second_is, before))
