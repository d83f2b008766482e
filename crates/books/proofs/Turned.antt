-- Two terms made of one piece: they turn into each other where what stands for each use does, and are the same where each use has one
-- meaning. Carried by Turn being kept by every node, and one induction on the piece for each. Assumes nothing.
use Prim.Native.Nat.{ℕ}
use mathlib.Core.Path.{◌≡◌, refl, ap, ap₂}
use mathlib.Core.List.{List, ◌∷◌}
use Rattle.calculus.specs.Term.{Term}
use Rattle.calculus.specs.Change.{Side, Place, Change}
use Rattle.calculus.specs.Turning.{Turn, Reduce}
use Rattle.calculus.proofs.Confluence.{reduce_in, reduce_both, turn-join, turn-joins}
use Rattle.books.specs.Piece.{Piece, Replaced}

-- ---- nodes keep turning

-- a node whose one part turns
turn-R : {t u : Term} → Turn t u → Turn (Term.R t) (Term.R u)
turn-R h =
    let j = turn-join h in
    (turn-joins _ _).1 (record { meet = Term.R j.meet; left = around j.left; right = around j.right })
  where
    around : {t u : Term} → Reduce t u → Reduce (Term.R t) (Term.R u)
    around = reduce_in Term.R (λ n p t u. Change.in_R)

-- a node of two parts, each of which turns
turn-both :
    {t t' u u' : Term} (node : Term → Term → Term) →
    ((n : ℕ) (p : Place) (t t' u : Term) → Change n p t t' → Change n (Side.first ∷ p) (node t u) (node t' u)) →
    ((n : ℕ) (p : Place) (t u u' : Term) → Change n p u u' → Change n (Side.second ∷ p) (node t u) (node t u')) →
    Turn t t' → Turn u u' → Turn (node t u) (node t' u')
turn-both node in-first in-second h k =
    let j = turn-join h in
    let i = turn-join k in
    (turn-joins _ _).1
    (record {
      meet = node j.meet i.meet;
      left = reduce_both node in-first in-second j.left i.left;
      right = reduce_both node in-first in-second j.right i.right;
    })

-- ---- pieces

-- where what stands for each name turns, so do the terms made of a piece
pub replaced-turn :
    (S S' : List ℕ → Term → Type 0) → ((name : List ℕ) (t u : Term) → S name t → S' name u → Turn t u) →
    (p : Piece) (t u : Term) → Replaced S p t → Replaced S' p u → Turn t u
replaced-turn S S' turns p t u Replaced.J Replaced.J = Turn.unchanged
replaced-turn S S' turns p t u (Replaced.R h) (Replaced.R k) = turn-R (replaced-turn S S' turns _ _ _ h k)
replaced-turn S S' turns p t u (Replaced.H h h') (Replaced.H k k') =
    turn-both Term.H (λ n p t t' u. Change.in_H₁) (λ n p t u u'. Change.in_H₂)
    (replaced-turn S S' turns _ _ _ h k)
    (replaced-turn S S' turns _ _ _ h' k')
replaced-turn S S' turns p t u (Replaced.A h h') (Replaced.A k k') =
    turn-both Term.A (λ n p t t' u. Change.in_A₁) (λ n p t u u'. Change.in_A₂)
    (replaced-turn S S' turns _ _ _ h k)
    (replaced-turn S S' turns _ _ _ h' k')
replaced-turn S S' turns p t u Replaced.I Replaced.I = Turn.unchanged
replaced-turn S S' turns p t u (Replaced.B h h') (Replaced.B k k') =
    turn-both Term.B (λ n p t t' u. Change.in_B₁) (λ n p t u u'. Change.in_B₂)
    (replaced-turn S S' turns _ _ _ h k)
    (replaced-turn S S' turns _ _ _ h' k')
replaced-turn S S' turns p t u (Replaced.app h h') (Replaced.app k k') =
    turn-both Term.app (λ n p t t' u. Change.in_app₁) (λ n p t u u'. Change.in_app₂)
    (replaced-turn S S' turns _ _ _ h k)
    (replaced-turn S S' turns _ _ _ h' k')
replaced-turn S S' turns p t u Replaced.bell Replaced.bell = Turn.unchanged
replaced-turn S S' turns p t u (Replaced.use_of s) (Replaced.use_of s') = turns _ _ _ s s'

-- where each name stands for one term, one term is made of a piece
pub replaced-one :
    (S : List ℕ → Term → Type 0) → ((name : List ℕ) (t u : Term) → S name t → S name u → t ≡ u) →
    (p : Piece) (t u : Term) → Replaced S p t → Replaced S p u → t ≡ u
replaced-one S one p t u Replaced.J Replaced.J = refl
replaced-one S one p t u (Replaced.R h) (Replaced.R k) = ap Term.R (replaced-one S one _ _ _ h k)
replaced-one S one p t u (Replaced.H h h') (Replaced.H k k') =
    ap₂ Term.H (replaced-one S one _ _ _ h k) (replaced-one S one _ _ _ h' k')
replaced-one S one p t u (Replaced.A h h') (Replaced.A k k') =
    ap₂ Term.A (replaced-one S one _ _ _ h k) (replaced-one S one _ _ _ h' k')
replaced-one S one p t u Replaced.I Replaced.I = refl
replaced-one S one p t u (Replaced.B h h') (Replaced.B k k') =
    ap₂ Term.B (replaced-one S one _ _ _ h k) (replaced-one S one _ _ _ h' k')
replaced-one S one p t u (Replaced.app h h') (Replaced.app k k') =
    ap₂ Term.app (replaced-one S one _ _ _ h k) (replaced-one S one _ _ _ h' k')
replaced-one S one p t u Replaced.bell Replaced.bell = refl
replaced-one S one p t u (Replaced.use_of s) (Replaced.use_of s') = one _ _ _ s s'
