-- A cell below the top stays what it is while cells are added: what it stands for, what the list at it is, and where the machine is.
-- Assumes nothing.
use Prim.Native.Nat.{ℕ, ◌≤◌}
use native.Mathlib.Omega.{arith}
use mathlib.Core.Path.{◌∙◌, ap}
use mathlib.Core.List.{List}
use lib.ListN.{set}
use lib.Seq.{get_or-set_other}
use Rattle.calculus.specs.Term.{Term}
use Rattle.contexts.specs.Frames.{Frame}
use Rattle.cells.specs.Cell.{letter_in, first_in, second_in, size_in, Cell, Kept}
use Rattle.cells.specs.Stands.{Stands}
use Rattle.cells.specs.Chain.{Pending, Chain}
use Rattle.cells.specs.Stage.{Stage}

-- a cell written at the top or above it changes none below
pub kept_set : (cells : List ℕ) (top at v : ℕ) → top ≤ at → Kept top cells (set cells at v)
kept_set cells top at v h i below = get_or-set_other cells at i v 0 (λ e. omega (arith, e))

-- nothing changed, and then nothing more
pub kept_again :
    (cells cells' cells'' : List ℕ) {top top' : ℕ} → top ≤ top' → Kept top cells cells' → Kept top' cells' cells'' → Kept top cells cells''
kept_again cells cells' cells'' h k l i below = l i (omega arith) ∙ k i below

module _ {cells cells' : List ℕ} {top top' : ℕ} (higher : top ≤ top') (kept : Kept top cells cells') where
  -- a cell holds what it held
  pub cell-kept : {i letter x y n : ℕ} → Cell cells top i letter x y n → Cell cells' top' i letter x y n
  cell-kept {i = i} c =
      let same = kept i c.inside in
      record {
        inside = omega (arith, c.inside);
        lettered = ap letter_in same ∙ c.lettered;
        first-is = ap first_in same ∙ c.first-is;
        second_is = ap second_in same ∙ c.second_is;
        sized = ap size_in same ∙ c.sized;
      }

  -- it stands for the same term
  pub stands-kept : {i : ℕ} {t : Term} → Stands cells top i t → Stands cells' top' i t
  stands-kept (Stands.J c) = Stands.J (cell-kept c)
  stands-kept (Stands.R c x) = Stands.R (cell-kept c) (stands-kept x)
  stands-kept (Stands.H c x y) = Stands.H (cell-kept c) (stands-kept x) (stands-kept y)
  stands-kept (Stands.A c x y) = Stands.A (cell-kept c) (stands-kept x) (stands-kept y)
  stands-kept (Stands.I c) = Stands.I (cell-kept c)
  stands-kept (Stands.B c x y) = Stands.B (cell-kept c) (stands-kept x) (stands-kept y)
  stands-kept (Stands.app c x y) = Stands.app (cell-kept c) (stands-kept x) (stands-kept y)
  stands-kept (Stands.bell c) = Stands.bell (cell-kept c)

  -- the terms behind are the same
  pub pending-kept : {i : ℕ} {terms : List Term} → Pending cells top i terms → Pending cells' top' i terms
  pending-kept (Pending.end h k) = Pending.end (omega (arith, h)) (ap letter_in (kept 0 h) ∙ k)
  pending-kept (Pending.more c before s rest) = Pending.more (cell-kept c) before (stands-kept s) (pending-kept rest)

  -- so are the frames
  pub chain-kept : {terms : List Term} {i : ℕ} {frames : List Frame} → Chain cells top terms i frames → Chain cells' top' terms i frames
  chain-kept (Chain.none p) = Chain.none (pending-kept p)
  chain-kept (Chain.argument c before s rest) = Chain.argument (cell-kept c) before (stands-kept s) (chain-kept rest)
  chain-kept (Chain.function c before s rest) = Chain.function (cell-kept c) before (stands-kept s) (chain-kept rest)

  -- and the machine is where it was
  pub stage-kept : {cur list : ℕ} {front : List ℕ} {t : Term} → Stage cells top cur list front t → Stage cells' top' cur list front t
  stage-kept s =
      record {
        focus = s.focus;
        frames = s.frames;
        pending = s.pending;
        stands = stands-kept s.stands;
        chain = chain-kept s.chain;
        spelt = s.spelt;
      }
