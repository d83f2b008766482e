-- A node written at the top: what it stands for, and what stands on. And a cell of two parts, by its letter. Assumes nothing.
use Prim.Native.Nat.{ℕ, ◌+◌, ◌<◌}
use native.Mathlib.Omega.{arith}
use mathlib.Core.Path.{◌≡◌, sym, ◌∙◌, ap, subst}
use mathlib.Core.List.{List}
use lib.ListN.{length, get_or, set, length-set}
use Rattle.calculus.specs.Term.{Term}
use Rattle.cells.specs.Cell.{letter_in, first_in, second_in, size_in, packed, Kept, Free}
use Rattle.cells.specs.Stands.{Stands, Two}
use Rattle.cells.proofs.Keeping.{kept_set, stands-kept}
use Rattle.cells.proofs.Opening.{stands-inside, opened-two}
use Rattle.cells.proofs.Building.{node-stands}
use Rattle.contracting.specs.Contracting.{Contractible}

-- ---- what is given

module _ {cells : List ℕ} {top f a : ℕ} (given : Contractible cells top f a) where
  -- the argument's cell is in the arena
  pub argument-inside : a < length cells
  argument-inside = omega (arith, stands-inside given.redex.argument-stands, given.room)

  -- there is room at the top
  pub room-there : Free cells top
  room-there = record { few = given.few; free = omega (arith, given.room) }

-- ---- a cell of two parts

-- t is the node of two terms, which the cells at x and y stand for
pub record Opened (cells : List ℕ) (top x y : ℕ) (node : Term → Term → Term) (t : Term) : Type 0 where
  pub first : Term
  pub second : Term
  pub is : t ≡ node first second
  pub first-stands : Stands cells top x first
  pub second-stands : Stands cells top y second

-- a cell whose letter takes two terms stands for the node of what its parts stand for
pub opened :
    {cells : List ℕ} {top i x y l : ℕ} {t : Term} {node : Term → Term → Term} → Two l node → Stands cells top i t →
    letter_in (get_or cells i 0) ≡ l → x ≡ first_in (get_or cells i 0) → y ≡ second_in (get_or cells i 0) → Opened cells top x y node t
opened {cells} {top} two s e ex ey =
    let (u, v, is, s₁, s₂) = opened-two two s e in
    record {
      first = u;
      second = v;
      is = is;
      first-stands = subst (λ (k : ℕ). Stands cells top k u) (sym ex) s₁;
      second-stands = subst (λ (k : ℕ). Stands cells top k v) (sym ey) s₂;
    }

-- ---- a node

-- the node of the cells at x and y is written at the top, and nothing else
abbrev pub Written : (cells : List ℕ) (top letter x y : ℕ) (cells' : List ℕ) → Type 0
Written cells top letter x y cells' = cells' ≡ set cells top (packed letter x y (1 + size_in (get_or cells x 0) + size_in (get_or cells y 0)))

-- so it is, where there is room; `above` is the next top
pub record Node (cells : List ℕ) (top above letter x y : ℕ) (cells' : List ℕ) : Type 0 where
  pub room : Free cells top
  pub next-top : above ≡ top + 1
  pub written : Written cells top letter x y cells'

module _ {cells cells' : List ℕ} {top above letter x y : ℕ} (n : Node cells top above letter x y cells') where
  -- the arena is as long as before
  pub long : length cells' ≡ length cells
  long = ap length n.written ∙ length-set cells top (packed letter x y (1 + size_in (get_or cells x 0) + size_in (get_or cells y 0)))

  -- there is room above it, where the arena goes on
  pub room-above : above < length cells → Free cells' above
  room-above h = record { few = omega (arith, long, n.room.few); free = omega (arith, long) }

  -- no cell below has changed
  pub kept-below : Kept top cells cells'
  kept-below =
      subst (Kept top cells) (sym n.written)
      (kept_set cells top top (packed letter x y (1 + size_in (get_or cells x 0) + size_in (get_or cells y 0))) (omega arith))

  -- what stood there stands on
  pub stands_on : {i : ℕ} {t : Term} → Stands cells top i t → Stands cells' above i t
  stands_on s = stands-kept (omega (arith, n.next-top)) kept-below s

  -- the node stands for both terms joined
  pub joined :
      {t u : Term} {node : Term → Term → Term} → Two letter node → Stands cells top x t → Stands cells top y u →
      Stands cells' above top (node t u)
  joined {t} {u} {node} two first second =
      subst (λ (k : ℕ). Stands cells' k top (node t u)) (sym n.next-top)
      (subst (λ (c : List ℕ). Stands c (top + 1) top (node t u)) (sym n.written) (node-stands cells top n.room first second two))
