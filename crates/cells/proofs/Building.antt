-- What a cell that is written at the top holds, and which term or list it stands for. Assumes nothing.
use Prim.Native.Nat.{ℕ, suc, ◌+◌, ◌<◌}
use native.Mathlib.Omega.{arith}
use mathlib.Core.Path.{◌≡◌, ◌∙◌, ap, subst}
use mathlib.Core.List.{List, ◌∷◌}
use lib.ListN.{get_or, set}
use lib.Seq.{get_or-set_same}
use Rattle.calculus.specs.Term.{Term, size}
use Rattle.contexts.specs.Frames.{Frame}
use Rattle.cells.specs.Cell.{letter_in, first_in, second_in, size_in, packed, Cell, Kept, Free, Joinable}
use Rattle.cells.specs.Stands.{Stands, Two}
use Rattle.cells.specs.Chain.{pending_kind, argument_kind, function_kind, Pending, Chain}
use Rattle.cells.proofs.Packing.{letter-packed, first-packed, second-packed, size-packed}
use Rattle.cells.proofs.Keeping.{kept_set, stands-kept, pending-kept, chain-kept}
use Rattle.cells.proofs.Opening.{stands-inside, stands-size}

module _ (cells : List ℕ) (top : ℕ) (room : Free cells top) where
  -- the cell that was written
  pub cell_set :
      (letter x y n : ℕ) → letter < 256 → x < 65536 → y < 65536 → Cell (set cells top (packed letter x y n)) (top + 1) top letter x y n
  cell_set letter x y n l f s =
      let there = get_or-set_same cells top (packed letter x y n) 0 room.free in
      record {
        inside = omega arith;
        lettered = ap letter_in there ∙ letter-packed letter x y n l f s;
        first-is = ap first_in there ∙ first-packed letter x y n l f s;
        second_is = ap second_in there ∙ second-packed letter x y n l f s;
        sized = ap size_in there ∙ size-packed letter x y n l f s;
      }

  -- an index of a cell takes 16 bits
  pub index_short : {i : ℕ} → i < top → i < 65536
  index_short h = omega (arith, room.free, room.few)

  -- ---- nodes

  module _ {x y : ℕ} {t u : Term} (first : Stands cells top x t) (second : Stands cells top y u) where
    -- what stands for two terms can be joined, where the node is not too large
    pub joinable : size t + size u < 65535 → Joinable cells top x y
    joinable small =
        record {
          room = room;
          first_within = omega (arith, stands-inside first, room.free);
          second_within = omega (arith, stands-inside second, room.free);
          small = omega (arith, stands-size first, stands-size second);
        }

    -- the node of both
    pub node-stands :
        {letter : ℕ} {node : Term → Term → Term} → Two letter node →
        Stands (set cells top (packed letter x y (1 + size_in (get_or cells x 0) + size_in (get_or cells y 0)))) (top + 1) top (node t u)
    node-stands {letter} {node} kind = go kind
      where
        n : ℕ
        n = 1 + size_in (get_or cells x 0) + size_in (get_or cells y 0)

        sized : n ≡ suc (size t + size u)
        sized = omega (arith, stands-size first, stands-size second)

        made : (letter : ℕ) → letter < 256 → Cell (set cells top (packed letter x y n)) (top + 1) top letter x y (suc (size t + size u))
        made letter l =
            subst (Cell (set cells top (packed letter x y n)) (top + 1) top letter x y) sized
            (cell_set letter x y n l (index_short (stands-inside first)) (index_short (stands-inside second)))

        on : (letter : ℕ) {i : ℕ} {w : Term} → Stands cells top i w → Stands (set cells top (packed letter x y n)) (top + 1) i w
        on letter s = stands-kept (omega arith) (kept_set cells top top (packed letter x y n) (omega arith)) s

        go :
            {letter : ℕ} {node : Term → Term → Term} → Two letter node →
            Stands (set cells top (packed letter x y n)) (top + 1) top (node t u)
        go Two.two-H = Stands.H (made 72 (omega arith)) (on 72 first) (on 72 second)
        go Two.two-A = Stands.A (made 65 (omega arith)) (on 65 first) (on 65 second)
        go Two.two-B = Stands.B (made 66 (omega arith)) (on 66 first) (on 66 second)
        go Two.two-app = Stands.app (made 46 (omega arith)) (on 46 first) (on 46 second)

  -- ---- cells of the list

  module _ {x y : ℕ} {t : Term} (first : Stands cells top x t) (before : y < top) where
    -- the cell that was written
    linked : (kind : ℕ) → kind < 256 → Cell (set cells top (packed kind x y 0)) (top + 1) top kind x y 0
    linked kind k = cell_set kind x y 0 k (index_short (stands-inside first)) (index_short before)

    -- no other has changed
    kept : (kind : ℕ) → Kept top cells (set cells top (packed kind x y 0))
    kept kind = kept_set cells top top (packed kind x y 0) (omega arith)

    -- a term more behind
    pub pending-more :
        {terms : List Term} → Pending cells top y terms →
        Pending (set cells top (packed pending_kind x y 0)) (top + 1) top (t ∷ terms)
    pending-more rest =
        Pending.more (linked 0 (omega arith)) before (stands-kept (omega arith) (kept 0) first) (pending-kept (omega arith) (kept 0) rest)

    -- an argument more around
    pub chain-argument :
        {terms : List Term} {frames : List Frame} → Chain cells top terms y frames →
        Chain (set cells top (packed argument_kind x y 0)) (top + 1) terms top (Frame.argument t ∷ frames)
    chain-argument rest =
        Chain.argument (linked 1 (omega arith)) before (stands-kept (omega arith) (kept 1) first) (chain-kept (omega arith) (kept 1) rest)

  -- a pair more around
  pub chain-function :
      {x y : ℕ} {u s : Term} (first : Stands cells top x (Term.B u s)) (before : y < top) {terms : List Term} {frames : List Frame} →
      Chain cells top terms y frames → Chain (set cells top (packed function_kind x y 0)) (top + 1) terms top (Frame.function u s ∷ frames)
  chain-function first before rest =
      Chain.function (linked first before 2 (omega arith)) before (stands-kept (omega arith) (kept first before 2) first)
      (chain-kept (omega arith) (kept first before 2) rest)
