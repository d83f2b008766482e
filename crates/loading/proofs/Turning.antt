-- The turns of the loop: behind each letter that is left the arena holds the terms that the letters there are read into.
-- Assumes nothing.
use Prim.Native.Nat.{ℕ, ◌+◌}
use native.Mathlib.Omega.{arith}
use mathlib.Core.Path.{◌≡◌, refl, sym, ◌∙◌, ap, subst}
use mathlib.Core.List.{List, [], ◌∷◌, ◌++◌, append_assoc, append-nil}
use lib.ListN.{length, length-append, drop}
use lib.Seq.{drop_at}
use Rattle.calculus.specs.Term.{Term, text}
use Rattle.calculus.specs.Parse.{Item, items}
use Rattle.cells.specs.Cell.{Kept}
use Rattle.cells.specs.Stands.{Stands}
use Rattle.cells.proofs.Keeping.{kept_again}
use Rattle.loading.specs.Loading.{Loadable}
use Rattle.loading.specs.Stack.{Stacked, AllWhole, pushed, Turn}
use Rattle.loading.proofs.Whole.{items-whole, whole_drop}
use Rattle.loading.proofs.Stacking.{stacked-low, single-stands}

-- the letters left, in front of those whose cells are written
pub record Half (s cells₀ cells : List ℕ) (top : ℕ) (left : List ℕ) : Type 0 where
  pub behind : List ℕ
  pub whole : s ≡ left ++ behind
  pub counted : top + length left ≡ length s + 1
  pub kept : Kept 1 cells₀ cells
  pub stacked : Stacked cells top (items behind)
  pub long : length cells ≡ length cells₀

-- before the first turn all are left
pub start : (s cells : List ℕ) → Half s cells cells 1 s
start s cells =
    record {
      behind = [];
      whole = sym (append-nil s);
      counted = omega arith;
      kept = λ i h. refl;
      stacked = Stacked.nothing refl;
      long = refl;
    }

module _
    {s cells₀ cells : List ℕ} {top : ℕ} {left : List ℕ} (half : Half s cells₀ cells top left) (front : List ℕ) (b : ℕ)
    (e : left ≡ front ++ (b ∷ [])) (loadable : Loadable s cells₀)
  where
    split : s ≡ front ++ (b ∷ half.behind)
    split = half.whole ∙ ap (λ (l : List ℕ). l ++ half.behind) e ∙ append_assoc front (b ∷ []) half.behind

    fewer : length left ≡ length front + 1
    fewer = ap length e ∙ length-append front (b ∷ [])

    -- the last letter left finds its parts
    pub turn : Turn cells top b (items half.behind)
    turn =
        let after : drop (length front) s ≡ b ∷ half.behind = ap (drop (length front)) split ∙ drop_at front (b ∷ half.behind) (length front) refl in
        let read : AllWhole (items s) = subst AllWhole (sym (items-whole s loadable.term loadable.written)) tt in
        record {
          room = record { few = omega (arith, loadable.few, half.long); free = omega (arith, loadable.room, half.long, half.counted, fewer) };
          stacked = half.stacked;
          takes = subst (λ (l : List ℕ). AllWhole (items l)) after (whole_drop (length front) s read);
        }

    -- and leaves one letter less
    pub turned :
        {cells' : List ℕ} → length cells' ≡ length cells → Kept top cells cells' →
        ((is : List Item) → Turn cells top b is → Stacked cells' (top + 1) (pushed b is)) → Half s cells₀ cells' (top + 1) front
    turned {cells'} same kept stacked =
        record {
          behind = b ∷ half.behind;
          whole = split;
          counted = omega (arith, half.counted, fewer);
          kept = kept_again cells₀ cells cells' (stacked-low half.stacked) half.kept kept;
          stacked = stacked (items half.behind) turn;
          long = same ∙ half.long;
        }

-- behind the last turn the last cell stands for the term
pub loaded :
    {s cells₀ cells : List ℕ} {top : ℕ} {left : List ℕ} → Half s cells₀ cells top left → length left ≡ 0 →
    (t : Term) → s ≡ text t → Stands cells (length s + 1) (length s) t
loaded {s} {cells₀} {cells} {top} {left} half none t e = go left half none
  where
    go : (left : List ℕ) → Half s cells₀ cells top left → length left ≡ 0 → Stands cells (length s + 1) (length s) t
    go [] half none =
        let read : items half.behind ≡ Item.whole t ∷ [] = ap items (sym half.whole) ∙ items-whole s t e in
        single-stands (length s) (omega (arith, half.counted)) (subst (Stacked cells top) read half.stacked)
    go (b ∷ left) half none = absurd (omega arith)
