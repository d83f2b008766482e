-- What stands in the arena while a text is loaded from its last letter: the terms of the letters so far, the one that begins first on top.
-- Assumes nothing.
use Rattle.std.specs.Prelude.{ℕ, ◌+◌, ◌≡◌, List, [], ◌∷◌}
use Rattle.calculus.specs.Letter.{letter_of}
use Rattle.calculus.specs.Term.{Term, size}
use Rattle.calculus.specs.Parse.{Item, push}
use Rattle.cells.specs.Cell.{Free}
use Rattle.cells.specs.Stands.{Stands}

-- `Stacked cells top items`: the cells from 1 up to the top are those of these items, terms all of them, a cell for each letter
pub data Stacked (cells : List ℕ) : ℕ → List Item → Type 0 where
  nothing : {top : ℕ} → top ≡ 1 → Stacked cells top []
  more :
      {base last top : ℕ} {t : Term} {items : List Item} →
      top ≡ base + size t → top ≡ last + 1 → Stands cells top last t → Stacked cells base items → Stacked cells top (Item.whole t ∷ items)

-- each item is a term
abbrev pub AllWhole : List Item → Type 0
AllWhole [] = Unit {0}
AllWhole (Item.loose b ∷ items) = ⊥
AllWhole (Item.whole t ∷ items) = AllWhole items

-- the byte in front of these items
abbrev pub pushed : ℕ → List Item → List Item
pushed b items = push b (letter_of b) items

-- the byte is a letter that finds its parts on top of these items, and the arena has room for its cell
pub record Turn (cells : List ℕ) (top b : ℕ) (items : List Item) : Type 0 where
  pub room : Free cells top
  pub stacked : Stacked cells top items
  pub takes : AllWhole (pushed b items)
