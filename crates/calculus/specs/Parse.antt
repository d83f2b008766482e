-- The term that a text is of, as a function on any bytes: what `text` undoes. `proofs/PrefixCode.antt` shows that it does.
-- The bytes are taken from the last to the first. A letter takes the terms that stand to its right; a byte that is no letter, or
-- a letter that lacks a term, stays loose.
-- REQUIREMENTS, Terms, Bells.
use Rattle.std.specs.Prelude.{ℕ, List, [], ◌∷◌}
use Rattle.std.proofs.Math.Option.{Option, none, some}
use Rattle.calculus.specs.Letter.{Letter, letter_of}
use Rattle.calculus.specs.Term.{Term}

pub data Item : Type 0 where
  whole : Term → Item
  loose : ℕ → Item

-- a letter that takes one term, in front of these items
abbrev pub one : ℕ → (Term → Term) → List Item → List Item
one b node [] = Item.loose b ∷ []
one b node (Item.loose c ∷ items) = Item.loose b ∷ Item.loose c ∷ items
one b node (Item.whole t ∷ items) = Item.whole (node t) ∷ items

-- a letter that takes two terms, in front of these items
abbrev pub two : ℕ → (Term → Term → Term) → List Item → List Item
two b node [] = Item.loose b ∷ []
two b node (Item.loose c ∷ items) = Item.loose b ∷ Item.loose c ∷ items
two b node (Item.whole t ∷ []) = Item.loose b ∷ Item.whole t ∷ []
two b node (Item.whole t ∷ Item.loose c ∷ items) = Item.loose b ∷ Item.whole t ∷ Item.loose c ∷ items
two b node (Item.whole t ∷ Item.whole u ∷ items) = Item.whole (node t u) ∷ items

-- the byte b, which is that letter or none, in front of these items
abbrev pub push : ℕ → Option Letter → List Item → List Item
push b none items = Item.loose b ∷ items
push b (some Letter.J) items = Item.whole Term.J ∷ items
push b (some Letter.R) items = one b Term.R items
push b (some Letter.H) items = two b Term.H items
push b (some Letter.A) items = two b Term.A items
push b (some Letter.I) items = Item.whole Term.I ∷ items
push b (some Letter.B) items = two b Term.B items
push b (some Letter.stop) items = two b Term.app items
push b (some (Letter.bell k)) items = Item.whole (Term.bell k) ∷ items

abbrev pub items : List ℕ → List Item
items [] = []
items (b ∷ bytes) = push b (letter_of b) (items bytes)

-- a single whole term
abbrev pub single : List Item → Option Term
single [] = none
single (Item.loose b ∷ rest) = none
single (Item.whole t ∷ []) = some t
single (Item.whole t ∷ i ∷ rest) = none

-- the term whose text these bytes are, if there is one
unfoldable pub term_of : List ℕ → Option Term
term_of bytes = single (items bytes)
