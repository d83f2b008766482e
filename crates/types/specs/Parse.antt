-- The simple type, the context and the type that a text is of, as functions on any bytes: what `simple_text`, `context_text` and
-- `ty_text` undo. The signs are taken from the last to the first: `>` takes the two simple types that stand to its right, `*` the
-- simple type and the context; a sign that lacks them stays loose.
-- REQUIREMENTS, Types.
use Rattle.std.specs.Prelude.{ℕ, List, [], ◌∷◌}
use Rattle.std.proofs.Math.Option.{Option, none, some}
use Rattle.calculus.specs.Types.{Simple, Context, Ty, Sign}
use Rattle.types.specs.Signs.{signs_of}

pub data Item : Type 0 where
  type : Ty → Item
  loose : Sign → Item

-- `>` in front of these items
abbrev pub push_arrow : List Item → List Item
push_arrow [] = Item.loose Sign.arrow ∷ []
push_arrow (Item.loose sign ∷ items) = Item.loose Sign.arrow ∷ Item.loose sign ∷ items
push_arrow (Item.type (Ty.context G) ∷ items) = Item.loose Sign.arrow ∷ Item.type (Ty.context G) ∷ items
push_arrow (Item.type (Ty.simple U) ∷ []) = Item.loose Sign.arrow ∷ Item.type (Ty.simple U) ∷ []
push_arrow (Item.type (Ty.simple U) ∷ Item.loose sign ∷ items) = Item.loose Sign.arrow ∷ Item.type (Ty.simple U) ∷ Item.loose sign ∷ items
push_arrow (Item.type (Ty.simple U) ∷ Item.type (Ty.context G) ∷ items) = Item.loose Sign.arrow ∷ Item.type (Ty.simple U) ∷ Item.type (Ty.context G) ∷ items
push_arrow (Item.type (Ty.simple U) ∷ Item.type (Ty.simple T) ∷ items) = Item.type (Ty.simple (Simple.arrow U T)) ∷ items

-- `*` in front of these items
abbrev pub push_bind : List Item → List Item
push_bind [] = Item.loose Sign.bind ∷ []
push_bind (Item.loose sign ∷ items) = Item.loose Sign.bind ∷ Item.loose sign ∷ items
push_bind (Item.type (Ty.context G) ∷ items) = Item.loose Sign.bind ∷ Item.type (Ty.context G) ∷ items
push_bind (Item.type (Ty.simple U) ∷ []) = Item.loose Sign.bind ∷ Item.type (Ty.simple U) ∷ []
push_bind (Item.type (Ty.simple U) ∷ Item.loose sign ∷ items) = Item.loose Sign.bind ∷ Item.type (Ty.simple U) ∷ Item.loose sign ∷ items
push_bind (Item.type (Ty.simple U) ∷ Item.type (Ty.simple T) ∷ items) = Item.loose Sign.bind ∷ Item.type (Ty.simple U) ∷ Item.type (Ty.simple T) ∷ items
push_bind (Item.type (Ty.simple U) ∷ Item.type (Ty.context G) ∷ items) = Item.type (Ty.context (Context.bind U G)) ∷ items

abbrev pub push : Sign → List Item → List Item
push (Sign.name a) items = Item.type (Ty.simple (Simple.atom a)) ∷ items
push Sign.empty items = Item.type (Ty.context Context.empty) ∷ items
push Sign.arrow items = push_arrow items
push Sign.bind items = push_bind items

abbrev pub items : List Sign → List Item
items [] = []
items (sign ∷ signs) = push sign (items signs)

-- a single type
abbrev pub single : List Item → Option Ty
single [] = none
single (Item.loose sign ∷ rest) = none
single (Item.type W ∷ []) = some W
single (Item.type W ∷ i ∷ rest) = none

abbrev pub type_of_signs : Option (List Sign) → Option Ty
type_of_signs none = none
type_of_signs (some signs) = single (items signs)

-- the type whose text these bytes are, if there is one
unfoldable pub type_of : List ℕ → Option Ty
type_of bytes = type_of_signs (signs_of bytes)

abbrev pub only_context : Option Ty → Option Context
only_context none = none
only_context (some (Ty.simple U)) = none
only_context (some (Ty.context G)) = some G

-- the context whose text these bytes are, if there is one
unfoldable pub context_of : List ℕ → Option Context
context_of bytes = only_context (type_of bytes)
