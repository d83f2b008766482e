-- The texts of types are a prefix code, and the readers of specs/ undo them: bytes that begin with a type's text say which type it is
-- and where it ends. Carried by two laws of `items`: it finds the type in front of any signs, and it loses no sign. Assumes nothing.
use Prim.Native.Nat.{ℕ, ◌≤◌}
use mathlib.Core.Path.{◌≡◌, refl, sym, ◌∙◌, ap, ap₂}
use mathlib.Core.HLevel.{is_prop→PathP}
use mathlib.Core.Bool.{Bool, true, false}
use mathlib.Core.Option.{Option, none, some}
use mathlib.Core.List.{List, [], ◌∷◌, ◌++◌, append-nil, append_assoc, append_cancel_left}
use lib.Dec.{eqb}
use borrow.Author.Tests.{eqb-true, ne_eqb}
use native.Mathlib.Bridge.{le_prop}
use native.Mathlib.Decide.{dec_le}
use native.Mathlib.Omega.{arith}
use Rattle.calculus.specs.Types.{Atom, Simple, Context, Ty, Sign, sign_text, simple_signs, context_signs, ty_signs, written, simple_text, context_text, ty_text}
use Rattle.types.specs.Signs.{atom_if, chosen, sign_of, cons_sign, signs_of}
use Rattle.types.specs.Parse.{Item, push_arrow, push_bind, push, items, single, type_of_signs, type_of, only_context, context_of}

-- atoms of the same letter are the same
pub atom_equal : (a b : Atom) → a.letter ≡ b.letter → a ≡ b
atom_equal a b e =
    λ i. record {
      letter = e i;
      from_a = is_prop→PathP (λ j. 97 ≤ e j) (λ j. le_prop) a.from_a b.from_a i;
      up_to_z = is_prop→PathP (λ j. e j ≤ 122) (λ j. le_prop) a.up_to_z b.up_to_z i;
    }

-- the sign of an atom's letter is that atom
sign_letter : (a : Atom) → sign_of a.letter ≡ some (Sign.name a)
unfolding sign_of
sign_letter a =
    let low : 97 ≤ a.letter = a.from_a in
    rw (ne_eqb a.letter 62 (omega arith), ne_eqb a.letter 42 (omega arith), ne_eqb a.letter 49 (omega arith)) (go (dec_le 97 a.letter) (dec_le a.letter 122))
  where
    go : (l : Dec (97 ≤ a.letter)) (h : Dec (a.letter ≤ 122)) → atom_if a.letter l h ≡ some (Sign.name a)
    go (yes l) (yes h) = ap (λ (b : Atom). some (Sign.name b)) (atom_equal (record { letter = a.letter; from_a = l; up_to_z = h }) a refl)
    go (yes l) (no h) = absurd (h a.up_to_z)
    go (no l) h = absurd (l a.from_a)

-- a sign is written as one byte, and is the sign of that byte
pub sign_byte : (g : Sign) → (b : ℕ) × (sign_text g ≡ b ∷ []) × (sign_of b ≡ some g)
unfolding sign_of
sign_byte (Sign.name a) = (a.letter, refl, sign_letter a)
sign_byte Sign.arrow = (62, refl, refl)
sign_byte Sign.bind = (42, refl, refl)
sign_byte Sign.empty = (49, refl, refl)

-- in front of any bytes the text of a sign is read as that sign
pub sign_text_lem : (g : Sign) (bytes : List ℕ) → signs_of (sign_text g ++ bytes) ≡ cons_sign (some g) (signs_of bytes)
unfolding signs_of
sign_text_lem g bytes =
    let (b, written-b, read-b) = sign_byte g in
    ap (λ (s : List ℕ). signs_of (s ++ bytes)) written-b ∙ ap (λ (o : Option Sign). cons_sign o (signs_of bytes)) read-b

-- the signs of the bytes of signs are those signs
pub signs_written : (signs : List Sign) → signs_of (written signs) ≡ some signs
unfolding signs_of
signs_written [] = refl
signs_written (g ∷ signs) = sign_text_lem g (written signs) ∙ ap (cons_sign (some g)) (signs_written signs)

-- where a byte is that of a sign, or else has a sign that is written so, its sign is written so
text-chosen :
    (b c : ℕ) (sign g : Sign) (other : Option Sign) → sign_text sign ≡ c ∷ [] → (other ≡ some g → sign_text g ≡ b ∷ []) →
    chosen (eqb b c) sign other ≡ some g → sign_text g ≡ b ∷ []
text-chosen b c sign g other spelt later = go (eqb b c) refl
  where
    go : (t : Bool) → eqb b c ≡ t → chosen t sign other ≡ some g → sign_text g ≡ b ∷ []
    go true q e = let same : b ≡ c = eqb-true b c q in cc
    go false q e = later e

-- an atom found for a byte is written as that byte
text-atom_if : (b : ℕ) (g : Sign) (low : Dec (97 ≤ b)) (high : Dec (b ≤ 122)) → atom_if b low high ≡ some g → sign_text g ≡ b ∷ []
text-atom_if b g (yes low) (yes high) e = let found : Sign.name (record { letter = b; from_a = low; up_to_z = high }) ≡ g = cc in ap sign_text (sym found)
text-atom_if b g (yes low) (no high) e = cc
text-atom_if b g (no low) high e = cc

-- the sign of a byte is written as that byte
pub text-sign_of : (b : ℕ) (g : Sign) → sign_of b ≡ some g → sign_text g ≡ b ∷ []
unfolding sign_of
text-sign_of b g =
    text-chosen b 62 Sign.arrow g _ refl
    (text-chosen b 42 Sign.bind g _ refl
    (text-chosen b 49 Sign.empty g _ refl
    (text-atom_if b g (dec_le 97 b) (dec_le b 122))))

-- the bytes of the signs of bytes are those bytes
pub written_signs : (bytes : List ℕ) (signs : List Sign) → signs_of bytes ≡ some signs → written signs ≡ bytes
unfolding signs_of
written_signs [] signs e = let none_left : [] ≡ signs = cc in ap written (sym none_left)
written_signs (b ∷ bytes) signs e = go (sign_of b) (signs_of bytes) refl (written_signs bytes) e
  where
    go :
        (o : Option Sign) (rest : Option (List Sign)) → sign_of b ≡ o → ((gs : List Sign) → rest ≡ some gs → written gs ≡ bytes) →
        cons_sign o rest ≡ some signs → written signs ≡ b ∷ bytes
    go none rest q later e = cc
    go (some g) none q later e = cc
    go (some g) (some gs) q later e =
        let found : g ∷ gs ≡ signs = cc in
        ap written (sym found) ∙ ap₂ ◌++◌ (text-sign_of b g q) (later gs refl)

-- in front of any signs those of two types that stand together are read as the two
items-both :
    (W X : Ty) → ((signs : List Sign) → items (ty_signs W ++ signs) ≡ Item.type W ∷ items signs) →
    ((signs : List Sign) → items (ty_signs X ++ signs) ≡ Item.type X ∷ items signs) → (signs : List Sign) →
    items ((ty_signs W ++ ty_signs X) ++ signs) ≡ Item.type W ∷ Item.type X ∷ items signs
items-both W X first second signs =
    ap items (append_assoc (ty_signs W) (ty_signs X) signs) ∙ first (ty_signs X ++ signs) ∙ ap (λ (is : List Item). Item.type W ∷ is) (second signs)

-- in front of any signs those of a simple type are read as that type
pub items-simple : (U : Simple) (signs : List Sign) → items (simple_signs U ++ signs) ≡ Item.type (Ty.simple U) ∷ items signs
items-simple (Simple.atom a) signs = refl
items-simple (Simple.arrow U T) signs = ap push_arrow (items-both (Ty.simple U) (Ty.simple T) (items-simple U) (items-simple T) signs)

-- in front of any signs those of a context are read as that context
pub items-context : (G : Context) (signs : List Sign) → items (context_signs G ++ signs) ≡ Item.type (Ty.context G) ∷ items signs
items-context Context.empty signs = refl
items-context (Context.bind U G) signs = ap push_bind (items-both (Ty.simple U) (Ty.context G) (items-simple U) (items-context G) signs)

-- in front of any signs those of a type are read as that type
pub items-type : (W : Ty) (signs : List Sign) → items (ty_signs W ++ signs) ≡ Item.type W ∷ items signs
items-type (Ty.simple U) = items-simple U
items-type (Ty.context G) = items-context G

-- the signs of a list of items
abbrev pub items_signs : List Item → List Sign
items_signs [] = []
items_signs (Item.type W ∷ is) = ty_signs W ++ items_signs is
items_signs (Item.loose g ∷ is) = g ∷ items_signs is

-- `>` in front of items adds itself
arrow_signs : (is : List Item) → items_signs (push_arrow is) ≡ Sign.arrow ∷ items_signs is
arrow_signs [] = refl
arrow_signs (Item.loose g ∷ is) = refl
arrow_signs (Item.type (Ty.context G) ∷ is) = refl
arrow_signs (Item.type (Ty.simple U) ∷ []) = refl
arrow_signs (Item.type (Ty.simple U) ∷ Item.loose g ∷ is) = refl
arrow_signs (Item.type (Ty.simple U) ∷ Item.type (Ty.context G) ∷ is) = refl
arrow_signs (Item.type (Ty.simple U) ∷ Item.type (Ty.simple T) ∷ is) = ap (λ (s : List Sign). Sign.arrow ∷ s) (append_assoc (simple_signs U) (simple_signs T) (items_signs is))

-- `*` in front of items adds itself
bind_signs : (is : List Item) → items_signs (push_bind is) ≡ Sign.bind ∷ items_signs is
bind_signs [] = refl
bind_signs (Item.loose g ∷ is) = refl
bind_signs (Item.type (Ty.context G) ∷ is) = refl
bind_signs (Item.type (Ty.simple U) ∷ []) = refl
bind_signs (Item.type (Ty.simple U) ∷ Item.loose g ∷ is) = refl
bind_signs (Item.type (Ty.simple U) ∷ Item.type (Ty.simple T) ∷ is) = refl
bind_signs (Item.type (Ty.simple U) ∷ Item.type (Ty.context G) ∷ is) = ap (λ (s : List Sign). Sign.bind ∷ s) (append_assoc (simple_signs U) (context_signs G) (items_signs is))

-- a sign in front of items adds itself
push_signs : (g : Sign) (is : List Item) → items_signs (push g is) ≡ g ∷ items_signs is
push_signs (Sign.name a) is = refl
push_signs Sign.arrow is = arrow_signs is
push_signs Sign.bind is = bind_signs is
push_signs Sign.empty is = refl

-- reading loses no sign: the items of any signs have those signs
pub items_signs_lem : (signs : List Sign) → items_signs (items signs) ≡ signs
items_signs_lem [] = refl
items_signs_lem (g ∷ signs) = push_signs g (items signs) ∙ ap (λ (s : List Sign). g ∷ s) (items_signs_lem signs)

-- a single type is the only item
single-type : (is : List Item) (W : Ty) → single is ≡ some W → is ≡ Item.type W ∷ []
single-type [] W e = cc
single-type (Item.loose g ∷ is) W e = cc
single-type (Item.type X ∷ []) W e = cc
single-type (Item.type X ∷ i ∷ is) W e = cc

-- the type of a type's text is that type
pub type_of-text : (W : Ty) → type_of (ty_text W) ≡ some W
unfolding type_of
type_of-text W =
    ap type_of_signs (signs_written (ty_signs W)) ∙
    ap (λ (s : List Sign). single (items s)) (sym (append-nil (ty_signs W))) ∙
    ap single (items-type W [])

-- the text of the type that bytes are of is those bytes
pub text-type_of : (bytes : List ℕ) (W : Ty) → type_of bytes ≡ some W → ty_text W ≡ bytes
unfolding type_of
text-type_of bytes W = go (signs_of bytes) refl
  where
    go : (o : Option (List Sign)) → signs_of bytes ≡ o → type_of_signs o ≡ some W → ty_text W ≡ bytes
    go none q e = cc
    go (some signs) q e =
        let spelt : ty_signs W ≡ signs = sym (append-nil (ty_signs W)) ∙ ap items_signs (sym (single-type (items signs) W e)) ∙ items_signs_lem signs in
        ap written spelt ∙ written_signs bytes signs q

-- the context of a context's text is that context
pub context_of-text : (G : Context) → context_of (context_text G) ≡ some G
unfolding context_of
context_of-text G = ap only_context (type_of-text (Ty.context G))

-- the text of the context that bytes are of is those bytes
pub text-context_of : (bytes : List ℕ) (G : Context) → context_of bytes ≡ some G → context_text G ≡ bytes
unfolding context_of
text-context_of bytes G e = text-type_of bytes (Ty.context G) (only (type_of bytes) e)
  where
    only : (o : Option Ty) → only_context o ≡ some G → o ≡ some (Ty.context G)
    only none e = cc
    only (some (Ty.simple U)) e = cc
    only (some (Ty.context D)) e = cc

-- the signs that any bytes begin with, up to the first byte that is none
cons_found : Option Sign → List Sign → List Sign
cons_found none signs = []
cons_found (some g) signs = g ∷ signs

leading : List ℕ → List Sign
leading [] = []
leading (b ∷ bytes) = cons_found (sign_of b) (leading bytes)

-- bytes that begin with the bytes of signs begin with those signs
leading_written : (signs : List Sign) (bytes : List ℕ) → leading (written signs ++ bytes) ≡ signs ++ leading bytes
unfolding leading cons_found
leading_written [] bytes = refl
leading_written (g ∷ signs) bytes =
    let (b, written-b, read-b) = sign_byte g in
    ap (λ (s : List ℕ). leading ((s ++ written signs) ++ bytes)) written-b ∙
    ap₂ cons_found read-b (leading_written signs bytes)

-- bytes that begin with a type begin with no other, and go on after it in one way
pub types_readable : (W X : Ty) (x y : List ℕ) → ty_text W ++ x ≡ ty_text X ++ y → (W ≡ X) × (x ≡ y)
types_readable W X x y e = (same, append_cancel_left (ty_text X) x y (ap (λ (Z : Ty). ty_text Z ++ x) (sym same) ∙ e))
  where
    found : (Z : Ty) (bytes : List ℕ) → items (leading (ty_text Z ++ bytes)) ≡ Item.type Z ∷ items (leading bytes)
    found Z bytes = ap items (leading_written (ty_signs Z) bytes) ∙ items-type Z (leading bytes)

    read : Item.type W ∷ items (leading x) ≡ Item.type X ∷ items (leading y)
    read = sym (found W x) ∙ ap (λ (s : List ℕ). items (leading s)) e ∙ found X y

    same : W ≡ X
    same = cc read

-- bytes that begin with a simple type begin with no other, and go on after it in one way
pub simple_readable : (U T : Simple) (x y : List ℕ) → simple_text U ++ x ≡ simple_text T ++ y → (U ≡ T) × (x ≡ y)
simple_readable U T x y e =
    let read : (Ty.simple U ≡ Ty.simple T) × (x ≡ y) = types_readable (Ty.simple U) (Ty.simple T) x y e in
    (cc, read.1)

-- bytes that begin with a context begin with no other, and go on after it in one way
pub context_readable : (G D : Context) (x y : List ℕ) → context_text G ++ x ≡ context_text D ++ y → (G ≡ D) × (x ≡ y)
context_readable G D x y e =
    let read : (Ty.context G ≡ Ty.context D) × (x ≡ y) = types_readable (Ty.context G) (Ty.context D) x y e in
    (cc, read.1)

-- types of the same text are the same
pub ty_injective : (W X : Ty) → ty_text W ≡ ty_text X → W ≡ X
ty_injective W X e = (types_readable W X [] [] (ap (λ (s : List ℕ). s ++ []) e)).0

-- simple types of the same text are the same
pub simple_injective : (U T : Simple) → simple_text U ≡ simple_text T → U ≡ T
simple_injective U T e = (simple_readable U T [] [] (ap (λ (s : List ℕ). s ++ []) e)).0

-- contexts of the same text are the same
pub context_injective : (G D : Context) → context_text G ≡ context_text D → G ≡ D
context_injective G D e = (context_readable G D [] [] (ap (λ (s : List ℕ). s ++ []) e)).0

-- no text is both a simple type's and a context's
pub simple-not-context : (U : Simple) (G : Context) → simple_text U ≡ context_text G → ⊥
simple-not-context U G e =
    let same : Ty.simple U ≡ Ty.context G = ty_injective (Ty.simple U) (Ty.context G) e in
    let z : ◌≡◌ {A = ℕ} 0 1 = cc in
    omega arith
