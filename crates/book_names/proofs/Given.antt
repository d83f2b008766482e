-- Behind the lines of a book a name was given exactly where its number is among theirs, since numbers tell names apart. Assumes nothing.
use Prim.Native.Nat.{ℕ, suc}
use native.Mathlib.Omega.{arith}
use mathlib.Core.Path.{◌≡◌, refl, sym, ◌∙◌, ap, ap₂}
use mathlib.Core.Bool.{Bool, true, false, cond}
use mathlib.Core.List.{List, [], ◌∷◌, ◌++◌}
use borrow.Author.Tests.{eqb-true, eq-eqb}
use lib.Dec.{eqb, ltb, leb-zero, leb-suc-suc}
use lib.ListN.{length, length-append}
use Rattle.slices.specs.Find.{index_from, index_of}
use Rattle.slices.specs.Same.{same}
use Rattle.slices.proofs.Same.{same_unique}
use Rattle.books.specs.Name.{IsName}
use Rattle.books.specs.Line.{Line, name_in}
use Rattle.books.specs.Book.{Book, given}
use Rattle.book_names.specs.Key.{key_of, keys_of, is_in}
use Rattle.book_names.proofs.Keys.{key-tells}

-- there are as many numbers as lines
pub length_keys : (lines : List Line) → length (keys_of lines) ≡ length lines
length_keys [] = refl
length_keys (l ∷ earlier) = omega (arith, length-append (keys_of earlier) (key_of (name_in l) ∷ []), length_keys earlier)

-- a number is among some with one more in front
in_front_lem : (key k : ℕ) (keys : List ℕ) → is_in key (k ∷ keys) ≡ cond (eqb k key) true (is_in key keys)
in_front_lem key k keys = go (eqb k key)
  where
    go : (t : Bool) → ltb (index_from t (index_of key keys)) (suc (length keys)) ≡ cond t true (is_in key keys)
    go true = leb-suc-suc 0 (length keys) ∙ leb-zero (length keys)
    go false = leb-suc-suc (suc (index_of key keys)) (length keys)

-- two tests, either of which may hold first
exchanged : (s t r : Bool) → cond s true (cond t true r) ≡ cond t true (cond s true r)
exchanged true true r = refl
exchanged true false r = refl
exchanged false true r = refl
exchanged false false r = refl

-- a number is among some with one more behind them
in_last : (key k : ℕ) (keys : List ℕ) → is_in key (keys ++ (k ∷ [])) ≡ cond (eqb k key) true (is_in key keys)
in_last key k [] = in_front_lem key k []
in_last key k (m ∷ keys) =
    in_front_lem key m (keys ++ (k ∷ []))
    ∙ ap (cond (eqb m key) true) (in_last key k keys)
    ∙ exchanged (eqb m key) (eqb k key) (is_in key keys)
    ∙ ap (cond (eqb k key) true) (sym (in_front_lem key m keys))

-- numbers of names are the same exactly where the names are
keys_same : (name other : List ℕ) → IsName name → IsName other → eqb (key_of other) (key_of name) ≡ same other name
keys_same name other n o =
    same_unique (eqb (key_of other) (key_of name)) other name (λ e. key-tells other name o n (eqb-true (key_of other) (key_of name) e))
    (λ e. eq-eqb (key_of other) (key_of name) (ap key_of e))

-- a name was given exactly where its number is among those of the lines
pub given_in : {earlier : List Line} (name : List ℕ) → IsName name → Book earlier → is_in (key_of name) (keys_of earlier) ≡ given name earlier
given_in name n Book.empty = refl
given_in name n (Book.line {l} {earlier} formed few fresh known book) =
    in_last (key_of name) (key_of (name_in l)) (keys_of earlier)
    ∙ ap₂ (λ (s t : Bool). cond s true t) (keys_same name (name_in l) n formed.named) (given_in name n book)
