-- What the test of a name does, as laws over plain variables: these carry the tests of `is_name`. Assumes nothing.
use Prim.Native.Nat.{ℕ, ◌≤◌, ◌<◌}
use native.Mathlib.Omega.{arith}
use mathlib.Core.Path.{◌≡◌, refl, sym, ◌∙◌, ap}
use mathlib.Core.Bool.{Bool, false, ◌&&◌}
use mathlib.Core.List.{List, [], ◌∷◌}
use Rattle.std.specs.List.{list_all}
use borrow.Author.Tests.{le-leb, lt-leb}
use lib.Dec.{leb}
use lib.ListN.{length}
use Rattle.books.specs.Name.{name_limit, is_small, all_small, is_name}

-- no byte is no name
pub no_name : (s : List ℕ) → length s ≡ 0 → false ≡ is_name s
unfolding is_name
no_name s e = sym (ap (λ (t : Bool). t && leb (length s) name_limit && all_small s) (lt-leb 1 (length s) (omega arith)))

-- more than eight bytes are no name
pub long-name : (s : List ℕ) → name_limit < length s → false ≡ is_name s
unfolding is_name
long-name s h =
    sym
    (ap (λ (t : Bool). t && leb (length s) name_limit && all_small s) (le-leb 1 (length s) (omega arith))
    ∙ ap (λ (t : Bool). t && all_small s) (lt-leb (length s) name_limit h))

-- one to eight bytes are a name where they are small letters
pub name-all : (s : List ℕ) → 1 ≤ length s → length s ≤ name_limit → list_all is_small s ≡ is_name s
unfolding is_name
name-all s some_byte h =
    all-small s
    ∙ sym
    (ap (λ (t : Bool). t && leb (length s) name_limit && all_small s) (le-leb 1 (length s) some_byte)
    ∙ ap (λ (t : Bool). t && all_small s) (le-leb (length s) name_limit h))
  where
    all-small : (s : List ℕ) → list_all is_small s ≡ all_small s
    all-small [] = refl
    all-small (b ∷ s) = ap (λ (t : Bool). is_small b && t) (all-small s)
