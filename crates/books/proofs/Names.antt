-- Names: the test agrees with what a name is, and a byte below the small letters is first found behind a name. Assumes nothing.
use Prim.Native.Nat.{ℕ, ◌<◌, ◌≤◌}
use native.Mathlib.Omega.{arith}
use mathlib.Core.Path.{◌≡◌, refl, ap, ap₂}
use mathlib.Core.Bool.{Bool, true, ◌&&◌}
use mathlib.Core.Logic.{◌↔◌}
use mathlib.Core.List.Memᴰ
use mathlib.Core.List.{List, [], ◌∷◌, ◌++◌, Memᴰ}
use lib.Dec.{leb}
use lib.ListN.{length}
use borrow.Author.Tests.{leb-true, le-leb, eq-eqb, ne_eqb}
use Rattle.calculus.proofs.Bells.{and_both}
use Rattle.slices.specs.Find.{index_from, index_of}
use Rattle.slices.proofs.Finding.{Lacks, index_behind}
use Rattle.books.specs.Name.{first_small, last_small, name_limit, IsName, is_small, all_small, is_name}

-- ---- the test

-- tests that hold both hold together
pub both-and : {s t : Bool} → s ≡ true → t ≡ true → (s && t) ≡ true
both-and e f = ap₂ ◌&&◌ e f

-- the byte is a small letter
abbrev pub Small : ℕ → Type 0
Small b = (first_small ≤ b) × (b ≤ last_small)

pub is-small : (b : ℕ) → is_small b ≡ true → Small b
is-small b e =
    let both = and_both (leb first_small b) (leb b last_small) e in
    (leb-true first_small b both.0, leb-true b last_small both.1)

pub small_is : (b : ℕ) → Small b → is_small b ≡ true
small_is b h = both-and (le-leb first_small b h.0) (le-leb b last_small h.1)

-- all bytes are small letters
abbrev pub AllSmall : List ℕ → Type 0
AllSmall bytes = (b : ℕ) → Memᴰ b bytes → Small b

all_small_lem : (bytes : List ℕ) → all_small bytes ≡ true → AllSmall bytes
all_small_lem [] e b m = absurd (Memᴰ.not-nil m)
all_small_lem (c ∷ bytes) e b (Memᴰ.head same) =
    let first = is-small c (and_both (is_small c) (all_small bytes) e).0 in omega arith
all_small_lem (c ∷ bytes) e b (Memᴰ.tail m) = all_small_lem bytes (and_both (is_small c) (all_small bytes) e).1 b m

small_all : (bytes : List ℕ) → AllSmall bytes → all_small bytes ≡ true
small_all [] h = refl
small_all (c ∷ bytes) h = both-and (small_is c (h c (Memᴰ.head refl))) (small_all bytes (λ b m. h b (Memᴰ.tail m)))

-- the test of a name holds of names, and of nothing else
pub name_exactly : (name : List ℕ) → (is_name name ≡ true) ↔ IsName name
unfolding is_name
name_exactly name = (tested, holds)
  where
    tested : is_name name ≡ true → IsName name
    tested e =
        let outer = and_both (leb 1 (length name) && leb (length name) name_limit) (all_small name) e in
        let inner = and_both (leb 1 (length name)) (leb (length name) name_limit) outer.0 in
        record {
          some-letter = leb-true 1 (length name) inner.0;
          few-letters = leb-true (length name) name_limit inner.1;
          small = all_small_lem name outer.1;
        }

    holds : IsName name → is_name name ≡ true
    holds n =
        both-and (both-and (le-leb 1 (length name) n.some-letter) (le-leb (length name) name_limit n.few-letters))
        (small_all name n.small)

-- ---- bytes that no name holds

-- small letters lack any byte below them
small_lacks : (mark : ℕ) (bytes : List ℕ) → mark < first_small → AllSmall bytes → Lacks mark bytes
small_lacks mark [] low h = tt
small_lacks mark (c ∷ bytes) low h =
    let first = h c (Memᴰ.head refl) in
    (ne_eqb c mark (omega arith), small_lacks mark bytes low (λ b m. h b (Memᴰ.tail m)))

-- a name lacks the tab, the line feed and the marks around a use: all are below the small letters
pub name_lacks : {name : List ℕ} (mark : ℕ) → mark < first_small → IsName name → Lacks mark name
name_lacks {name} mark low n = small_lacks mark name low n.small

-- such a byte behind a name is first found there
pub name_index :
    {name : List ℕ} (mark : ℕ) (rest : List ℕ) → mark < first_small → IsName name → index_of mark (name ++ (mark ∷ rest)) ≡ length name
name_index {name} mark rest low n =
    let here : index_of mark (mark ∷ rest) ≡ 0 = ap (λ (t : Bool). index_from t (index_of mark rest)) (eq-eqb mark mark refl) in
    omega (arith, index_behind mark name (mark ∷ rest) (name_lacks mark low n))
