-- The first place of a byte: that the library finds it, and what the index says of the bytes. Assumes nothing.
use Prim.Native.Nat.{ℕ, suc, ◌+◌, ◌≤◌, ◌<◌}
use native.Mathlib.Omega.{arith}
use mathlib.Core.Path.{◌≡◌, refl, sym, ◌∙◌, ap}
use mathlib.Core.Bool.{Bool, true, false, not, cond}
use mathlib.Core.List.Memᴰ
use mathlib.Core.List.{List, [], ◌∷◌, ◌++◌, Memᴰ}
use borrow.Author.Tests.{eq-eqb, eqb-true, ltb-false}
use lib.Dec.{eqb, ltb}
use lib.ListN.{length}
use Rattle.std.specs.Prelude.{Option, Some, None, position}
use Rattle.std.specs.List.{position_or_len}
use Rattle.std.specs.Option.{unwrap_or}
use Rattle.slices.specs.Find.{index_from, index_of}

-- ---- what the index says

-- it is no further than the end
pub index_within : (b : ℕ) (s : List ℕ) → index_of b s ≤ length s
index_within b [] = omega arith
index_within b (c ∷ s) = go (eqb c b) (index_within b s)
  where
    go : (x : Bool) → index_of b s ≤ length s → index_from x (index_of b s) ≤ suc (length s)
    go true h = omega arith
    go false h = omega arith

-- a byte that stands before the end is among the bytes, and the other way about
pub index_member : (b : ℕ) (s : List ℕ) → index_of b s < length s → Memᴰ b s
index_member b [] h = absurd (omega arith)
index_member b (c ∷ s) h = go (eqb c b) refl h (index_member b s)
  where
    go :
        (x : Bool) → eqb c b ≡ x → index_from x (index_of b s) < suc (length s) →
        (index_of b s < length s → Memᴰ b s) → Memᴰ b (c ∷ s)
    go true e k rest = Memᴰ.head (sym (eqb-true c b e))
    go false e k rest = Memᴰ.tail (rest (omega arith))

pub member_index : (b : ℕ) (s : List ℕ) → Memᴰ b s → index_of b s < length s
member_index b [] m = absurd (Memᴰ.not-nil m)
member_index b (c ∷ s) (Memᴰ.head e) =
    let first = ap (λ (x : Bool). index_from x (index_of b s)) (eq-eqb c b (sym e)) in
    omega (arith, first)
member_index b (c ∷ s) (Memᴰ.tail m) = go (eqb c b) (member_index b s m)
  where
    go : (x : Bool) → index_of b s < length s → index_from x (index_of b s) < suc (length s)
    go true h = omega arith
    go false h = omega arith

-- ---- the library's place of a byte, and the index

prefix_index : (b : ℕ) (s : List ℕ) → position_or_len (λ x. eqb x b) s ≡ index_of b s
prefix_index b [] = refl
prefix_index b (c ∷ s) = go (eqb c b) (prefix_index b s)
  where
    go :
        (x : Bool) → position_or_len (λ c. eqb c b) s ≡ index_of b s →
        cond (not x) (1 + position_or_len (λ c. eqb c b) s) 0 ≡ index_from x (index_of b s)
    go true e = refl
    go false e = omega (arith, e)

-- the place, and the length where there is none
pub index_found :
    (b : ℕ) (s : List ℕ) (place : Option ℕ) (at : ℕ) → place ≡ position (λ x. eqb x b) s → at ≡ unwrap_or place (length s) → at ≡ index_of b s
index_found b s place at e q =
    q ∙ ap (λ (o : Option ℕ). unwrap_or o (length s)) e ∙ go (ltb n (length s)) refl ∙ prefix_index b s
  where
    n : ℕ
    n = position_or_len (λ x. eqb x b) s

    go : (t : Bool) → ltb n (length s) ≡ t → unwrap_or (cond t (Some n) None) (length s) ≡ n
    go true e = refl
    go false e = omega (arith, index_within b s, prefix_index b s, ltb-false n (length s) e)

-- ---- bytes among which a byte is not

abbrev pub Lacks : (b : ℕ) → List ℕ → Type 0
Lacks b [] = Unit
Lacks b (c ∷ s) = (eqb c b ≡ false) × Lacks b s

pub lacks_append : (b : ℕ) (s u : List ℕ) → Lacks b s → Lacks b u → Lacks b (s ++ u)
lacks_append b [] u n m = m
lacks_append b (c ∷ s) u n m = (n.0, lacks_append b s u n.1 m)

-- the byte that they lack is first found behind them
pub index_behind : (b : ℕ) (s z : List ℕ) → Lacks b s → index_of b (s ++ z) ≡ length s + index_of b z
index_behind b [] z n = omega arith
index_behind b (c ∷ s) z n =
    let first = ap (λ (x : Bool). index_from x (index_of b (s ++ z))) n.0 in
    omega (arith, first, index_behind b s z n.1)
