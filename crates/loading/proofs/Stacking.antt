-- What the cell of one letter more does to the terms in the arena. Assumes nothing.
use Prim.Native.Nat.{ℕ, suc, ◌+◌, ◌-◌, ◌≤◌, ◌<◌}
use native.Mathlib.Omega.{arith}
use mathlib.Core.Path.{◌≡◌, refl, sym, ◌∙◌, ap, subst}
use mathlib.Core.List.{List, [], ◌∷◌}
use mathlib.Core.Option.{Option, none, some}
use lib.ListN.{get_or, set}
use Rattle.std.specs.Prelude.{unwrap_or}
use Rattle.calculus.specs.Letter.{Letter, byte, letter_of}
use Rattle.calculus.specs.Term.{Term, size}
use Rattle.calculus.specs.Parse.{Item, one, two, push}
use Rattle.calculus.proofs.PrefixCode.{letter_of-byte, byte-letter_of}
use Rattle.reading.specs.Arity.{arity_of_letter, arity_of}
use Rattle.cells.specs.Cell.{size_in, packed, Cell, Kept, Joinable}
use Rattle.cells.specs.Stands.{Stands, Two}
use Rattle.cells.proofs.Keeping.{kept_set, stands-kept}
use Rattle.cells.proofs.Opening.{stands-size}
use Rattle.cells.proofs.Building.{cell_set, joinable, node-stands}
use Rattle.loading.specs.Stack.{Stacked, AllWhole, pushed, Turn}

-- the cell at 0 is below the top
pub stacked-low : {cells : List ℕ} {top : ℕ} {is : List Item} → Stacked cells top is → 0 < top
stacked-low (Stacked.nothing e) = omega arith
stacked-low (Stacked.more e f s rest) = omega arith

-- terms in the arena stay there while cells are added above them
stacked-kept :
    {cells cells' : List ℕ} {base top : ℕ} {is : List Item} →
    base ≤ top → Kept top cells cells' → Stacked cells base is → Stacked cells' base is
stacked-kept h k (Stacked.nothing e) = Stacked.nothing e
stacked-kept h k (Stacked.more e f s rest) =
    Stacked.more e f (stands-kept (omega arith) (λ i below. k i (omega arith)) s) (stacked-kept (omega arith) k rest)

-- the topmost term stands in the cell below the top
first-stands : {cells : List ℕ} {last top : ℕ} {t : Term} → top ≡ last + 1 → Stands cells top last t → Stands cells top (top - 1) t
first-stands {cells} {last} {top} {t} f s = let same : last ≡ top - 1 = omega arith in subst (λ (k : ℕ). Stands cells top k t) same s

-- and by its size the next one is found
second-stands :
    {cells : List ℕ} {last base top : ℕ} {t u : Term} (n : ℕ) →
    n ≡ size_in (get_or cells (top - 1) 0) → top ≡ base + size t → Stands cells top (top - 1) t → base ≡ last + 1 → Stands cells base last u →
    Stands cells top (top - 1 - n) u
second-stands {cells} {last} {base} {top} {u = u} n q e first f second =
    let same : last ≡ top - 1 - n = omega (arith, stands-size first) in
    subst (λ (k : ℕ). Stands cells top k u) same (stands-kept (omega arith) (λ i b. refl) second)

-- a letter of one part is R
pub one-is-R : (b : ℕ) → unwrap_or (arity_of b) 0 ≡ 1 → b ≡ byte Letter.R
unfolding arity_of
one-is-R b e = go (letter_of b) refl e
  where
    go : (o : Option Letter) → letter_of b ≡ o → unwrap_or (arity_of_letter o) 0 ≡ 1 → b ≡ byte Letter.R
    go none q e = absurd (omega arith)
    go (some Letter.J) q e = absurd (omega arith)
    go (some Letter.R) q e = sym (byte-letter_of b Letter.R q)
    go (some Letter.H) q e = absurd (omega arith)
    go (some Letter.A) q e = absurd (omega arith)
    go (some Letter.I) q e = absurd (omega arith)
    go (some Letter.B) q e = absurd (omega arith)
    go (some Letter.stop) q e = absurd (omega arith)
    go (some (Letter.bell k)) q e = absurd (omega arith)

-- R takes the topmost term
takes-R : (b : ℕ) (is : List Item) → b ≡ byte Letter.R → pushed b is ≡ one b Term.R is
takes-R b is e = ap (λ (o : Option Letter). push b o is) (ap letter_of e ∙ letter_of-byte Letter.R)

-- a letter of two parts takes the two topmost terms
takes_two :
    (b : ℕ) → unwrap_or (arity_of b) 0 ≡ 2 → (node : Term → Term → Term) × Two b node × ((is : List Item) → pushed b is ≡ two b node is)
unfolding arity_of
takes_two b e = go (letter_of b) refl e
  where
    go :
        (o : Option Letter) → letter_of b ≡ o → unwrap_or (arity_of_letter o) 0 ≡ 2 →
        (node : Term → Term → Term) × Two b node × ((is : List Item) → push b o is ≡ two b node is)
    go none q e = absurd (omega arith)
    go (some Letter.J) q e = absurd (omega arith)
    go (some Letter.R) q e = absurd (omega arith)
    go (some Letter.H) q e = (Term.H, subst (λ (c : ℕ). Two c Term.H) (byte-letter_of b Letter.H q) Two.two-H, λ is. refl)
    go (some Letter.A) q e = (Term.A, subst (λ (c : ℕ). Two c Term.A) (byte-letter_of b Letter.A q) Two.two-A, λ is. refl)
    go (some Letter.I) q e = absurd (omega arith)
    go (some Letter.B) q e = (Term.B, subst (λ (c : ℕ). Two c Term.B) (byte-letter_of b Letter.B q) Two.two-B, λ is. refl)
    go (some Letter.stop) q e = (Term.app, subst (λ (c : ℕ). Two c Term.app) (byte-letter_of b Letter.stop q) Two.two-app, λ is. refl)
    go (some (Letter.bell k)) q e = absurd (omega arith)

-- the size of what a letter of two parts makes
two_size : {b : ℕ} {node : Term → Term → Term} → Two b node → (t u : Term) → size (node t u) ≡ suc (size t + size u)
two_size Two.two-H t u = refl
two_size Two.two-A t u = refl
two_size Two.two-B t u = refl
two_size Two.two-app t u = refl

-- the node that a letter of two parts writes at the top, where the topmost term is of size n
abbrev joined : List ℕ → (top b n : ℕ) → ℕ
joined cells top b n = packed b (top - 1) (top - 1 - n) (1 + size_in (get_or cells (top - 1) 0) + size_in (get_or cells (top - 1 - n) 0))

-- it changes no cell below
pub two-kept : (cells cells' : List ℕ) (top b n : ℕ) → cells' ≡ set cells top (joined cells top b n) → Kept top cells cells'
two-kept cells cells' top b n e = rw e (kept_set cells top top (joined cells top b n) (omega arith))

module _ {cells : List ℕ} {top : ℕ} where
  -- a cell written at the top is the new topmost term
  above :
      (v : ℕ) {base : ℕ} {t : Term} {is : List Item} → top + 1 ≡ base + size t → Stands (set cells top v) (top + 1) top t →
      base ≤ top → Stacked cells base is → Stacked (set cells top v) (top + 1) (Item.whole t ∷ is)
  above v e s h rest = Stacked.more e refl s (stacked-kept h (kept_set cells top top v (omega arith)) rest)

  -- ---- R

  module _
      (b n : ℕ) {is : List Item} (sized : n ≡ size_in (get_or cells (top - 1) 0)) (e : b ≡ byte Letter.R) (turn : Turn cells top b is)
    where
      -- there is a term for it
      takes : AllWhole (one b Term.R is)
      takes = subst AllWhole (takes-R b is e) turn.takes

      -- the topmost term is small enough for R
      pub one-fits : n < top
      one-fits = go turn.stacked takes
        where
          go : {is : List Item} → Stacked cells top is → AllWhole (one b Term.R is) → n < top
          go (Stacked.nothing e) w = absurd w
          go (Stacked.more e f s rest) w = omega (arith, stands-size (first-stands f s), stacked-low rest)

      -- the cell of R over the topmost term
      pub one-stacked : (v : ℕ) → v ≡ packed b (top - 1) 0 (1 + n) → Stacked (set cells top v) (top + 1) (pushed b is)
      one-stacked v q = subst (Stacked (set cells top v) (top + 1)) (sym (takes-R b is e)) (go turn.stacked takes)
        where
          made : (m : ℕ) → 1 + n ≡ m → Cell (set cells top v) (top + 1) top (byte Letter.R) (top - 1) 0 m
          made m o =
              let near : top - 1 < 65536 = omega (arith, turn.room.free, turn.room.few) in
              rw (q, ← e, ← o) (cell_set cells top turn.room b (top - 1) 0 (1 + n) (omega arith) near (omega arith))

          go :
              {is : List Item} → Stacked cells top is → AllWhole (one b Term.R is) →
              Stacked (set cells top v) (top + 1) (one b Term.R is)
          go (Stacked.nothing e) w = absurd w
          go (Stacked.more {t = t} e f s rest) w =
              let first = first-stands f s in
              above v (omega arith)
              (Stands.R (made (suc (size t)) (omega (arith, stands-size first)))
              (stands-kept (omega arith) (kept_set cells top top v (omega arith)) first))
              (omega arith) rest

  -- ---- letters of two parts

  module _ (b n : ℕ) {is : List Item} (sized : n ≡ size_in (get_or cells (top - 1) 0)) (e : unwrap_or (arity_of b) 0 ≡ 2) (turn : Turn cells top b is) where
    -- the second part is found below the first, the two can be joined, and their node is the new topmost term
    both : (n < top) × Joinable cells top (top - 1) (top - 1 - n) × Stacked (set cells top (joined cells top b n)) (top + 1) (pushed b is)
    both =
        let letter = takes_two b e in
        subst Says (sym (letter.2 is)) (go letter.1 turn.stacked (subst AllWhole (letter.2 is) turn.takes))
      where
        Says : List Item → Type 0
        Says is = (n < top) × Joinable cells top (top - 1) (top - 1 - n) × Stacked (set cells top (joined cells top b n)) (top + 1) is

        go :
            {node : Term → Term → Term} {is : List Item} →
            Two b node → Stacked cells top is → AllWhole (two b node is) → Says (two b node is)
        go kind (Stacked.nothing e) w = absurd w
        go kind (Stacked.more e f s (Stacked.nothing g)) w = absurd w
        go kind (Stacked.more {t = t} e f s (Stacked.more {t = u} g h r rest)) w =
            let first = first-stands f s in
            let second = second-stands n sized e first h r in (
              omega (arith, stands-size first, stacked-low rest),
              joinable cells top turn.room first second (omega (arith, stacked-low rest, turn.room.free, turn.room.few)),
              above
                  (joined cells top b n)
                  (omega (arith, two_size kind t u))
                  (node-stands cells top turn.room first second kind)
                  (omega arith)
                  rest,
            )

    -- the second part is found below the first
    pub two_fits : n < top
    two_fits = both.0

    -- the two topmost terms can be joined
    pub two-joinable : Joinable cells top (top - 1) (top - 1 - n)
    two-joinable = both.1

    -- the node over them
    pub two-stacked : (cells' : List ℕ) → cells' ≡ set cells top (joined cells top b n) → Stacked cells' (top + 1) (pushed b is)
    two-stacked cells' q = rw q both.2

  -- ---- letters without parts

  -- the cell of a letter without parts
  pub leaf-stacked :
      (b v : ℕ) {is : List Item} → b < 256 → ¬ (unwrap_or (arity_of b) 0 ≡ 1) → ¬ (unwrap_or (arity_of b) 0 ≡ 2) → Turn cells top b is → v ≡ packed b 0 0 1 →
      Stacked (set cells top v) (top + 1) (pushed b is)
  unfolding arity_of
  leaf-stacked b v {is} short one two turn written = go (letter_of b) refl one two turn.takes
    where
      made : (l : Letter) → letter_of b ≡ some l → Cell (set cells top v) (top + 1) top (byte l) 0 0 1
      made l q =
          rw (written, byte-letter_of b l q) (cell_set cells top turn.room b 0 0 1 short (omega arith) (omega arith))

      go :
          (o : Option Letter) → letter_of b ≡ o → ¬ (unwrap_or (arity_of_letter o) 0 ≡ 1) → ¬ (unwrap_or (arity_of_letter o) 0 ≡ 2) → AllWhole (push b o is) →
          Stacked (set cells top v) (top + 1) (push b o is)
      go none q m n w = absurd w
      go (some Letter.J) q m n w = above v (omega arith) (Stands.J (made Letter.J q)) (omega arith) turn.stacked
      go (some Letter.R) q m n w = absurd (m refl)
      go (some Letter.H) q m n w = absurd (n refl)
      go (some Letter.A) q m n w = absurd (n refl)
      go (some Letter.I) q m n w = above v (omega arith) (Stands.I (made Letter.I q)) (omega arith) turn.stacked
      go (some Letter.B) q m n w = absurd (n refl)
      go (some Letter.stop) q m n w = absurd (n refl)
      go (some (Letter.bell k)) q m n w = above v (omega arith) (Stands.bell (made (Letter.bell k) q)) (omega arith) turn.stacked

-- one term in the arena is all of it
pub single-stands :
    {cells : List ℕ} {top : ℕ} {t : Term} (n : ℕ) → top ≡ n + 1 → Stacked cells top (Item.whole t ∷ []) → Stands cells (n + 1) n t
single-stands {cells} {top} {t} n e (Stacked.more {last = last} f g s rest) =
    let same : last ≡ n = omega arith in
    subst (λ (k : ℕ). Stands cells (k + 1) k t) same (subst (λ (k : ℕ). Stands cells k last t) g s)
