-- Lists without repeats: how long they can be, and that `withoutRepeats` has one of each element of a list, so that its length is how many
-- different elements the list has. Assumes nothing.
use Prim.Native.Nat.{ℕ, suc, ◌≤◌}
use native.Mathlib.Omega.{arith}
use mathlib.Core.Path.{◌≡◌, refl, sym, ap, ◌∙◌}
use mathlib.Core.Logic.{◌↔◌}
use mathlib.Core.Bool.{Bool, true, false, ◌||◌, false≢true}
use mathlib.Core.List.{List, [], ◌∷◌, map, Memᴰ}
use borrow.Author.Tests.{eqb-true, eq-eqb}
use lib.Dec.{eqb}
use lib.ListN.{length}
use Rattle.repeats.specs.Repeats.{among, unless, withoutRepeats, NoRepeats, Different}

-- `Decides same`: the test tells which elements are equal
abbrev pub Decides : {A : Type 0} (same : A → A → Bool) → Type 0
Decides {A} same = (x y : A) → (same x y ≡ true → x ≡ y) × (x ≡ y → same x y ≡ true)

-- the test of two numbers does
pub numbers-decided : Decides eqb
numbers-decided x y = (eqb-true x y, eq-eqb x y)

module _ {A : Type 0} where
  -- ---- how long a list without repeats can be

  -- a list without the element at one place
  abbrev removed : {x : A} {xs : List A} → Memᴰ x xs → List A
  removed (mathlib.Core.List.Memᴰ.head {xs = xs} e) = xs
  removed (mathlib.Core.List.Memᴰ.tail {x = x} m) = x ∷ removed m

  -- which is one shorter
  one-removed : {x : A} {xs : List A} (m : Memᴰ x xs) → length xs ≡ suc (length (removed m))
  one-removed (mathlib.Core.List.Memᴰ.head e) = refl
  one-removed (mathlib.Core.List.Memᴰ.tail m) = ap suc (one-removed m)

  -- any other element is still there
  still-there : {x y : A} {xs : List A} (m : Memᴰ x xs) → (y ≡ x → ⊥) → Memᴰ y xs → Memᴰ y (removed m)
  still-there (mathlib.Core.List.Memᴰ.head e) other (mathlib.Core.List.Memᴰ.head e') = absurd (other (e' ∙ sym e))
  still-there (mathlib.Core.List.Memᴰ.head e) other (mathlib.Core.List.Memᴰ.tail k) = k
  still-there (mathlib.Core.List.Memᴰ.tail m) other (mathlib.Core.List.Memᴰ.head e') = mathlib.Core.List.Memᴰ.head e'
  still-there (mathlib.Core.List.Memᴰ.tail m) other (mathlib.Core.List.Memᴰ.tail k) = mathlib.Core.List.Memᴰ.tail (still-there m other k)

  -- a list without repeats whose elements are all in another is no longer than it
  pub fits : {xs ys : List A} → NoRepeats xs → ((x : A) → Memᴰ x xs → Memᴰ x ys) → length xs ≤ length ys
  fits NoRepeats.empty inside = omega arith
  fits {ys = ys} (NoRepeats.fresh {x = x} {xs = xs} new later) inside =
      let here : Memᴰ x ys = inside x (mathlib.Core.List.Memᴰ.head refl) in
      let others : (y : A) → Memᴰ y xs → Memᴰ y (removed here) =
      λ y m. still-there here (λ e. new (mathlib.Core.List.Memᴰ.cast (sym e) m)) (inside y (mathlib.Core.List.Memᴰ.tail m)) in
      omega (arith, fits later others, one-removed here)

  module _ {same : A → A → Bool} (decides : Decides same) where
    -- ---- the test of a list

    -- an element that the test finds is in the list
    pub among-member : (x : A) (xs : List A) → among same x xs ≡ true → Memᴰ x xs
    among-member x [] e = absurd (false≢true e)
    among-member x (y ∷ ys) e = go (same x y) refl e (among-member x ys)
      where
        go : (b : Bool) → same x y ≡ b → (b || among same x ys) ≡ true → (among same x ys ≡ true → Memᴰ x ys) → Memᴰ x (y ∷ ys)
        go true e k rest = mathlib.Core.List.Memᴰ.head ((decides x y).0 e)
        go false e k rest = mathlib.Core.List.Memᴰ.tail (rest k)

    -- and one that is in the list is found
    pub member-among : (x : A) (xs : List A) → Memᴰ x xs → among same x xs ≡ true
    member-among x [] m = absurd (mathlib.Core.List.Memᴰ.not-nil m)
    member-among x (y ∷ ys) (mathlib.Core.List.Memᴰ.head e) = ap (λ (b : Bool). b || among same x ys) ((decides x y).1 e)
    member-among x (y ∷ ys) (mathlib.Core.List.Memᴰ.tail m) = go (same x y) (member-among x ys m)
      where
        go : (b : Bool) → among same x ys ≡ true → (b || among same x ys) ≡ true
        go true k = refl
        go false k = k

    not-among : (x : A) (xs : List A) → among same x xs ≡ false → Memᴰ x xs → ⊥
    not-among x xs e m = false≢true (sym e ∙ member-among x xs m)

    -- a list without repeats, all in another and as long as it, has all of the other's elements
    pub fills :
        {xs ys : List A} → NoRepeats xs → ((x : A) → Memᴰ x xs → Memᴰ x ys) → length ys ≤ length xs → (y : A) →
        Memᴰ y ys → Memᴰ y xs
    fills {xs} {ys} once inside long y m = go (among same y xs) refl
      where
        put : (z : A) → Memᴰ z (y ∷ xs) → Memᴰ z ys
        put z (mathlib.Core.List.Memᴰ.head e) = mathlib.Core.List.Memᴰ.cast e m
        put z (mathlib.Core.List.Memᴰ.tail k) = inside z k

        go : (b : Bool) → among same y xs ≡ b → Memᴰ y xs
        go true e = among-member y xs e
        go false e =
            let longer : suc (length xs) ≤ length ys = fits (NoRepeats.fresh (not-among y xs e) once) put in
            absurd (omega arith)

    -- ---- one of each

    -- whatever is in the list is kept
    each-kept : (xs : List A) (y : A) → Memᴰ y xs → Memᴰ y (withoutRepeats same xs)
    each-kept [] y m = m
    each-kept (x ∷ xs) y m = go (among same x xs) refl m (each-kept xs)
      where
        go :
            (b : Bool) → among same x xs ≡ b → Memᴰ y (x ∷ xs) →
            ((z : A) → Memᴰ z xs → Memᴰ z (withoutRepeats same xs)) → Memᴰ y (unless b x (withoutRepeats same xs))
        go true e (mathlib.Core.List.Memᴰ.head q) rest = rest y (mathlib.Core.List.Memᴰ.cast q (among-member x xs e))
        go true e (mathlib.Core.List.Memᴰ.tail k) rest = rest y k
        go false e (mathlib.Core.List.Memᴰ.head q) rest = mathlib.Core.List.Memᴰ.head q
        go false e (mathlib.Core.List.Memᴰ.tail k) rest = mathlib.Core.List.Memᴰ.tail (rest y k)

  module _ (same : A → A → Bool) where
    -- and nothing else
    no-other-kept : (xs : List A) (y : A) → Memᴰ y (withoutRepeats same xs) → Memᴰ y xs
    no-other-kept [] y m = m
    no-other-kept (x ∷ xs) y m = go (among same x xs) m (no-other-kept xs y)
      where
        go :
            (b : Bool) → Memᴰ y (unless b x (withoutRepeats same xs)) →
            (Memᴰ y (withoutRepeats same xs) → Memᴰ y xs) → Memᴰ y (x ∷ xs)
        go true m rest = mathlib.Core.List.Memᴰ.tail (rest m)
        go false (mathlib.Core.List.Memᴰ.head q) rest = mathlib.Core.List.Memᴰ.head q
        go false (mathlib.Core.List.Memᴰ.tail k) rest = mathlib.Core.List.Memᴰ.tail (rest k)

    -- no more are kept than there are
    pub kept-at-most : (xs : List A) → length (withoutRepeats same xs) ≤ length xs
    kept-at-most [] = omega arith
    kept-at-most (x ∷ xs) = go (among same x xs) (kept-at-most xs)
      where
        go :
            (b : Bool) → length (withoutRepeats same xs) ≤ length xs →
            length (unless b x (withoutRepeats same xs)) ≤ suc (length xs)
        go true h = omega arith
        go false h = omega arith

  module _ {same : A → A → Bool} (decides : Decides same) where
    -- and none of it twice
    none-kept-twice : (xs : List A) → NoRepeats (withoutRepeats same xs)
    none-kept-twice [] = NoRepeats.empty
    none-kept-twice (x ∷ xs) = go (among same x xs) refl (none-kept-twice xs)
      where
        go :
            (b : Bool) → among same x xs ≡ b → NoRepeats (withoutRepeats same xs) →
            NoRepeats (unless b x (withoutRepeats same xs))
        go true e rest = rest
        go false e rest = NoRepeats.fresh (λ m. not-among decides x xs e (no-other-kept same xs x m)) rest

    -- as many are kept as there are different elements
    pub different-exactly : (xs : List A) (n : ℕ) → (length (withoutRepeats same xs) ≡ n) ↔ Different xs n
    different-exactly xs n = (there, back)
      where
        there : length (withoutRepeats same xs) ≡ n → Different xs n
        there e =
            record {
              kept = withoutRepeats same xs;
              holds = each-kept decides xs;
              no_other = no-other-kept same xs;
              none-twice = none-kept-twice xs;
              counted = e;
            }

        back : Different xs n → length (withoutRepeats same xs) ≡ n
        back d =
            let more : length (withoutRepeats same xs) ≤ length d.kept =
            fits (none-kept-twice xs) (λ x m. d.holds x (no-other-kept same xs x m)) in
            let fewer : length d.kept ≤ length (withoutRepeats same xs) =
            fits d.none-twice (λ x m. each-kept decides xs x (d.no_other x m)) in
            omega (arith, d.counted)

    -- all are kept exactly where none stands twice
    pub all-different : (xs : List A) → (length (withoutRepeats same xs) ≡ length xs) ↔ NoRepeats xs
    all-different xs = (there xs, back)
      where
        there : (ys : List A) → length (withoutRepeats same ys) ≡ length ys → NoRepeats ys
        there [] e = NoRepeats.empty
        there (y ∷ ys) e = go (among same y ys) refl e (there ys)
          where
            go :
                (b : Bool) → among same y ys ≡ b → length (unless b y (withoutRepeats same ys)) ≡ suc (length ys) →
                (length (withoutRepeats same ys) ≡ length ys → NoRepeats ys) → NoRepeats (y ∷ ys)
            go true f k rest = absurd (omega (arith, kept-at-most same ys))
            go false f k rest = NoRepeats.fresh (not-among decides y ys f) (rest (omega arith))

        back : NoRepeats xs → length (withoutRepeats same xs) ≡ length xs
        back once = omega (arith, fits once (each-kept decides xs), kept-at-most same xs)

-- ---- elements mapped so that the tests agree

module _ {A B : Type 0} (same : A → A → Bool) (same' : B → B → Bool) (f : A → B) where
  among-mapped :
      (x : A) (xs : List A) → ((y : A) → Memᴰ y xs → same x y ≡ same' (f x) (f y)) → among same x xs ≡ among same' (f x) (map f xs)
  among-mapped x [] agree = refl
  among-mapped x (y ∷ ys) agree =
      ap (λ (b : Bool). b || among same x ys) (agree y (mathlib.Core.List.Memᴰ.head refl))
      ∙ ap (λ (b : Bool). same' (f x) (f y) || b) (among-mapped x ys (λ z m. agree z (mathlib.Core.List.Memᴰ.tail m)))

  -- as many of them are different
  pub mapped-different :
      (xs : List A) → ((x y : A) → Memᴰ x xs → Memᴰ y xs → same x y ≡ same' (f x) (f y)) →
      length (withoutRepeats same xs) ≡ length (withoutRepeats same' (map f xs))
  mapped-different [] agree = refl
  mapped-different (x ∷ xs) agree =
      go
      (among same x xs)
      (among same' (f x) (map f xs))
      (among-mapped x xs (λ y m. agree x y (mathlib.Core.List.Memᴰ.head refl) (mathlib.Core.List.Memᴰ.tail m)))
      (mapped-different xs (λ y z m k. agree y z (mathlib.Core.List.Memᴰ.tail m) (mathlib.Core.List.Memᴰ.tail k)))
    where
      go :
          (a b : Bool) → a ≡ b → length (withoutRepeats same xs) ≡ length (withoutRepeats same' (map f xs)) →
          length (unless a x (withoutRepeats same xs)) ≡ length (unless b (f x) (withoutRepeats same' (map f xs)))
      go true true e h = h
      go true false e h = absurd (false≢true (sym e))
      go false true e h = absurd (false≢true e)
      go false false e h = ap suc h
