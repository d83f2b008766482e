-- What the loop of `is_row` keeps: a mark for each bell of the places that it has passed, none of which is there twice. Assumes nothing.
use Prim.Native.Nat.{ℕ, ◌≤◌, ◌<◌}
use native.Mathlib.Omega.{arith}
use mathlib.Core.Path.{◌≡◌, refl, sym, ap, ◌∙◌}
use mathlib.Core.Logic.{◌⊎◌, inl, inr}
use mathlib.Core.Bool.{Bool, true, false, ◌||◌, or-false, or_assoc, false≢true}
use mathlib.Core.List.{List, [], ◌∷◌, ◌++◌}
use mathlib.Core.List.Memᴰ
use mathlib.Core.List.{Memᴰ}
use borrow.Author.Tests.{eqb-true, eqb-false}
use lib.Dec.{eqb}
use lib.ListN.{length, get_or, set, replicate, length-set, get_or-replicate}
use lib.Seq.{get_or-set_same, get_or-set_other}
use Rattle.calculus.specs.Bell.{stands}
use Rattle.calculus.proofs.Bells.{listed-stands}
use Rattle.repeats.specs.Repeats.{NoRepeats}
use Rattle.repeats.proofs.Repeats.{numbers-decided, fills}
use Rattle.bell_rows.specs.Row.{down_to_one, times, is_row}
use Rattle.bell_rows.proofs.Rows.{stands_member, times-some, times-once, times-append}
use Rattle.bell_rows.proofs.Rows.{down_length, down_within, within_down, test_row, row_test}

-- `Seen n front seen`: front holds bells from one to n, none twice, and those are the marks that are set
pub record Seen (n : ℕ) (front : List ℕ) (seen : List Bool) : Type 0 where
  pub size : length seen ≡ 13
  pub marks : (k : ℕ) → k < 13 → get_or seen k false ≡ stands k front
  pub none-twice : NoRepeats front
  pub within : (b : ℕ) → Memᴰ b front → (1 ≤ b) × (b ≤ n)

-- ---- before the first turn

-- no mark is set
pub none_seen : (n : ℕ) → Seen n [] (replicate 13 false)
none_seen n =
    record {
      size = refl;
      marks = λ k h. get_or-replicate 13 k false false h;
      none-twice = NoRepeats.empty;
      within = λ b m. absurd (Memᴰ.not-nil m);
    }

-- ---- one turn

-- a number stands in two lists, one behind the other, where it stands in one of them
stands-append : (k : ℕ) (xs ys : List ℕ) → stands k (xs ++ ys) ≡ (stands k xs || stands k ys)
stands-append k [] ys = refl
stands-append k (x ∷ xs) ys = ap (λ (b : Bool). eqb k x || b) (stands-append k xs ys) ∙ sym (or_assoc (eqb k x) (stands k xs) (stands k ys))

-- one more at the end that is not there yet
one_fresh : {b : ℕ} {xs : List ℕ} → NoRepeats xs → (Memᴰ b xs → ⊥) → NoRepeats (xs ++ (b ∷ []))
one_fresh NoRepeats.empty out = NoRepeats.fresh Memᴰ.not-nil NoRepeats.empty
one_fresh {b} (NoRepeats.fresh {x = x} {xs = xs} new later) out =
    NoRepeats.fresh (λ m. go (Memᴰ.append_cases xs m)) (one_fresh later (λ m. out (Memᴰ.tail m)))
  where
    go : Memᴰ x xs ⊎ Memᴰ x (b ∷ []) → ⊥
    go (inl m) = new m
    go (inr m) = out (Memᴰ.head (sym (Memᴰ.eq_of_singleton m)))

module _ {n : ℕ} {front : List ℕ} {seen : List Bool} (few : n ≤ 12) (s : Seen n front seen) {b : ℕ} where
  -- a bell that has no mark yet gets it
  pub one_seen : 1 ≤ b → b ≤ n → get_or seen b false ≡ false → Seen n (front ++ (b ∷ [])) (set seen b true)
  one_seen h l unmarked =
      record {
        size = length-set seen b true ∙ s.size;
        marks = λ k j. mark k j (eqb k b) refl;
        none-twice = one_fresh s.none-twice (λ m. false≢true (sym new ∙ listed-stands m));
        within = λ k m. inside k (Memᴰ.append_cases front m);
      }
    where
      new : stands b front ≡ false
      new = sym (s.marks b (omega arith)) ∙ unmarked

      behind : (k : ℕ) (t : Bool) → eqb k b ≡ t → stands k (front ++ (b ∷ [])) ≡ (stands k front || (t || false))
      behind k t e = stands-append k front (b ∷ []) ∙ ap (λ (x : Bool). stands k front || (x || false)) e

      mark : (k : ℕ) → k < 13 → (t : Bool) → eqb k b ≡ t → get_or (set seen b true) k false ≡ stands k (front ++ (b ∷ []))
      mark k j true e =
          let same = eqb-true k b e in
          ap (λ (x : ℕ). get_or (set seen b true) x false) same
          ∙ get_or-set_same seen b true false (omega (arith, s.size))
          ∙ sym (behind k true e ∙ ap (λ (x : ℕ). stands x front || true) same ∙ ap (λ (x : Bool). x || true) new)
      mark k j false e =
          get_or-set_other seen b k true false (eqb-false k b e) ∙ s.marks k j ∙ sym (behind k false e ∙ or-false (stands k front))

      inside : (k : ℕ) → Memᴰ k front ⊎ Memᴰ k (b ∷ []) → (1 ≤ k) × (k ≤ n)
      inside k (inl m) = s.within k m
      inside k (inr m) = let same = Memᴰ.eq_of_singleton m in (omega arith, omega arith)

-- ---- where the loop says no

-- a test that is not true is false
not-row : (n : ℕ) (bells : List ℕ) → (is_row n bells ≡ true → ⊥) → is_row n bells ≡ false
not-row n bells out = go (is_row n bells) refl
  where
    go : (t : Bool) → is_row n bells ≡ t → is_row n bells ≡ false
    go true e = absurd (out e)
    go false e = e

-- a number that is no bell from one to n is in no row
pub no_such_bell : (n : ℕ) (front : List ℕ) (b : ℕ) (rest : List ℕ) → (b ≡ 0) ⊎ (n < b) → is_row n (front ++ (b ∷ rest)) ≡ false
no_such_bell n front b rest h =
    not-row
    n
    (front ++ (b ∷ rest))
    (λ e. go h
    (down_within n b ((test_row n (front ++ (b ∷ rest)) e).no_other b (Memᴰ.append_right front (Memᴰ.head refl)))))
  where
    go : (b ≡ 0) ⊎ (n < b) → (1 ≤ b) × (b ≤ n) → ⊥
    go (inl z) w = omega arith
    go (inr l) w = omega arith

-- a bell that has a mark stands twice
pub twice_seen :
    {n : ℕ} {front : List ℕ} {seen : List Bool} → n ≤ 12 → Seen n front seen → (b : ℕ) → b ≤ n → get_or seen b false ≡ true →
    (rest : List ℕ) → is_row n (front ++ (b ∷ rest)) ≡ false
twice_seen {n} {front} {seen} few s b l marked rest = not-row n (front ++ (b ∷ rest)) go
  where
    go : is_row n (front ++ (b ∷ rest)) ≡ true → ⊥
    go e =
        let there = stands_member b front (sym (s.marks b (omega arith)) ∙ marked) in
        let row = test_row n (front ++ (b ∷ rest)) e in
        let one = row.once b (row.no_other b (Memᴰ.append_right front (Memᴰ.head refl))) in
        omega (
          arith,
          one,
          times-append b front (b ∷ rest),
          times-some b front there,
          times-some b (b ∷ rest) (Memᴰ.head refl),
        )

-- ---- behind the last turn

-- as many bells as the row has, none twice, are all of them
pub all_seen : {n : ℕ} {row : List ℕ} {seen : List Bool} → Seen n row seen → length row ≡ n → is_row n row ≡ true
all_seen {n} {row} s e = row_test n row record { once = once; no_other = inside }
  where
    inside : (b : ℕ) → Memᴰ b row → Memᴰ b (down_to_one n)
    inside b m = let w = s.within b m in within_down n b w.0 w.1

    once : (k : ℕ) → Memᴰ k (down_to_one n) → times k row ≡ 1
    once k m = times-once k s.none-twice (fills numbers-decided s.none-twice inside (omega (arith, down_length n)) k m)
