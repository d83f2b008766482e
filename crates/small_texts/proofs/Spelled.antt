-- The texts of k terms with n letters are exactly the texts of k terms, without bells, that have n letters in all. Carried by one
-- induction on the letters each way, by the first letter. Assumes nothing.
use Prim.Native.Nat.{ℕ, zero, suc, ◌+◌}
use native.Mathlib.Omega.{arith}
use mathlib.Core.Path.{◌≡◌, refl, sym, ◌∙◌, ap, subst}
use mathlib.Core.Logic.{⊎_elim}
use mathlib.Core.List.{List, [], ◌∷◌, ◌++◌, map, append_assoc}
use mathlib.Core.List.Memᴰ
use mathlib.Core.List.{Memᴰ}
use lib.ListN.{length}
use Rattle.calculus.specs.Letter.{Letter, byte, owed}
use Rattle.calculus.specs.Term.{Term, text, size}
use Rattle.calculus.specs.BellFree.{BellFree}
use Rattle.calculus.proofs.PrefixCode.{size_positive}
use Rattle.small_texts.specs.Texts.{letters, led, texts}

-- the texts of terms, one behind the other
abbrev pub spelled : List Term → List ℕ
spelled [] = []
spelled (t ∷ ts) = text t ++ spelled ts

-- the letters of terms in all
abbrev pub sizes : List Term → ℕ
sizes [] = 0
sizes (t ∷ ts) = size t + sizes ts

-- no bell stands in any of them
pub data AllFree : List Term → Type 0 where
  empty : AllFree []
  first : {t : Term} {ts : List Term} → BellFree t → AllFree ts → AllFree (t ∷ ts)

-- k terms without bells, with n letters in all
pub record Forest (k n : ℕ) (ts : List Term) : Type 0 where
  pub counted : length ts ≡ k
  pub sized : sizes ts ≡ n
  pub free : AllFree ts

-- ---- each is listed

-- a text behind its first letter
pub led_on :
    (l : Letter) (ls : List Letter) (f : Letter → List (List ℕ)) (s : List ℕ) → Memᴰ l ls → Memᴰ s (f l) →
    Memᴰ (byte l ∷ s) (led ls f)
led_on l (x ∷ ls) f s (Memᴰ.head e) m =
    Memᴰ.append_left (led ls f)
    (Memᴰ.cast (ap (λ (y : Letter). byte y ∷ s) e) (Memᴰ.map (λ (u : List ℕ). byte x ∷ u) (subst (λ (y : Letter). Memᴰ s (f y)) e m)))
led_on l (x ∷ ls) f s (Memᴰ.tail h) m = Memᴰ.append_right (map (λ (u : List ℕ). byte x ∷ u) (f x)) (led_on l ls f s h m)
led_on l [] f s x m = elim x [ ]

-- how a letter is found among the letters
ruleset among = (Memᴰ.head, Memᴰ.tail)

-- the text of any k terms with n letters is listed
abbrev Lists : ℕ → Type 0
Lists n = (k : ℕ) (ts : List Term) → Forest k n ts → Memᴰ (spelled ts) (texts k n)

module _ (n : ℕ) (below : Lists n) (k : ℕ) (ts : List Term) (counted : length ts ≡ k) (free : AllFree ts) where
  -- a letter, and behind it terms that are listed
  behind : (l : Letter) (us : List Term) → Memᴰ l letters → Forest (owed l k) n us
      → Memᴰ (byte l ∷ spelled us) (texts (suc k) (suc n))
  behind l us m f = led_on l letters (λ x. texts (owed x k) n) (spelled us) m (below (owed l k) us f)

  -- a letter that takes no term
  alone : (l : Letter) → Memᴰ l letters → k ≡ owed l k → 1 + sizes ts ≡ suc n → Memᴰ (byte l ∷ spelled ts) (texts (suc k) (suc n))
  alone l m owes e = behind l ts m (record { counted = counted ∙ owes; sized = omega arith; free = free })

  -- a letter that takes two
  pair : (l : Letter) (t u : Term) → Memᴰ l letters → suc (suc k) ≡ owed l k → BellFree t → BellFree u
      → suc (size t + size u) + sizes ts ≡ suc n → Memᴰ (byte l ∷ ((text t ++ text u) ++ spelled ts)) (texts (suc k) (suc n))
  pair l t u m owes h j e =
      Memᴰ.cast (ap (λ (s : List ℕ). byte l ∷ s) (append_assoc (text t) (text u) (spelled ts)))
      (behind l (t ∷ u ∷ ts) m
      (record {
        counted = ap (λ (i : ℕ). suc (suc i)) counted ∙ owes;
        sized = omega arith;
        free = AllFree.first h (AllFree.first j free);
      }))

  -- a term in front of others, by its first letter
  forward : {t : Term} → BellFree t → size t + sizes ts ≡ suc n → Memᴰ (text t ++ spelled ts) (texts (suc k) (suc n))
  forward BellFree.free-J e = alone Letter.J (search among depth 9) refl e
  forward BellFree.free-I e = alone Letter.I (search among depth 9) refl e
  forward (BellFree.free-R {t = t} h) e =
      behind Letter.R (t ∷ ts) (search among depth 9)
      (record { counted = ap suc counted; sized = omega arith; free = AllFree.first h free })
  forward (BellFree.free-H {r = t} {t = u} h j) e = pair Letter.H t u (search among depth 9) refl h j e
  forward (BellFree.free-A {s = t} {t = u} h j) e = pair Letter.A t u (search among depth 9) refl h j e
  forward (BellFree.free-B {u = t} {s = u} h j) e = pair Letter.B t u (search among depth 9) refl h j e
  forward (BellFree.free-app {t = t} {u = u} h j) e = pair Letter.stop t u (search among depth 9) refl h j e

-- no terms have no letters
none-listed : (k n : ℕ) → Forest k n [] → Memᴰ [] (texts k n)
none-listed k n f =
    subst (λ (i : ℕ). Memᴰ [] (texts i n)) f.counted
    (subst (λ (i : ℕ). Memᴰ [] (texts 0 i)) f.sized (Memᴰ.head refl))

-- one letter more
above : (n : ℕ) → Lists n → (k : ℕ) (ts : List Term) → Forest k (suc n) ts → Memᴰ (spelled ts) (texts k (suc n))
above n below k [] f = none-listed k (suc n) f
above n below zero (t ∷ ts) f = absurd (omega (arith, f.counted))
above n below (suc k) (t ∷ ts) f = go f.free
  where
    go : AllFree (t ∷ ts) → Memᴰ (text t ++ spelled ts) (texts (suc k) (suc n))
    go (AllFree.first h a) = forward n below k ts (omega (arith, f.counted)) a h f.sized

-- the text of any such terms stands in the list
pub listed : (n k : ℕ) (ts : List Term) → Forest k n ts → Memᴰ (spelled ts) (texts k n)
listed zero k [] f = none-listed k 0 f
listed zero k (t ∷ ts) f = let p = size_positive t in absurd (omega (arith, f.sized))
listed (suc n) k ts f = above n (listed n) k ts f

-- ---- and nothing else

-- a text's first letter, and what stands behind it
pub record Led (ls : List Letter) (f : Letter → List (List ℕ)) (s : List ℕ) : Type 0 where
  pub letter : Letter
  pub among : Memᴰ letter ls
  pub rest : List ℕ
  pub parted : s ≡ byte letter ∷ rest
  pub onward : Memᴰ rest (f letter)

-- what a byte was put in front of
pub mapped : (b : ℕ) (ss : List (List ℕ)) (s : List ℕ) → Memᴰ s (map (λ u. b ∷ u) ss) → (u : List ℕ) × (s ≡ b ∷ u) × Memᴰ u ss
mapped b (x ∷ ss) s (Memᴰ.head e) = (x, e, Memᴰ.head refl)
mapped b (x ∷ ss) s (Memᴰ.tail m) = let (u, e, h) = mapped b ss s m in (u, e, Memᴰ.tail h)
mapped b [] s x = elim x [ ]

-- each of those texts has a first letter and something behind it
pub led-back : (ls : List Letter) (f : Letter → List (List ℕ)) (s : List ℕ) → Memᴰ s (led ls f) → Led ls f s
led-back [] f s m = elim m [ ]
led-back (l ∷ ls) f s m =
    ⊎_elim here (λ (h : Memᴰ s (led ls f)). there (led-back ls f s h))
    (Memᴰ.append_cases (map (λ (u : List ℕ). byte l ∷ u) (f l)) m)
  where
    here : Memᴰ s (map (λ u. byte l ∷ u) (f l)) → Led (l ∷ ls) f s
    here h =
        let (u, e, k) = mapped (byte l) (f l) s h in
        record { letter = l; among = Memᴰ.head refl; rest = u; parted = e; onward = k }

    there : Led ls f s → Led (l ∷ ls) f s
    there r = record { letter = r.letter; among = Memᴰ.tail r.among; rest = r.rest; parted = r.parted; onward = r.onward }

-- no bell is among the letters
abbrev Plain : Letter → Type 0
Plain Letter.J = Unit
Plain Letter.R = Unit
Plain Letter.H = Unit
Plain Letter.A = Unit
Plain Letter.I = Unit
Plain Letter.B = Unit
Plain Letter.stop = Unit
Plain (Letter.bell k) = ⊥

abbrev AllPlain : List Letter → Type 0
AllPlain [] = Unit
AllPlain (l ∷ ls) = Plain l × AllPlain ls

plain : (l : Letter) (ls : List Letter) → AllPlain ls → Memᴰ l ls → Plain l
plain l (x ∷ ls) (p, ps) (Memᴰ.head e) = subst Plain (sym e) p
plain l (x ∷ ls) (p, ps) (Memᴰ.tail m) = plain l ls ps m
plain l [] _ x = elim x [ ]

-- bytes that are the text of k terms without bells, with n letters in all
pub record Spelt (k n : ℕ) (s : List ℕ) : Type 0 where
  pub terms : List Term
  pub forest : Forest k n terms
  pub says : s ≡ spelled terms

module _ (n k : ℕ) (s : List ℕ) where
  -- terms behind a letter that takes none of them, one or two
  leaf : (l : Letter) (t : Term) → text t ≡ byte l ∷ [] → size t ≡ 1 → BellFree t → (rest : List ℕ) → s ≡ byte l ∷ rest → Spelt k n rest
      → Spelt (suc k) (suc n) s
  leaf l t spells sized free rest e r =
      record {
        terms = t ∷ r.terms;
        forest = record {
          counted = ap suc r.forest.counted;
          sized = omega (arith, r.forest.sized);
          free = AllFree.first free r.forest.free;
        };
        says = e ∙ ap (λ (u : List ℕ). byte l ∷ u) r.says ∙ ap (λ (u : List ℕ). u ++ spelled r.terms) (sym spells);
      }

  one : (rest : List ℕ) → s ≡ byte Letter.R ∷ rest → Spelt (suc k) n rest → Spelt (suc k) (suc n) s
  one rest e r = go r.terms r.forest.counted r.forest.sized r.forest.free r.says
    where
      go : (ts : List Term) → length ts ≡ suc k → sizes ts ≡ n → AllFree ts → rest ≡ spelled ts → Spelt (suc k) (suc n) s
      go [] c z a q = absurd (omega arith)
      go (t ∷ ts) c z (AllFree.first h a) q =
          record {
            terms = Term.R t ∷ ts;
            forest = record { counted = c; sized = omega arith; free = AllFree.first (BellFree.free-R h) a };
            says = e ∙ ap (λ (u : List ℕ). byte Letter.R ∷ u) q;
          }

  two :
      (l : Letter) (node : Term → Term → Term) → ((t u : Term) → text (node t u) ≡ byte l ∷ (text t ++ text u)) →
      ((t u : Term) → size (node t u) ≡ suc (size t + size u)) → ((t u : Term) → BellFree t → BellFree u → BellFree (node t u)) →
      (rest : List ℕ) → s ≡ byte l ∷ rest → Spelt (suc (suc k)) n rest → Spelt (suc k) (suc n) s
  two l node spells sized free rest e r = go r.terms r.forest.counted r.forest.sized r.forest.free r.says
    where
      go : (ts : List Term) → length ts ≡ suc (suc k) → sizes ts ≡ n → AllFree ts → rest ≡ spelled ts → Spelt (suc k) (suc n) s
      go [] c z a q = absurd (omega arith)
      go (t ∷ []) c z a q = absurd (omega arith)
      go (t ∷ u ∷ ts) c z (AllFree.first h (AllFree.first j a)) q =
          record {
            terms = node t u ∷ ts;
            forest = record { counted = omega arith; sized = omega (arith, sized t u); free = AllFree.first (free t u h j) a };
            says =
                e ∙ ap (λ (v : List ℕ). byte l ∷ v) (q ∙ sym (append_assoc (text t) (text u) (spelled ts)))
                ∙ ap (λ (v : List ℕ). v ++ spelled ts) (sym (spells t u));
          }

  -- by the first letter
  by_letter : ((k : ℕ) (s : List ℕ) → Memᴰ s (texts k n) → Spelt k n s) → Led letters (λ l. texts (owed l k) n) s
      → Spelt (suc k) (suc n) s
  by_letter below r = go r.letter r.among r.parted r.onward
    where
      go :
          (l : Letter) → Memᴰ l letters → s ≡ byte l ∷ r.rest → Memᴰ r.rest (texts (owed l k) n) → Spelt (suc k) (suc n) s
      go Letter.J m e h = leaf Letter.J Term.J refl refl BellFree.free-J r.rest e (below _ _ h)
      go Letter.I m e h = leaf Letter.I Term.I refl refl BellFree.free-I r.rest e (below _ _ h)
      go Letter.R m e h = one r.rest e (below _ _ h)
      go Letter.H m e h = two Letter.H Term.H (λ t u. refl) (λ t u. refl) (λ t u h j. BellFree.free-H h j) _ e (below _ _ h)
      go Letter.A m e h = two Letter.A Term.A (λ t u. refl) (λ t u. refl) (λ t u h j. BellFree.free-A h j) _ e (below _ _ h)
      go Letter.B m e h = two Letter.B Term.B (λ t u. refl) (λ t u. refl) (λ t u h j. BellFree.free-B h j) _ e (below _ _ h)
      go Letter.stop m e h = two Letter.stop Term.app (λ t u. refl) (λ t u. refl) (λ t u h j. BellFree.free-app h j) _ e (below _ _ h)
      go (Letter.bell b) m e h = absurd (plain (Letter.bell b) letters (tt, (tt, (tt, (tt, (tt, (tt, (tt, tt))))))) m)

-- each text of the list is that of such terms
pub spelt : (n k : ℕ) (s : List ℕ) → Memᴰ s (texts k n) → Spelt k n s
spelt zero zero s m =
    record {
      terms = [];
      forest = record { counted = refl; sized = refl; free = AllFree.empty };
      says = Memᴰ.eq_of_singleton m;
    }
spelt zero (suc k) s m = absurd (Memᴰ.not-nil m)
spelt (suc n) zero s m = absurd (Memᴰ.not-nil m)
spelt (suc n) (suc k) s m = by_letter n k s (spelt n) (led-back letters (λ (l : Letter). texts (owed l k) n) s m)
