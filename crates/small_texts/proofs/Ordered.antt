-- The texts of small terms stand in byte order; and lists in byte order that hold the same are the same. Carried by an induction on the
-- letters for the one, and on the lists for the other. Assumes nothing.
use Prim.Native.Nat.{ℕ, zero, suc, ◌≤◌, ◌<◌}
use native.Mathlib.Decide.{dec_le}
use native.Mathlib.Omega.{arith}
use mathlib.Core.Path.{◌≡◌, refl, sym, ◌∙◌, ap₂, subst}
use mathlib.Core.Logic.{⊎_elim}
use mathlib.Core.List.{List, [], ◌∷◌, ◌++◌, map}
use mathlib.Core.List.Memᴰ
use mathlib.Core.List.{Memᴰ}
use lib.ListN.{length, get_or}
use Rattle.calculus.specs.Letter.{Letter, byte, owed}
use Rattle.small_texts.specs.Small.{Before, Increasing}
use Rattle.small_texts.specs.Texts.{letters, led, texts}
use Rattle.small_texts.proofs.Spelled.{mapped, led-back}

-- an element by its index stands in the list
pub member : (ss : List (List ℕ)) (i : ℕ) → i < length ss → Memᴰ (get_or ss i []) ss
member [] i h = absurd (omega arith)
member (s ∷ ss) zero h = Memᴰ.head refl
member (s ∷ ss) (suc i) h = Memᴰ.tail (member ss i (omega arith))

-- and what stands in it has an index
pub index_of : (ss : List (List ℕ)) (s : List ℕ) → Memᴰ s ss → (i : ℕ) × (i < length ss) × (s ≡ get_or ss i [])
index_of (u ∷ ss) s (Memᴰ.head e) = (0, omega arith, e)
index_of (u ∷ ss) s (Memᴰ.tail m) = let (i, h, e) = index_of ss s m in (suc i, omega arith, e)
index_of [] s x = elim x [ ]

-- ---- byte order

-- of two, one at most comes before the other
pub before_asymmetric : {s u : List ℕ} → Before s u → Before u s → ⊥
before_asymmetric Before.ended h = elim h [ ]
before_asymmetric (Before.less p) (Before.less q) = omega arith
before_asymmetric (Before.less p) (Before.later e h) = omega arith
before_asymmetric (Before.later e h) (Before.less q) = omega arith
before_asymmetric (Before.later e h) (Before.later f j) = before_asymmetric h j

-- so nothing comes before itself
pub before_irreflexive : {s : List ℕ} → Before s s → ⊥
before_irreflexive h = before_asymmetric h h

-- and of two that differ one comes before the other
pub before-total : (s u : List ℕ) → ¬ Before s u → ¬ Before u s → s ≡ u
before-total [] [] h k = refl
before-total [] (b ∷ u) h k = absurd (h Before.ended)
before-total (a ∷ s) [] h k = absurd (k Before.ended)
before-total (a ∷ s) (b ∷ u) h k =
    let below : ¬ a < b = λ p. h (Before.less p) in
    let above : ¬ b < a = λ p. k (Before.less p) in
    let same : a ≡ b = omega (arith, below, above) in
    ap₂ (λ (x : ℕ) (xs : List ℕ). x ∷ xs) same
    (before-total s u (λ p. h (Before.later same p)) (λ p. k (Before.later (sym same) p)))

-- ---- the texts

-- a byte in front of each
in_front_lem : (b : ℕ) {ss : List (List ℕ)} → Increasing ss → Increasing (map (λ u. b ∷ u) ss)
in_front_lem b Increasing.empty = Increasing.empty
in_front_lem b (Increasing.first {s = s} {others = ss} h rest) = Increasing.first after (in_front_lem b rest)
  where
    after : (u : List ℕ) → Memᴰ u (map (λ v. b ∷ v) ss) → Before (b ∷ s) u
    after u m = let (v, e, k) = mapped b ss u m in subst (Before (b ∷ s)) (sym e) (Before.later refl (h v k))

-- one list behind another
appended : {ss us : List (List ℕ)} → Increasing ss → Increasing us
    → ((s u : List ℕ) → Memᴰ s ss → Memᴰ u us → Before s u) → Increasing (ss ++ us)
appended Increasing.empty second h = second
appended {us = us} (Increasing.first {s = s} {others = ss} earlier rest) second h =
    Increasing.first after (appended rest second (λ v u k m. h v u (Memᴰ.tail k) m))
  where
    after : (u : List ℕ) → Memᴰ u (ss ++ us) → Before s u
    after u m =
        ⊎_elim (λ (k : Memᴰ u ss). earlier u k) (λ (k : Memᴰ u us). h s u (Memᴰ.head refl) k)
        (Memᴰ.append_cases ss m)

-- letters in the order of their bytes
pub data Rising : List Letter → Type 0 where
  empty : Rising []
  first : {l : Letter} {ls : List Letter} → ((x : Letter) → Memᴰ x ls → byte l < byte x) → Rising ls → Rising (l ∷ ls)

led_rises : (ls : List Letter) (f : Letter → List (List ℕ)) → Rising ls → ((l : Letter) → Increasing (f l)) → Increasing (led ls f)
led_rises [] f r h = Increasing.empty
led_rises (l ∷ ls) f (Rising.first below r) h = appended (in_front_lem (byte l) (h l)) (led_rises ls f r h) across
  where
    across : (s u : List ℕ) → Memᴰ s (map (λ v. byte l ∷ v) (f l)) → Memᴰ u (led ls f) → Before s u
    across s u m k =
        let (v, e, j) = mapped (byte l) (f l) s m in
        let r = led-back ls f u k in
        subst (λ (x : List ℕ). Before x u) (sym e)
        (subst (Before (byte l ∷ v)) (sym r.parted) (Before.less (below r.letter r.among)))

-- a letter's byte is below those of a list of letters
abbrev Below : ℕ → List Letter → Type 0
Below b [] = Unit
Below b (l ∷ ls) = (b < byte l) × Below b ls

below_all : (b : ℕ) (ls : List Letter) → Below b ls → (x : Letter) → Memᴰ x ls → b < byte x
below_all b (l ∷ ls) (h, hs) x (Memᴰ.head e) = subst (λ (y : Letter). b < byte y) (sym e) h
below_all b (l ∷ ls) (h, hs) x (Memᴰ.tail m) = below_all b ls hs x m
below_all b [] _ x m = elim m [ ]

abbrev AllBelow : List Letter → Type 0
AllBelow [] = Unit
AllBelow (l ∷ ls) = Below (byte l) ls × AllBelow ls

rising : (ls : List Letter) → AllBelow ls → Rising ls
rising [] h = Rising.empty
rising (l ∷ ls) (h, hs) = Rising.first (below_all (byte l) ls h) (rising ls hs)

letters_rise : Rising letters
letters_rise = rising letters (search arith depth 9)

-- the texts of k terms with n letters stand in byte order
pub texts_rise : (n k : ℕ) → Increasing (texts k n)
texts_rise zero zero = Increasing.first (λ u m. absurd (Memᴰ.not-nil m)) Increasing.empty
texts_rise zero (suc k) = Increasing.empty
texts_rise (suc n) zero = Increasing.empty
texts_rise (suc n) (suc k) = led_rises letters (λ (l : Letter). texts (owed l k) n) letters_rise (λ l. texts_rise n (owed l k))

-- ---- by their indices

-- of an increasing list, an element comes before those behind it
pub at-later : {ss : List (List ℕ)} → Increasing ss → (i j : ℕ) → i < j → j < length ss → Before (get_or ss i []) (get_or ss j [])
at-later Increasing.empty i j h k = absurd (omega arith)
at-later (Increasing.first {s = s} {others = ss} before rest) i zero h k = absurd (omega arith)
at-later (Increasing.first {s = s} {others = ss} before rest) zero (suc j) h k = before (get_or ss j []) (member ss j (omega arith))
at-later (Increasing.first {s = s} {others = ss} before rest) (suc i) (suc j) h k = at-later rest i j (omega arith) (omega arith)

-- so one that comes before another has the smaller index
pub at-earlier :
    {ss : List (List ℕ)} → Increasing ss → (i j : ℕ) → i < length ss → j < length ss → Before (get_or ss i []) (get_or ss j []) → i < j
at-earlier {ss} rises i j inside within h = go (dec_le j i)
  where
    go : Dec (j ≤ i) → i < j
    go (no less) = omega arith
    go (yes most) = same (dec_le i j)
      where
        same : Dec (i ≤ j) → i < j
        same (yes least) =
            let e : i ≡ j = omega arith in
            absurd (before_irreflexive (subst (λ (k : ℕ). Before (get_or ss k []) (get_or ss j [])) e h))
        same (no more) = absurd (before_asymmetric h (at-later rises j i (omega arith) inside))

-- ---- the same list

-- the first of one list is the first of the other
same_first :
    {s u : List ℕ} {ss us : List (List ℕ)} → Increasing (s ∷ ss) → Increasing (u ∷ us) →
    Memᴰ s (u ∷ us) → Memᴰ u (s ∷ ss) → s ≡ u
same_first (Increasing.first p a) (Increasing.first q b) (Memᴰ.head e) k = e
same_first (Increasing.first p a) (Increasing.first q b) (Memᴰ.tail m) (Memᴰ.head e) = sym e
same_first (Increasing.first p a) (Increasing.first q b) (Memᴰ.tail m) (Memᴰ.tail k) = absurd (before_asymmetric (p _ k) (q _ m))

-- lists in byte order that hold the same are the same
pub same_list :
    (ss us : List (List ℕ)) → Increasing ss → Increasing us → ((x : List ℕ) → Memᴰ x ss → Memᴰ x us) →
    ((x : List ℕ) → Memᴰ x us → Memᴰ x ss) → ss ≡ us
same_list [] [] a b f g = refl
same_list [] (u ∷ us) a b f g = absurd (Memᴰ.not-nil (g u (Memᴰ.head refl)))
same_list (s ∷ ss) [] a b f g = absurd (Memᴰ.not-nil (f s (Memᴰ.head refl)))
same_list (s ∷ ss) (u ∷ us) (Increasing.first p a) (Increasing.first q b) f g =
    ap₂ (λ (x : List ℕ) (xs : List (List ℕ)). x ∷ xs) same (same_list ss us a b within back)
  where
    same : s ≡ u
    same = same_first (Increasing.first p a) (Increasing.first q b) (f s (Memᴰ.head refl)) (g u (Memᴰ.head refl))

    within : (x : List ℕ) → Memᴰ x ss → Memᴰ x us
    within x m =
        ⊎_elim (λ (e : x ≡ u). absurd (before_irreflexive (subst (Before s) (e ∙ sym same) (p x m)))) (λ (k : Memᴰ x us). k)
        (Memᴰ.cases_cons (f x (Memᴰ.tail m)))

    back : (x : List ℕ) → Memᴰ x us → Memᴰ x ss
    back x m =
        ⊎_elim (λ (e : x ≡ s). absurd (before_irreflexive (subst (Before u) (e ∙ same) (q x m)))) (λ (k : Memᴰ x ss). k)
        (Memᴰ.cases_cons (g x (Memᴰ.tail m)))
