-- The list of small terms holds each small term and nothing else, in byte order, and is the only list that does. Carried by what its texts
-- are (`listed`, `spelt`), by their order (`texts_rise`), and by terms being a prefix code. Assumes nothing.
use Prim.Native.Nat.{ℕ}
use native.Mathlib.Omega.{arith}
use mathlib.Core.Path.{◌≡◌, refl, sym, ◌∙◌, ap, ap₂, subst}
use mathlib.Core.List.Memᴰ
use mathlib.Core.List.{List, [], ◌∷◌, map, append-nil}
use mathlib.Core.List.{Memᴰ}
use lib.ListN.{length}
use Rattle.calculus.specs.Term.{Term, text}
use Rattle.calculus.proofs.PrefixCode.{term_of-text, text_injective}
use Rattle.small_texts.specs.Small.{Small, Increasing, EachSmall}
use Rattle.small_texts.specs.Texts.{texts, or_J, term_in, small_terms}
use Rattle.small_texts.proofs.Spelled.{spelled, sizes, AllFree, listed, spelt}
use Rattle.small_texts.proofs.Ordered.{texts_rise, same_list}

-- the term of a term's text is that term
pub term_in_lem : (t : Term) → term_in (text t) ≡ t
term_in_lem t = ap or_J (term_of-text t)

-- the text of a small term stands in the list
pub small-listed : (n : ℕ) (t : Term) → Small n t → Memᴰ (text t) (texts 1 n)
small-listed n t h =
    Memᴰ.cast (sym (append-nil (text t)))
    (listed n 1 (t ∷ []) (record { counted = refl; sized = omega (arith, h.sized); free = AllFree.first h.free AllFree.empty }))

-- a text of the list is that of a small term
pub listed_small : (n : ℕ) (s : List ℕ) → Memᴰ s (texts 1 n) → (t : Term) × (s ≡ text t) × Small n t
listed_small n s m = let r = spelt n 1 s m in go r.terms r.forest.counted r.forest.sized r.forest.free r.says
  where
    go : (ts : List Term) → length ts ≡ 1 → sizes ts ≡ n → AllFree ts → s ≡ spelled ts → (t : Term) × (s ≡ text t) × Small n t
    go [] c z a e = absurd (omega arith)
    go (t ∷ u ∷ ts) c z a e = absurd (omega arith)
    go (t ∷ []) c z (AllFree.first h AllFree.empty) e = (t, e ∙ append-nil (text t), record { sized = omega arith; free = h })

-- so a text of the list is the text of the term that is read from it
pub listed-text : (n : ℕ) (s : List ℕ) → Memᴰ s (texts 1 n) → text (term_in s) ≡ s
listed-text n s m = let (t, e, h) = listed_small n s m in ap (λ (u : List ℕ). text (term_in u)) e ∙ ap text (term_in_lem t) ∙ sym e

texts-back : (ss : List (List ℕ)) → ((s : List ℕ) → Memᴰ s ss → text (term_in s) ≡ s) → map text (map term_in ss) ≡ ss
texts-back [] h = refl
texts-back (s ∷ ss) h =
    ap₂ (λ (x : List ℕ) (xs : List (List ℕ)). x ∷ xs) (h s (Memᴰ.head refl)) (texts-back ss (λ u m. h u (Memᴰ.tail m)))

-- the texts of the small terms are the list of texts
pub small-texts : (n : ℕ) → map text (small_terms n) ≡ texts 1 n
unfolding small_terms
small-texts n = texts-back (texts 1 n) (listed-text n)

mapped_back : (ss : List (List ℕ)) (t : Term) → Memᴰ t (map term_in ss) → (s : List ℕ) × (t ≡ term_in s) × Memᴰ s ss
mapped_back (s ∷ ss) t (Memᴰ.head e) = (s, e, Memᴰ.head refl)
mapped_back (s ∷ ss) t (Memᴰ.tail m) = let (u, e, h) = mapped_back ss t m in (u, e, Memᴰ.tail h)
mapped_back [] t x = elim x [ ]

-- the list holds each small term, nothing else, in byte order
pub each-small : (n : ℕ) → EachSmall n (small_terms n)
unfolding small_terms
each-small n =
    record {
      complete = λ t h. Memᴰ.cast (sym (term_in_lem t)) (Memᴰ.map term_in (small-listed n t h));
      nothing_else = λ t m. only t (mapped_back (texts 1 n) t m);
      in_order = subst Increasing (sym (texts-back (texts 1 n) (listed-text n))) (texts_rise n 1);
    }
  where
    only : (t : Term) → (s : List ℕ) × (t ≡ term_in s) × Memᴰ s (texts 1 n) → Small n t
    only t (s, e, m) =
        let (u, same, h) = listed_small n s m in
        subst (Small n) (sym (e ∙ ap term_in same ∙ term_in_lem u)) h

text-back : (ts us : List Term) → map text ts ≡ map text us → ts ≡ us
text-back [] [] e = refl
text-back [] (u ∷ us) e = cc
text-back (t ∷ ts) [] e = cc
text-back (t ∷ ts) (u ∷ us) e = ap₂ (λ (x : Term) (xs : List Term). x ∷ xs) (text_injective t u cc) (text-back ts us cc)

text_member : (ts : List Term) (s : List ℕ) → Memᴰ s (map text ts) → (t : Term) × (s ≡ text t) × Memᴰ t ts
text_member (t ∷ ts) s (Memᴰ.head e) = (t, e, Memᴰ.head refl)
text_member (t ∷ ts) s (Memᴰ.tail m) = let (u, e, h) = text_member ts s m in (u, e, Memᴰ.tail h)
text_member [] s x = elim x [ ]

-- two such lists are the same
pub each_unique : (n : ℕ) (ts us : List Term) → EachSmall n ts → EachSmall n us → ts ≡ us
each_unique n ts us a b =
    text-back ts us (same_list (map text ts) (map text us) a.in_order b.in_order (moves ts us a b) (moves us ts b a))
  where
    moves : (vs ws : List Term) → EachSmall n vs → EachSmall n ws → (x : List ℕ) → Memᴰ x (map text vs) → Memᴰ x (map text ws)
    moves vs ws f g x m =
        let (t, e, h) = text_member vs x m in
        Memᴰ.cast e (Memᴰ.map text (g.complete t (f.nothing_else t h)))
