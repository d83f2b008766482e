-- The dearest small term as a function and as a relation agree, and there is one. Carried by `run` being finishing's loop, by the one list
-- of small terms, and by byte order being total. Assumes nothing.
use Prim.Native.Nat.{ℕ, ◌≤◌, ◌<◌}
use native.Mathlib.Decide.{dec_le}
use native.Mathlib.Omega.{arith}
use mathlib.Core.Path.{◌≡◌, refl, sym, ◌∙◌, ap, ap₂, subst}
use mathlib.Core.Logic.{◌↔◌}
use mathlib.Core.Bool.{Bool, cond}
use mathlib.Core.List.Memᴰ
use mathlib.Core.List.{List, [], ◌∷◌, map}
use mathlib.Core.List.{Memᴰ}
use mathlib.Core.Option.{Option, none, some}
use borrow.Author.Tests.{le-leb, lt-leb}
use Rattle.calculus.specs.Term.{Term, text}
use Rattle.calculus.specs.Run.{Outcome, run, outcome, count}
use Rattle.calculus.proofs.Runs.{run-runs}
use Rattle.calculus.proofs.PrefixCode.{text_injective}
use Rattle.reading.specs.Reply.{Reply}
use Rattle.small_texts.specs.Small.{Before, Increasing}
use Rattle.small_texts.specs.Texts.{small_terms}
use Rattle.small_texts.proofs.Ordered.{before_asymmetric, before_irreflexive, before-total}
use Rattle.small_texts.proofs.Each.{each-small}
use Rattle.small_admission.specs.Admission.{if_admitted}
use Rattle.small_terms.specs.Dearest.{Dear, dearer, if_finished, dearest_in, or_none, dearest_of, Finishes, Dearest, FindsAs}
use Rattle.small_admission.proofs.Admitting.{refused-is, admitted-is, Decided, decided}
use Rattle.small_terms.proofs.Finished.{some-finishes}
use Rattle.small_terms.proofs.Leading.{finishes-at}

-- ---- of a list

module _ (fuel area : ℕ) where
  -- `DearestOf ts t k`: t is the dearest of these terms, and its run makes k steps
  record DearestOf (ts : List Term) (t : Term) (k : ℕ) : Type 0 where
    among : Memᴰ t ts
    finishes : Finishes fuel area t k
    none_more : (u : Term) (m : ℕ) → Memᴰ u ts → Finishes fuel area u m → m ≤ k
    none-earlier : (u : Term) → Memᴰ u ts → Before (text u) (text t) → ¬ Finishes fuel area u k

  -- what the function gives of a list
  abbrev Given : List Term → Option Dear → Type 0
  Given ts none = (u : Term) (m : ℕ) → Memᴰ u ts → ¬ Finishes fuel area u m
  Given ts (some (Dear.dear t k)) = DearestOf ts t k

  -- a term finishes in one number of steps
  pub one-count : {t : Term} {k m : ℕ} → Finishes fuel area t k → Finishes fuel area t m → k ≡ m
  one-count {t} {k} {m} f g = sym (finishes-at fuel area t k f).1 ∙ (finishes-at fuel area t m g).1

  module _ (t : Term) (ts : List Term) (before : (s : List ℕ) → Memᴰ s (map text ts) → Before (text t) s) where
    -- no term behind it comes before it
    not-before : (u : Term) → Memᴰ u (t ∷ ts) → ¬ Before (text u) (text t)
    not-before u (Memᴰ.head e) h = before_irreflexive (subst (λ (x : Term). Before (text x) (text t)) e h)
    not-before u (Memᴰ.tail m) h = before_asymmetric h (before (text u) (Memᴰ.map text m))

    -- it leads where none behind it makes more steps
    leads :
        (k : ℕ) → Finishes fuel area t k → ((u : Term) (m : ℕ) → Memᴰ u ts → Finishes fuel area u m → m ≤ k) → DearestOf (t ∷ ts) t k
    leads k f most =
        record {
          among = Memᴰ.head refl;
          finishes = f;
          none_more = go;
          none-earlier = λ u m h g. not-before u m h;
        }
      where
        go : (u : Term) (m : ℕ) → Memᴰ u (t ∷ ts) → Finishes fuel area u m → m ≤ k
        go u m (Memᴰ.head e) g = omega (arith, one-count (subst (λ (x : Term). Finishes fuel area x m) e g) f)
        go u m (Memᴰ.tail i) g = most u m i g

    -- and else it changes nothing
    follows : (u : Term) (m : ℕ) → DearestOf ts u m → ((k : ℕ) → Finishes fuel area t k → k < m) → DearestOf (t ∷ ts) u m
    follows u m d fewer =
        record {
          among = Memᴰ.tail d.among;
          finishes = d.finishes;
          none_more = more;
          none-earlier = earlier;
        }
      where
        more : (v : Term) (k : ℕ) → Memᴰ v (t ∷ ts) → Finishes fuel area v k → k ≤ m
        more v k (Memᴰ.head e) g = omega (arith, fewer k (subst (λ (x : Term). Finishes fuel area x k) e g))
        more v k (Memᴰ.tail i) g = d.none_more v k i g

        earlier : (v : Term) → Memᴰ v (t ∷ ts) → Before (text v) (text u) → ¬ Finishes fuel area v m
        earlier v (Memᴰ.head e) h g = omega (arith, fewer m (subst (λ (x : Term). Finishes fuel area x m) e g))
        earlier v (Memᴰ.tail i) h g = d.none-earlier v i h g

    -- one that finishes, in front of the others
    given-finished : (k : ℕ) → Finishes fuel area t k → (o : Option Dear) → Given ts o → Given (t ∷ ts) (dearer (Dear.dear t k) o)
    given-finished k f none rest = leads k f (λ u m i g. absurd (rest u m i g))
    given-finished k f (some (Dear.dear u m)) rest = go (dec_le m k)
      where
        go : Dec (m ≤ k) → Given (t ∷ ts) (dearer (Dear.dear t k) (some (Dear.dear u m)))
        go (yes h) =
            subst (λ (b : Bool). Given (t ∷ ts) (cond b (some (Dear.dear t k)) (some (Dear.dear u m)))) (sym (le-leb m k h))
            (leads k f (λ v j i g. omega (arith, rest.none_more v j i g)))
        go (no h) =
            subst (λ (b : Bool). Given (t ∷ ts) (cond b (some (Dear.dear t k)) (some (Dear.dear u m)))) (sym (lt-leb m k (omega arith)))
            (follows u m rest (λ j g. omega (arith, one-count f g)))

    -- one that does not
    given-other : ((k : ℕ) → ¬ Finishes fuel area t k) → (o : Option Dear) → Given ts o → Given (t ∷ ts) o
    given-other never none rest = go
      where
        go : (u : Term) (m : ℕ) → Memᴰ u (t ∷ ts) → ¬ Finishes fuel area u m
        go u m (Memᴰ.head e) g = never m (subst (λ (x : Term). Finishes fuel area x m) e g)
        go u m (Memᴰ.tail i) g = rest u m i g
    given-other never (some (Dear.dear u m)) rest = follows u m rest (λ k g. absurd (never k g))

  -- the function gives the dearest of every list in byte order
  given : (ts : List Term) → Increasing (map text ts) → Given ts (dearest_in fuel area ts)
  given [] rises = λ u m i g. Memᴰ.not-nil i
  given (t ∷ ts) (Increasing.first before rest) = go (outcome (run fuel area t)) refl (given ts rest)
    where
      unlike : (o : Outcome) → outcome (run fuel area t) ≡ o → ¬ (o ≡ Outcome.finished) → (k : ℕ) → ¬ Finishes fuel area t k
      unlike o e other k f = other (sym e ∙ (finishes-at fuel area t k f).0)

      go :
          (o : Outcome) → outcome (run fuel area t) ≡ o → Given ts (dearest_in fuel area ts) →
          Given (t ∷ ts) (if_finished o (Dear.dear t (count (run fuel area t))) (dearest_in fuel area ts))
      go Outcome.finished e others =
          given-finished t ts before (count (run fuel area t))
          (record { made = run fuel area t; runs = run-runs fuel area t; ends = e; counts = refl }) (dearest_in fuel area ts) others
      go Outcome.spent e others =
          given-other t ts before (unlike Outcome.spent e (λ f. let z : ◌≡◌ {A = ℕ} 0 1 = cc in omega arith))
          (dearest_in fuel area ts) others
      go Outcome.no_room e others =
          given-other t ts before (unlike Outcome.no_room e (λ f. let z : ◌≡◌ {A = ℕ} 0 1 = cc in omega arith))
          (dearest_in fuel area ts) others

-- ---- of all small terms

-- there is one dearest
pub one-dearest : {n fuel area : ℕ} {t u : Term} {k m : ℕ} → Dearest n fuel area t k → Dearest n fuel area u m → (t ≡ u) × (k ≡ m)
one-dearest {n} {fuel} {area} {t} {u} {k} {m} d e =
    let same : k ≡ m = omega (arith, d.none_more u m e.small e.finishes, e.none_more t k d.small d.finishes) in
    let first : ¬ Before (text t) (text u) = λ h. e.none-earlier t d.small h (subst (Finishes fuel area t) same d.finishes) in
    let second : ¬ Before (text u) (text t) = λ h. d.none-earlier u e.small h (subst (Finishes fuel area u) (sym same) e.finishes) in
    (text_injective t u (before-total (text t) (text u) first second), same)

-- and of a size from 1 on the function gives it
pub gives_dearest :
    (n fuel area : ℕ) → 1 ≤ n →
    (t : Term) × (k : ℕ) × (or_none (dearest_in fuel area (small_terms n)) ≡ Dear.dear t k) × Dearest n fuel area t k
gives_dearest n fuel area sized = go (dearest_in fuel area (small_terms n)) (given fuel area (small_terms n) (each-small n).in_order)
  where
    go : (o : Option Dear) → Given fuel area (small_terms n) o → (t : Term) × (k : ℕ) × (or_none o ≡ Dear.dear t k) × Dearest n fuel area t k
    go none never =
        let (t, small, done) = some-finishes n fuel area sized in
        absurd
        (never t (count (run fuel area t)) ((each-small n).complete t small)
        (record { made = run fuel area t; runs = run-runs fuel area t; ends = done; counts = refl }))
    go (some (Dear.dear t k)) d = (
      t,
      k,
      refl,
      record {
        small = (each-small n).nothing_else t d.among;
        finishes = d.finishes;
        none_more = λ u m small f. d.none_more u m ((each-small n).complete u small) f;
        none-earlier = λ u small h f. d.none-earlier u ((each-small n).complete u small) h f;
      },
    )

-- so whatever is the dearest, the function gives
pub dearest-is : {n fuel area : ℕ} {t : Term} {k : ℕ} → 1 ≤ n → Dearest n fuel area t k
    → or_none (dearest_in fuel area (small_terms n)) ≡ Dear.dear t k
dearest-is {n} {fuel} {area} {t} {k} sized d =
    let (u, m, e, f) = gives_dearest n fuel area sized in
    let (same, steps) = one-dearest f d in
    e ∙ ap₂ (λ (x : Term) (j : ℕ). Dear.dear x j) same steps

-- ---- each reply

module _ (n fuel area : ℕ) where
  -- the dearest of all small terms
  abbrev pub best : Dear
  best = or_none (dearest_in fuel area (small_terms n))

  -- what the relation says is answered
  as-found : {reply : Reply Dear} → FindsAs n fuel area reply → dearest_of n fuel area ≡ reply
  unfolding dearest_of
  as-found (FindsAs.refuses r) = ap (λ (u : Reply Unit). if_admitted u best) (refused-is r)
  as-found (FindsAs.finds a d) =
      ap (λ (u : Reply Unit). if_admitted u best) (admitted-is a)
      ∙ ap (λ (x : Dear). Reply.answered x) (dearest-is a.small.0 d)

  -- what is answered the relation says
  pub found_as_lem : FindsAs n fuel area (dearest_of n fuel area)
  unfolding dearest_of
  found_as_lem = go (decided n fuel area)
    where
      go : {reply : Reply Unit} → Decided n fuel area reply → FindsAs n fuel area (if_admitted reply best)
      go (Decided.refuses r) = FindsAs.refuses r
      go (Decided.admits a) =
          let (t, k, e, d) = gives_dearest n fuel area a.small.0 in
          subst (λ (x : Dear). FindsAs n fuel area (Reply.answered x)) (sym e) (FindsAs.finds a d)

  -- so a reply is the answer exactly where the relation says it
  pub finds-exactly : (reply : Reply Dear) → (dearest_of n fuel area ≡ reply) ↔ FindsAs n fuel area reply
  finds-exactly reply = (λ e. subst (FindsAs n fuel area) e found_as_lem, as-found)
