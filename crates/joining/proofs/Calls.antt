-- What a call of joining comes to: the function is the relation. Assumes nothing.
use Prim.Native.Nat.{ℕ, ◌≤◌, ◌<◌}
use native.Mathlib.Omega.{arith}
use mathlib.Core.Path.{◌≡◌, refl, sym, ◌∙◌, ap, ap₂, subst}
use mathlib.Core.Logic.{◌↔◌}
use mathlib.Core.Bool.{Bool, true, false}
use mathlib.Core.List.{List}
use borrow.Author.Tests.{ltb-true, ltb-false, lt-ltb, le-ltb}
use lib.Dec.{ltb}
use lib.ListN.{length}
use Rattle.calculus.specs.Term.{Term, text, size}
use Rattle.reading.specs.Reply.{Reply, refuse_if}
use Rattle.reading.specs.Reading.{reading_of, ReadsAs, term_read}
use Rattle.reading.specs.Area.{holding}
use Rattle.reading.proofs.Whole.{reads_as, reads_as_only}
use Rattle.reading.proofs.Terms.{term-read, whole-read, refused-read}
use Rattle.joining.specs.Join.{join}
use Rattle.joining.specs.Joining.{After, admitted, written, joining_of}
use Rattle.joining.specs.Joins.{JoinsAs}

-- what is read decides
module _ (f g area : List ℕ) where
  pub read-decides : {x y : Reply Term} → term_read f ≡ x → term_read g ≡ y → joining_of f g area ≡ written (admitted x y area) area
  unfolding joining_of
  read-decides d e = ap₂ (λ (first second : Reply Term). written (admitted first second area) area) d e

  -- a refusal of f does, whatever is read of g
  pub first-decides :
      {number place : ℕ} → term_read f ≡ Reply.refused number place → joining_of f g area ≡ After.after (Reply.refused number place) area
  first-decides d = read-decides d refl

  -- two terms are joined where the join has room
  module _ {t u : Term} (d : term_read f ≡ Reply.answered t) (e : term_read g ≡ Reply.answered u) where
    abbrev by-room : (large : Bool) → After
    by-room large = written (refuse_if large 31 (Reply.answered (join t u))) area

    pub large-decides : length area < size (join t u) → joining_of f g area ≡ After.after (Reply.refused 31 0) area
    large-decides h = read-decides d e ∙ ap by-room (lt-ltb _ _ h)

    pub small-decides :
        size (join t u) ≤ length area → joining_of f g area ≡ After.after (Reply.answered (size (join t u))) (holding (join t u) area)
    small-decides h = read-decides d e ∙ ap by-room (le-ltb _ _ h)

-- ---- the relation

-- what the definition answers and leaves, in the relation
abbrev pub JoinsTo : (f g area : List ℕ) → After → Type 0
JoinsTo f g area (After.after reply area') = JoinsAs f g area reply area'

pub joins-to : (f g area : List ℕ) → JoinsTo f g area (joining_of f g area)
joins-to f g area = go (reading_of f) (reading_of g) refl refl
  where
    sized :
        (t u : Term) (large : Bool) → ltb (length area) (size (join t u)) ≡ large → f ≡ text t → g ≡ text u →
        JoinsTo f g area (written (refuse_if large 31 (Reply.answered (join t u))) area)
    sized t u true h d e = JoinsAs.too_large t u d e (omega (arith, ltb-true (length area) (size (join t u)) h))
    sized t u false h d e = JoinsAs.joined t u d e (omega (arith, ltb-false (length area) (size (join t u)) h))

    by :
        {x y : Reply Term} → term_read f ≡ x → term_read g ≡ y → JoinsTo f g area (written (admitted x y area) area) →
        JoinsTo f g area (joining_of f g area)
    by d e found = subst (JoinsTo f g area) (sym (read-decides f g area d e)) found

    go : (x y : Reply ℕ) → reading_of f ≡ x → reading_of g ≡ y → JoinsTo f g area (joining_of f g area)
    go (Reply.refused n p) y d e =
        by (refused-read f n p (sym d)) refl (JoinsAs.first-refused (subst (ReadsAs f) d (reads_as f)))
    go (Reply.answered n) (Reply.refused m p) d e =
        let (t, same, sized, read) = whole-read f n (sym d) in
        by read (refused-read g m p (sym e)) (JoinsAs.second-refused t same (subst (ReadsAs g) e (reads_as g)))
    go (Reply.answered n) (Reply.answered m) d e =
        let (t, same₁, sized₁, read₁) = whole-read f n (sym d) in
        let (u, same₂, sized₂, read₂) = whole-read g m (sym e) in
        by read₁ read₂ (sized t u (ltb (length area) (size (join t u))) refl same₁ same₂)

joins-only :
    {f g area area' : List ℕ} {reply : Reply ℕ} → JoinsAs f g area reply area' → joining_of f g area ≡ After.after reply area'
joins-only {f} {g} {area} (JoinsAs.first-refused {number = n} {place = p} r) =
    first-decides f g area (refused-read f n p (sym (reads_as_only r)))
joins-only {f} {g} {area} (JoinsAs.second-refused {number = n} {place = p} t d r) =
    read-decides f g area (ap term_read d ∙ term-read t) (refused-read g n p (sym (reads_as_only r)))
joins-only {f} {g} {area} (JoinsAs.too_large t u d e h) =
    large-decides f g area (ap term_read d ∙ term-read t) (ap term_read e ∙ term-read u) (omega (arith, h))
joins-only {f} {g} {area} (JoinsAs.joined t u d e h) =
    small-decides f g area (ap term_read d ∙ term-read t) (ap term_read e ∙ term-read u) (omega (arith, h))

-- the function is the relation
pub joins_exactly :
    (f g area area' : List ℕ) (reply : Reply ℕ) → (joining_of f g area ≡ After.after reply area') ↔ JoinsAs f g area reply area'
joins_exactly f g area area' reply = (λ e. subst (JoinsTo f g area) e (joins-to f g area), joins-only)
