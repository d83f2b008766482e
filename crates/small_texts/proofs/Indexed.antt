-- The text with an index: it is that of a small term, and what is written in place of a slice that is as long. Carried by how many there
-- are (`length-texts`) and by what the list holds (`listed_small`). Assumes nothing.
use Prim.Native.Nat.{ℕ, ◌≤◌, ◌<◌}
use native.Mathlib.Omega.{arith}
use mathlib.Core.Path.{◌≡◌, sym, ◌∙◌, ap}
use mathlib.Core.Bool.{Bool, cond}
use mathlib.Core.List.{List, []}
use lib.ListN.{length, get_or, length-map, get_or-map}
use borrow.Author.Tests.{le-leb, lt-ltb}
use Rattle.calculus.specs.Term.{Term, text}
use Rattle.calculus.proofs.PrefixCode.{length-text}
use Rattle.small_texts.specs.Small.{Small, Before}
use Rattle.small_texts.specs.Texts.{largest_size, texts, text_at, term_in, term_at, small_terms, ways}
use Rattle.small_texts.specs.Writing.{how_many, written}
use Rattle.small_texts.proofs.Ordered.{member, index_of, at-earlier, texts_rise}
use Rattle.small_texts.proofs.Each.{term_in_lem, small-listed, listed_small}
use Rattle.small_texts.proofs.HowMany.{length-texts}

-- ---- the text of a small term

module _ (n i : ℕ) (inside : i < ways 1 n) where
  -- the text with an index is that of a small term
  pub is-text : (t : Term) × (text_at n i ≡ text t) × Small n t
  is-text = listed_small n (text_at n i) (member (texts 1 n) i (omega (arith, length-texts n 1)))

  -- of the one that is read from it
  pub text_at_lem : text_at n i ≡ text (term_at n i)
  text_at_lem = let (t, e, h) = is-text in e ∙ ap text (sym (ap term_in e ∙ term_in_lem t))

  -- and has n letters
  pub text-long : length (text_at n i) ≡ n
  text-long = let (t, e, h) = is-text in ap length e ∙ length-text t ∙ h.sized

-- and each small term has an index
pub has_place : (n : ℕ) (t : Term) → Small n t → (i : ℕ) × (i < ways 1 n) × (text t ≡ text_at n i)
has_place n t small =
    let (i, h, e) = index_of (texts 1 n) (text t) (small-listed n t small) in
    (i, omega (arith, length-texts n 1), e)

-- with an earlier text a smaller one
pub earlier-place : (n i j : ℕ) → i < ways 1 n → j < ways 1 n → Before (text_at n i) (text_at n j) → i < j
earlier-place n i j h k = at-earlier (texts_rise n 1) i j (omega (arith, length-texts n 1)) (omega (arith, length-texts n 1))

-- how many small terms there are
pub length-small : (n : ℕ) → length (small_terms n) ≡ ways 1 n
unfolding small_terms
length-small n = length-map (texts 1 n) term_in ∙ length-texts n 1

-- and which of them has an index
pub small_at : (n i : ℕ) → get_or (small_terms n) i (term_in []) ≡ term_at n i
unfolding small_terms
small_at n i = get_or-map term_in (texts 1 n) i []

-- ---- what is written

-- up to the largest size there are as many small terms as ways
pub how_many_lem : (n : ℕ) → n ≤ largest_size → ways 1 n ≡ how_many n
how_many_lem n h = ap (λ (b : Bool). cond b (ways 1 n) 0) (sym (le-leb n largest_size h))

-- where there is a text, it is written
pub one_written : (i : ℕ) (s : List ℕ) → i < how_many (length s) → text_at (length s) i ≡ written i s
one_written i s h = ap (λ (b : Bool). cond b (text_at (length s) i) s) (sym (lt-ltb i (how_many (length s)) h))

-- so it is to a slice of a small size
pub text-written : (n i : ℕ) (s : List ℕ) → length s ≡ n → n ≤ largest_size → i < ways 1 n → written i s ≡ text_at n i
text-written n i s long small h = sym (one_written i s inside) ∙ ap (λ (m : ℕ). text_at m i) long
  where
    inside : i < how_many (length s)
    inside = omega (arith, ap how_many long, how_many_lem n small)
