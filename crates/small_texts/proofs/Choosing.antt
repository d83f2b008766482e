-- One letter of a text by its index: the turns of the loop of `choose`. The invariant: the text is that with index `left` among those that
-- begin with one of the letters not yet tried. Assumes nothing.
use Prim.Native.Nat.{ℕ, zero, suc, ◌+◌, ◌-◌, ◌≤◌, ◌<◌}
use native.Mathlib.Numerals.{add-one}
use native.Mathlib.Omega.{arith}
use mathlib.Core.Path.{◌≡◌, refl, sym, ◌∙◌, ap, ap₂, subst}
use Rattle.std.proofs.Common.{Some}
use mathlib.Core.List.{List, [], ◌∷◌, ◌++◌, map}
use lib.ListN.{length, get_or, drop}
use lib.Seq.{drop-cons}
use Rattle.calculus.specs.Letter.{Letter, byte, owed}
use Rattle.reading.specs.Arity.{arity_of}
use Rattle.reading.proofs.Scan.{owed_sum, arity-byte}
use Rattle.small_texts.specs.Texts.{letters, led, texts, ways}
use Rattle.small_texts.specs.Writing.{Chosen}
use Rattle.small_texts.proofs.HowMany.{summed, length-texts, ways-none}

-- an element of a list with a byte in front of each, or of the list behind it
here : (b : ℕ) (ss us : List (List ℕ)) (i : ℕ) → i < length ss → get_or (map (λ s. b ∷ s) ss ++ us) i [] ≡ b ∷ get_or ss i []
here b [] us i h = absurd (omega arith)
here b (s ∷ ss) us zero h = refl
here b (s ∷ ss) us (suc i) h = here b ss us i (omega arith)

there : (b : ℕ) (ss us : List (List ℕ)) (i : ℕ) → length ss ≤ i → get_or (map (λ s. b ∷ s) ss ++ us) i [] ≡ get_or us (i - length ss) []
there b [] us i h = let e : i ≡ i - 0 = omega arith in ap (λ (j : ℕ). get_or us j []) e
there b (s ∷ ss) us zero h = absurd (omega arith)
there b (s ∷ ss) us (suc i) h =
    let e : i - length ss ≡ suc i - suc (length ss) = omega arith in
    there b ss us i (omega arith) ∙ ap (λ (j : ℕ). get_or us j []) e

-- what is owed behind a letter whose byte takes so many
owed-behind : (l : Letter) (b k parts : ℕ) → b ≡ byte l → Some parts ≡ arity_of b → k + parts ≡ owed l k
owed-behind l b k parts e takes =
    let same : Some parts ≡ Some (owed l 0) = takes ∙ sym (arity-byte l b e) in
    let own : parts ≡ owed l 0 = cc in
    omega (arith, own, owed_sum l k)

-- there is a text only if a term is owed, and as many letters as terms
pub owes : (owing n i : ℕ) → i < ways owing (suc n) → (1 ≤ owing) × (owing ≤ suc n)
owes owing n i h = (some owing h, omega (arith, few))
  where
    some : (owing : ℕ) → i < ways owing (suc n) → 1 ≤ owing
    some zero h = absurd (omega arith)
    some (suc k) h = omega arith

    few : suc n < owing → ⊥
    few larger = let none = ways-none (suc n) owing larger in omega arith

-- the byte of a letter of a list
byte_of : (ls : List Letter) (i : ℕ) → i < length ls → get_or (map byte ls) i 0 ≡ byte (get_or ls i Letter.R)
byte_of [] i h = absurd (omega arith)
byte_of (l ∷ ls) zero h = refl
byte_of (l ∷ ls) (suc i) h = byte_of ls i (omega arith)

-- the texts that begin with a letter, where so many terms are owed with it
abbrev begun : (owing n : ℕ) → Letter → List (List ℕ)
begun owing n l = texts (owed l (owing - 1)) n

abbrev begun_ways : (owing n : ℕ) → Letter → ℕ
begun_ways owing n l = ways (owed l (owing - 1)) n

-- no letter before i is the first, and of the texts that begin with a later one it is that with the index left
pub record Untried (owing n index i left : ℕ) : Type 0 where
  pub same : get_or (texts owing (suc n)) index [] ≡ get_or (led (drop i letters) (begun owing n)) left []
  pub within : left < summed (drop i letters) (begun_ways owing n)

-- the byte of the letter with that index, from 0
abbrev pub letter_at : ℕ → ℕ
letter_at i = get_or (map byte letters) i 0

-- each byte of the letters takes some number of terms
pub some-arity : (b i : ℕ) → b ≡ letter_at i → i < 7 → Some (owed (get_or letters i Letter.R) 0) ≡ arity_of b
some-arity b i e h = arity-byte (get_or letters i Letter.R) b (e ∙ byte_of letters i h)

module _ (owing n index i left b parts : ℕ) (r : Untried owing n index i left) (inside : i < 7)
    (spells : b ≡ letter_at i) (takes : Some parts ≡ arity_of b) where
  abbrev letter : Letter
  letter = get_or letters i Letter.R

  abbrev others : List Letter
  others = drop (suc i) letters

  cut : drop i letters ≡ letter ∷ others
  cut = drop-cons letters i Letter.R inside

  byte_at : b ≡ byte letter
  byte_at = spells ∙ byte_of letters i inside

  is-owed : owing - 1 + parts ≡ owed letter (owing - 1)
  is-owed = owed-behind letter b (owing - 1) parts byte_at takes

  at-letter : get_or (texts owing (suc n)) index [] ≡ get_or (led (letter ∷ others) (begun owing n)) left []
  at-letter = r.same ∙ ap (λ (ls : List Letter). get_or (led ls (begun owing n)) left []) cut

  counted : ways (owing - 1 + parts) n ≡ length (begun owing n letter)
  counted = ap (λ (k : ℕ). ways k n) is-owed ∙ sym (length-texts n (owed letter (owing - 1)))

  -- the letter is the first
  pub found : left < ways (owing - 1 + parts) n → Chosen owing n index b (owing - 1 + parts) left
  found h =
      record {
        says =
            at-letter
            ∙ here (byte letter) (begun owing n letter) (led others (begun owing n)) left (omega (arith, counted))
            ∙ ap₂ (λ (x k : ℕ). x ∷ get_or (texts k n) left []) (sym byte_at) (sym is-owed);
        within = h;
      }

  -- a later letter is the first
  pub passed : ways (owing - 1 + parts) n ≤ left → Untried owing n index (i + 1) (left - ways (owing - 1 + parts) n)
  passed h =
      let f : List Letter → ℕ = λ ls. summed ls (begun_ways owing n) in
      let sum : left < begun_ways owing n letter + f others = subst (λ (ls : List Letter). left < f ls) cut r.within in
      let same_count : begun_ways owing n letter ≡ ways (owing - 1 + parts) n = ap (λ (k : ℕ). ways k n) (sym is-owed) in
      let on : drop (suc i) letters ≡ drop (i + 1) letters = ap (λ (j : ℕ). drop j letters) (sym (add-one i)) in
      record {
        same =
            at-letter
            ∙ there (byte letter) (begun owing n letter) (led others (begun owing n)) left (omega (arith, counted))
            ∙ ap₂ (λ (j : ℕ) (ls : List Letter). get_or (led ls (begun owing n)) j []) (ap (λ (c : ℕ). left - c) (sym counted)) on;
        within = subst (λ (ls : List Letter). left - ways (owing - 1 + parts) n < f ls) on (omega (arith, sum, same_count));
      }
