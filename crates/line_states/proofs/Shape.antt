-- Which bytes no line of three fields begins with, and which bytes are one: the laws of `parts_of` that a line fed byte by byte needs.
-- Carried by what holds of the first line (`first-uncut`, `first-begun`). Assumes nothing.
use Prim.Native.Nat.{ℕ}
use native.Mathlib.Omega.{arith}
use mathlib.Core.Path.{◌≡◌, refl, ◌∙◌, ap, ap₂}
use mathlib.Core.Bool.{Bool, true, false}
use mathlib.Core.Option.{Option, none, some}
use mathlib.Core.List.{List, [], ◌∷◌, ◌++◌, append_assoc}
use lib.Dec.{eqb}
use Rattle.slices.specs.Split.{tab, line_feed, cons_first, cut_or, split, fields}
use Rattle.slices.specs.Numeral.{decimal_of}
use Rattle.slices.proofs.Splitting.{Free, free-append, pieces, split-front, split-piece, split-last}
use Rattle.slices.proofs.Splitting.{First, first-map, Uncut, Begun, first-uncut, first-begun}
use Rattle.line_states.specs.Parts.{Parts, parts_with, parts_fields, parts_lines, parts_of}

-- a line up to the end of its third field
abbrev pub three_fields : (first second third : List ℕ) → List ℕ
three_fields first second third = first ++ (tab ∷ (second ++ (tab ∷ third)))

-- a field: neither mark of a line stands in it
abbrev pub Field : List ℕ → Type 0
Field s = Free tab s × Free line_feed s

-- a line whose fields are not three, or whose numbers are none
abbrev Unparted : List ℕ → Type 0
Unparted line = parts_fields (fields line) ≡ none

lines_none : (line : List ℕ) (others : List (List ℕ)) → Unparted line → parts_lines (line ∷ others) ≡ none
lines_none line [] e = refl
lines_none line ([] ∷ []) e = e
lines_none line ((b ∷ bytes) ∷ []) e = refl
lines_none line (next ∷ other ∷ more) e = refl

first-line-none : {bytes : List ℕ} → First line_feed Unparted bytes → parts_of bytes ≡ none
unfolding parts_of
first-line-none f = ap parts_lines f.cut ∙ lines_none f.first f.others f.holds

first-none : (a : List ℕ) (others : List (List ℕ)) → decimal_of a ≡ none → parts_fields (a ∷ others) ≡ none
first-none a [] e = refl
first-none a (b ∷ []) e = refl
first-none a (b ∷ c ∷ []) e = ap (λ (o : Option ℕ). parts_with o (decimal_of b) c) e
first-none a (b ∷ c ∷ d ∷ more) e = refl

with_none_lem : (o : Option ℕ) (third : List ℕ) → parts_with o none third ≡ none
with_none_lem none third = refl
with_none_lem (some n) third = refl

second_none : (a b : List ℕ) (others : List (List ℕ)) → decimal_of b ≡ none → parts_fields (a ∷ b ∷ others) ≡ none
second_none a b [] e = refl
second_none a b (c ∷ []) e = ap (λ (o : Option ℕ). parts_with (decimal_of a) o c) e ∙ with_none_lem (decimal_of a) c
second_none a b (c ∷ d ∷ more) e = refl

four_none : (a b c : List ℕ) (others : List (List ℕ)) (d : List ℕ) (more : List (List ℕ)) → others ≡ d ∷ more
    → parts_fields (a ∷ b ∷ c ∷ others) ≡ none
four_none a b c others d more e = ap (λ (ps : List (List ℕ)). parts_fields (a ∷ b ∷ c ∷ ps)) e

behind-none : (line : List ℕ) (b : ℕ) (u : Bool) (ps : List (List ℕ)) (first : List ℕ) (others : List (List ℕ)) → ps ≡ first ∷ others
    → parts_lines (line ∷ cut_or u b ps) ≡ none
behind-none line b true ps first others e = ap (λ (qs : List (List ℕ)). parts_lines (line ∷ cut_or true b qs)) e
behind-none line b false ps first [] e = ap (λ (qs : List (List ℕ)). parts_lines (line ∷ cut_or false b qs)) e
behind-none line b false ps first (next ∷ more) e = ap (λ (qs : List (List ℕ)). parts_lines (line ∷ cut_or false b qs)) e

-- ---- no line

-- one field
pub first_open : (f : List ℕ) → Free tab f → parts_of f ≡ none
first_open f free = first-line-none (first-map Unparted (λ p e. ap parts_fields e) (first-uncut tab line_feed f free))

-- a first field that is no number
pub first_dead : (f rest : List ℕ) → Free tab f → decimal_of f ≡ none → parts_of (f ++ (tab ∷ rest)) ≡ none
first_dead f rest free e = first-line-none (first-map Unparted unparted (first-begun tab line_feed (omega arith) f rest free))
  where
    unparted : (p : List ℕ) → Begun tab f p → Unparted p
    unparted p (Begun.uncut one) = ap parts_fields one
    unparted p (Begun.begun q more) = ap parts_fields more ∙ first-none f (fields q) e

module _ (f : List ℕ) (f-field : Field f) where
  -- the first line goes on behind a first field
  behind-first : (P : List ℕ → Type 0) (s : List ℕ) → ((p : List ℕ) → P p → parts_fields (f ∷ fields p) ≡ none) → First line_feed P s
      → parts_of (f ++ (tab ∷ s)) ≡ none
  behind-first P s h g =
      first-line-none
      (record {
        first = f ++ (tab ∷ g.first);
        others = g.others;
        cut = split-front line_feed f (tab ∷ s) f-field.1 (ap (cons_first tab) g.cut);
        holds = ap parts_fields (split-piece tab f g.first f-field.0) ∙ h g.first g.holds;
      })

  -- two fields
  pub second-open : (a : List ℕ) → Free tab a → parts_of (f ++ (tab ∷ a)) ≡ none
  second-open a free =
      behind-first (Uncut tab) a (λ p e. ap (λ (ps : List (List ℕ)). parts_fields (f ∷ ps)) e) (first-uncut tab line_feed a free)

  -- a second field that is no number
  pub second-dead : (a rest : List ℕ) → Free tab a → decimal_of a ≡ none → parts_of (f ++ (tab ∷ (a ++ (tab ∷ rest)))) ≡ none
  second-dead a rest free e = behind-first (Begun tab a) (a ++ (tab ∷ rest)) unparted (first-begun tab line_feed (omega arith) a rest free)
    where
      unparted : (p : List ℕ) → Begun tab a p → parts_fields (f ∷ fields p) ≡ none
      unparted p (Begun.uncut one) = ap (λ (ps : List (List ℕ)). parts_fields (f ∷ ps)) one
      unparted p (Begun.begun q more) = ap (λ (ps : List (List ℕ)). parts_fields (f ∷ ps)) more ∙ second_none f a (fields q) e

  module _ (a t : List ℕ) (a-field : Field a) (t-field : Field t) where
    three-free : Free line_feed (three_fields f a t)
    three-free =
        free-append line_feed f (tab ∷ (a ++ (tab ∷ t))) f-field.1
        (omega arith, free-append line_feed a (tab ∷ t) a-field.1 (omega arith, t-field.1))

    three-then : (rest : List ℕ) (others : List (List ℕ)) → split tab (t ++ rest) ≡ t ∷ others
        → split tab (three_fields f a t ++ rest) ≡ f ∷ a ∷ t ∷ others
    three-then rest others e =
        ap (split tab) (append_assoc f (tab ∷ (a ++ (tab ∷ t))) rest ∙ ap (λ (s : List ℕ). f ++ (tab ∷ s)) (append_assoc a (tab ∷ t) rest))
        ∙ split-piece tab f (a ++ (tab ∷ (t ++ rest))) f-field.0
        ∙ ap (λ (ps : List (List ℕ)). f ∷ ps) (split-piece tab a (t ++ rest) a-field.0 ∙ ap (λ (ps : List (List ℕ)). a ∷ ps) e)

    three-fields : split tab (three_fields f a t) ≡ f ∷ a ∷ t ∷ []
    three-fields =
        split-piece tab f (a ++ (tab ∷ t)) f-field.0
        ∙ ap (λ (ps : List (List ℕ)). f ∷ ps)
        (split-piece tab a t a-field.0 ∙ ap (λ (ps : List (List ℕ)). a ∷ ps) (split-last tab t t-field.0))

    -- no line feed
    pub third-open : parts_of (three_fields f a t) ≡ none
    unfolding parts_of
    third-open = ap parts_lines (split-last line_feed (three_fields f a t) three-free)

    -- a third tab
    pub tab-dead : (rest : List ℕ) → parts_of (three_fields f a t ++ (tab ∷ rest)) ≡ none
    tab-dead rest =
        let g = pieces line_feed rest in
        let h = pieces tab g.first in
        first-line-none
        (record {
          first = three_fields f a t ++ (tab ∷ g.first);
          others = g.others;
          cut = split-front line_feed (three_fields f a t) (tab ∷ rest) three-free (ap (cons_first tab) g.cut);
          holds =
              ap parts_fields (three-then (tab ∷ g.first) (split tab g.first) (split-piece tab t g.first t-field.0))
              ∙ four_none f a t (split tab g.first) h.first h.others h.cut;
        })

    -- bytes behind the line feed
    pub ended-dead : (b : ℕ) (rest : List ℕ) → parts_of (three_fields f a t ++ (line_feed ∷ b ∷ rest)) ≡ none
    unfolding parts_of
    ended-dead b rest =
        let g = pieces line_feed rest in
        ap parts_lines (split-piece line_feed (three_fields f a t) (b ∷ rest) three-free)
        ∙ behind-none (three_fields f a t) b (eqb b line_feed) (split line_feed rest) g.first g.others g.cut

    -- ---- a line

    -- the line feed behind three fields, two of them numbers
    pub ended-parts : (n m : ℕ) → decimal_of f ≡ some n → decimal_of a ≡ some m
        → parts_of (three_fields f a t ++ (line_feed ∷ [])) ≡ some (Parts.parts n m t)
    unfolding parts_of
    ended-parts n m first second =
        ap parts_lines (split-piece line_feed (three_fields f a t) [] three-free)
        ∙ ap parts_fields three-fields
        ∙ ap₂ (λ (x y : Option ℕ). parts_with x y t) first second
