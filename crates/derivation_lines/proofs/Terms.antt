-- Reading answers exactly where the bytes are a term's text. Assumes nothing.
use Prim.Native.Nat.{ℕ, zero, suc}
use mathlib.Core.Path.{◌≡◌, refl, sym, ◌∙◌, ap}
use mathlib.Core.Bool.{Bool, true, false}
use mathlib.Core.List.{List, [], ◌∷◌}
use mathlib.Core.Option.{Option, none, some}
use lib.Dec.{eqb}
use Rattle.std.specs.Prelude.{Result, Ok, Err, is_ok}
use Rattle.reading.specs.Reply.{Reply, number_in}
use Rattle.reading.specs.Reading.{at_letter, reading_from, reading_of}
use Rattle.reading.specs.Answer.{answer_of}
use Rattle.reading.specs.declared.Misread.{Misread}
use Rattle.reading.specs.declared.Misread.TheVariants.{NoLetter, NotWhole, Beyond}
use Rattle.calculus.specs.Letter.{Letter, letter_of, owed}
use Rattle.calculus.specs.Term.{Term}
use Rattle.calculus.specs.Parse.{Item, one, two, push, items, single, term_of}
use Rattle.types.specs.Tests.{is_some}

-- ---- a term

-- the items are that many whole terms and no more
abbrev wholes : ℕ → List Item → Bool
wholes zero [] = true
wholes zero (i ∷ is) = false
wholes (suc k) [] = false
wholes (suc k) (Item.loose b ∷ is) = false
wholes (suc k) (Item.whole t ∷ is) = wholes k is

one_taken : (k b : ℕ) (node : Term → Term) (is : List Item) → wholes (suc k) (one b node is) ≡ wholes (suc k) is
one_taken k b node [] = refl
one_taken k b node (Item.loose c ∷ is) = refl
one_taken k b node (Item.whole t ∷ is) = refl

two_taken : (k b : ℕ) (node : Term → Term → Term) (is : List Item) → wholes (suc k) (two b node is) ≡ wholes (suc (suc k)) is
two_taken k b node [] = refl
two_taken k b node (Item.loose c ∷ is) = refl
two_taken k b node (Item.whole t ∷ []) = refl
two_taken k b node (Item.whole t ∷ Item.loose c ∷ is) = refl
two_taken k b node (Item.whole t ∷ Item.whole u ∷ is) = refl

-- a letter in front of items leaves some
two-some : (b : ℕ) (node : Term → Term → Term) (is : List Item) → wholes 0 (two b node is) ≡ false
two-some b node [] = refl
two-some b node (Item.loose c ∷ is) = refl
two-some b node (Item.whole t ∷ []) = refl
two-some b node (Item.whole t ∷ Item.loose c ∷ is) = refl
two-some b node (Item.whole t ∷ Item.whole u ∷ is) = refl

one-some : (b : ℕ) (node : Term → Term) (is : List Item) → wholes 0 (one b node is) ≡ false
one-some b node [] = refl
one-some b node (Item.loose c ∷ is) = refl
one-some b node (Item.whole t ∷ is) = refl

some_item : (b : ℕ) (o : Option Letter) (is : List Item) → wholes 0 (push b o is) ≡ false
some_item b none is = refl
some_item b (some Letter.J) is = refl
some_item b (some Letter.R) is = one-some b Term.R is
some_item b (some Letter.H) is = two-some b Term.H is
some_item b (some Letter.A) is = two-some b Term.A is
some_item b (some Letter.I) is = refl
some_item b (some Letter.B) is = two-some b Term.B is
some_item b (some Letter.stop) is = two-some b Term.app is
some_item b (some (Letter.bell k)) is = refl

-- reading has no number exactly where the items are the terms owed
reading_items : (k place : ℕ) (bytes : List ℕ) → eqb (number_in (reading_from k place bytes)) 0 ≡ wholes k (items bytes)
reading_items zero place [] = refl
reading_items zero place (b ∷ bytes) = sym (some_item b (letter_of b) (items bytes))
reading_items (suc k) place [] = refl
reading_items (suc k) place (b ∷ bytes) = go (letter_of b) (λ n. reading_items n (suc place) bytes)
  where
    go :
        (o : Option Letter) → ((n : ℕ) → eqb (number_in (reading_from n (suc place) bytes)) 0 ≡ wholes n (items bytes)) →
        eqb (number_in (at_letter o place (λ l. reading_from (owed l k) (suc place) bytes))) 0 ≡ wholes (suc k) (push b o (items bytes))
    go none later = refl
    go (some Letter.J) later = later k
    go (some Letter.R) later = later (suc k) ∙ sym (one_taken k b Term.R (items bytes))
    go (some Letter.H) later = later (suc (suc k)) ∙ sym (two_taken k b Term.H (items bytes))
    go (some Letter.A) later = later (suc (suc k)) ∙ sym (two_taken k b Term.A (items bytes))
    go (some Letter.I) later = later k
    go (some Letter.B) later = later (suc (suc k)) ∙ sym (two_taken k b Term.B (items bytes))
    go (some Letter.stop) later = later (suc (suc k)) ∙ sym (two_taken k b Term.app (items bytes))
    go (some (Letter.bell l)) later = later k

-- reading has no number exactly where the bytes are a term's text
pub reading_term : (bytes : List ℕ) → eqb (number_in (reading_of bytes)) 0 ≡ is_some (term_of bytes)
unfolding reading_of term_of
reading_term bytes = reading_items 1 0 bytes ∙ one-item (items bytes)
  where
    one-item : (is : List Item) → wholes 1 is ≡ is_some (single is)
    one-item [] = refl
    one-item (Item.loose b ∷ is) = refl
    one-item (Item.whole t ∷ []) = refl
    one-item (Item.whole t ∷ i ∷ is) = refl

-- what reading answers of bytes that are a term's text, and of others
pub reads : (bytes : List ℕ) (r : Result ℕ Misread) → answer_of r ≡ reading_of bytes → is_ok r ≡ is_some (term_of bytes)
reads bytes r e = whole r ∙ ap (λ (reply : Reply ℕ). eqb (number_in reply) 0) e ∙ reading_term bytes
  where
    whole : (r : Result ℕ Misread) → is_ok r ≡ eqb (number_in (answer_of r)) 0
    whole (Ok size) = refl
    whole (Err (NoLetter place)) = refl
    whole (Err (NotWhole place)) = refl
    whole (Err (Beyond place)) = refl
